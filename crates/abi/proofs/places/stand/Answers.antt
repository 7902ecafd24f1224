-- A landing outside is refused. One at a place is on the drive, so that the geometry has the sector at that place.
-- The sector's two numbers are those of the definition.
use mathlib.Core.Path.{sym, ◌∙◌}
use native.Mathlib.Omega.{arith}
use Rattle.geometry.proofs.Answers.{at_sector, no_sector}
use Rattle.abi.proofs.places.stand.Goals as goal

pub unreachable-requires : goal.unreachable-requires
unreachable-requires c =
    let out = no_sector _ _ (sym c.sector.ensures ∙ c.in_default-sector.is) in
    omega (arith, out, c.requires _ c.in-Some.is)

pub returns-in_default : goal.returns-in_default
returns-in_default c = rw (c.in_default.is, c.code.ensures)

pub returns : goal.returns
returns c =
    let at = at_sector _ _ _ (sym c.sector.ensures ∙ c.in-Some-sector.is) in
    rw (c.in-Some.is, at.1.0, at.1.1)
