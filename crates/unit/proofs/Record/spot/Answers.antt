-- The geometry's answer tells whether the address is on the drive.
-- If so, its sector is below S, and the spot is the definition's.
use mathlib.Core.Path.{sym, ◌∙◌}
use native.Mathlib.Omega.{arith}
use Rattle.geometry.proofs.Answers.{at_placed}
use Rattle.unit.proofs.Answers.{at_its_spot, at_no_spot}
use Rattle.unit.proofs.Record.spot.Goals as goal

pub overflow_sub-result : goal.overflow_sub-result
overflow_sub-result c =
    let a = c.args in
    omega (arith, at_placed a.self.geometry a.a _ (sym c.place.ensures ∙ c.in_ok-place.was))

pub returns : goal.returns
returns c = rw c.sectors_a_track.ensures (at_its_spot _ _ _ (sym c.place.ensures ∙ c.in_ok-place.was))

pub returns-in_err-place : goal.returns-in_err-place
returns-in_err-place c = c.from_residual.ensures ∙ at_no_spot _ _ (sym c.place.ensures ∙ c.in_err-place.was)
