-- The geometry's answer tells whether the volume has the number.
-- If so, its address is on the drive, and landing there is landing.
use mathlib.Core.Path.{sym, ◌∙◌}
use Rattle.unit.proofs.Answers.{found_lands, not_found_lands}
use Rattle.unit.proofs.Unit.land.Goals as goal

pub returns : goal.returns
returns c = c.land_at.ensures ∙ found_lands _ _ _ _ (sym c.address.ensures ∙ c.in_ok-a.was)

pub returns-in_err-a : goal.returns-in_err-a
returns-in_err-a c = c.from_residual.ensures ∙ not_found_lands _ _ _ (sym c.address.ensures ∙ c.in_err-a.was)
