-- The address's own spot tells whether the drive has it.
-- If so, it lands on the track that serves its own.
use mathlib.Core.Path.{sym, ◌∙◌}
use Rattle.unit.proofs.Answers.{nowhere, own_spot}
use Rattle.unit.proofs.Unit.land_at.Goals as goal

pub serve-requires : goal.serve-requires
serve-requires c = own_spot _ _ _ (sym c.spot.ensures ∙ c.in_ok-own.was)

pub returns-in_err-own : goal.returns-in_err-own
returns-in_err-own c = c.from_residual.ensures ∙ nowhere _ _ (sym c.spot.ensures ∙ c.in_err-own.was)
