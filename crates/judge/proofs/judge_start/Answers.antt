-- A start that the volume does not have is refused by 16.
-- Any other has a number, and the transfer begins there.
use mathlib.Core.Path.{sym, ◌∙◌}
use native.Mathlib.Omega.{arith}
use Rattle.judge.proofs.Passing.{passed_on, stops_there}
use Rattle.judge.proofs.Tasks.{start_nowhere}
use Rattle.judge.proofs.judge_start.Goals as goal

pub judge_span-requires : goal.judge_span-requires
judge_span-requires c = record { starts = sym c.number.ensures ∙ passed_on _ _ c.ok_or.ensures.value c.in_ok-n.was; some = omega arith }

pub returns-in_err-n : goal.returns-in_err-n
returns-in_err-n c =
    stops_there _ _ c.ok_or.ensures.value c.in_err-n.was c.from_residual.ensures.1 (λ none. start_nowhere _ _ _ _ _ (sym c.number.ensures ∙ none))
