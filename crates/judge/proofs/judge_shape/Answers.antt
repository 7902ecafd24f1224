-- Checks 12 and 13 are the two ways in which an initialize is refused.
-- Tasks has each case.
use mathlib.Core.Path.{sym, ◌∙◌}
use Rattle.wire.proofs.Promises.{says_no, says_yes}
use Rattle.judge.proofs.Passing.{passed_on, stops_there}
use Rattle.judge.proofs.Tasks.{shape_given, shape_misplaced, shape_outside}
use Rattle.judge.proofs.judge_shape.Goals as goal

pub returns-in_err-g : goal.returns-in_err-g
returns-in_err-g c κ u image host =
    stops_there _ _ c.ok_or.ensures.value c.in_err-g.was c.from_residual.ensures.1 (λ none. rw none (shape_misplaced κ u image host))

pub returns-then-is_within : goal.returns-then-is_within
returns-then-is_within c κ u image host =
    let within = says_yes c.is_within.result _ c.if-is_within.true c.is_within.ensures in
    rw (passed_on _ _ c.ok_or.ensures.value c.in_ok-g.was) (c.only.ensures ∙ sym (shape_given κ u image host _ within))

pub returns-else-is_within : goal.returns-else-is_within
returns-else-is_within c κ u image host =
    let outside = says_no c.is_within.result _ c.if-is_within.false c.is_within.ensures in
    rw (passed_on _ _ c.ok_or.ensures.value c.in_ok-g.was) (sym (shape_outside κ u image host _ outside))
