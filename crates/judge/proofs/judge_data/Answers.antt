-- Check 19 asks for the bytes of one sector where the data lies.
-- The spot that is handed in is the track's first sector, so the plan is that of the task.
use mathlib.Core.Path.{sym, ◌∙◌}
use Rattle.wire.proofs.Promises.{says_no, says_yes}
use Rattle.judge.proofs.Tasks.{data_19, data_done}
use Rattle.judge.proofs.judge_data.Goals as goal

pub returns-then-not-holds : goal.returns-then-not-holds
returns-then-not-holds c =
    let held = c.holds in
    sym (data_19 _ _ _ _ _ (says_no held.result _ c.if-not-holds.true (rw c.sector_bytes.ensures.0 at held.ensures)))

pub returns : goal.returns
returns c =
    let held = c.holds in
    let done = data_done _ _ _ _ _ (says_yes held.result _ c.if-not-holds.false (rw c.sector_bytes.ensures.0 at held.ensures)) in
    c.formatted.ensures ∙ rw c.requires (sym done)
