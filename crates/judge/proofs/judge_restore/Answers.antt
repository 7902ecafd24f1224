-- Check 11 is the one way in which a restore is refused.
-- Tasks has both cases.
use mathlib.Core.Path.{sym, ◌∙◌}
use Rattle.wire.proofs.Promises.{says_no, says_yes}
use Rattle.judge.proofs.Tasks.{restore_done, restore_refused}
use Rattle.judge.proofs.judge_restore.Goals as goal

pub returns-then-standing : goal.returns-then-standing
returns-then-standing c host told = c.restored.ensures ∙ sym (restore_done _ _ _ host (says_yes _ _ c.if-standing.true told))

pub returns-else-standing : goal.returns-else-standing
returns-else-standing c host told = sym (restore_refused _ _ _ host (says_no _ _ c.if-standing.false told))
