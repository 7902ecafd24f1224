-- Check 17 refuses an image that is too short.
-- A transfer that passes it is judged by its buffer.
use mathlib.Core.Path.{sym, ◌∙◌}
use native.Mathlib.Omega.{arith}
use Rattle.wire.proofs.Promises.{says_no, says_yes}
use Rattle.judge.proofs.Tasks.{image_17, image_on}
use Rattle.judge.proofs.judge_image.Goals as goal

pub returns-then-is_short : goal.returns-then-is_short
returns-then-is_short c =
    let short = c.is_short in
    sym (image_17 _ _ _ _ _ (says_yes short.result _ c.if-is_short.true short.ensures))

pub returns-else-is_short : goal.returns-else-is_short
returns-else-is_short c =
    let short = c.is_short in
    let long = says_no short.result _ c.if-is_short.false short.ensures in
    c.judge_buffer.ensures ∙ sym (image_on _ _ _ _ _ (omega arith))
