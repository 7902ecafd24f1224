-- The first sector is compared with the volume's end, and the count with what is left from there.
-- Both hold exactly where the first sector and the last are inside; then the image is judged.
use mathlib.Core.Path.{sym, ◌∙◌}
use native.Mathlib.Omega.{arith}
use Rattle.judge.proofs.Tasks.{span_covers, span_first, span_inside, span_last}
use Rattle.judge.proofs.judge_span.Goals as goal

pub returns-then-sectors-n : goal.returns-then-sectors-n
returns-then-sectors-n c =
    let begins = c.requires in
    sym (span_first _ _ _ _ _ _ begins.starts (omega arith))

pub returns-then-sectors-n-2 : goal.returns-then-sectors-n-2
returns-then-sectors-n-2 c =
    let begins = c.requires in
    sym (span_last _ _ _ _ _ _ begins.starts begins.some (omega arith))

pub returns : goal.returns
returns c =
    let a = c.args in
    let begins = c.requires in
    let covers = span_covers a.standing.controller a.standing.unit.now a.standing.image a.host.now a.m a.n begins.starts begins.some (omega arith) in
    c.judge_image.ensures ∙ sym (span_inside _ _ _ _ _ covers)
