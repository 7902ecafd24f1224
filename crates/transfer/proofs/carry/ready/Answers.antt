-- A cursor with bytes left is ready itself.
-- One whose run is used up has whole sectors behind it, and the next one is the span's.
use Rattle.transfer.proofs.Carrying.{next_sector}
use Rattle.transfer.proofs.carry.ready.Goals as goal

pub next_run-requires : goal.next_run-requires
next_run-requires c =
    let a = c.args in
    let pre = c.requires in
    let there = next_sector a.u.now a.span a.c c.if-c-gt0.false pre.1.1 in
    (there.0, (there.1, pre.0))
