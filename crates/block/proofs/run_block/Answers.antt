-- The verdict is that on the block's task. A refused block is only finished; an accepted one is performed first.
use Rattle.std.proofs.Common.{Err, Ok}
use mathlib.Core.Path.{◌≡◌, refl, sym, ap, ◌∙◌}
use native.Mathlib.Omega.{arith}
use lib.ListN.{length}
use Rattle.unit.specs.Standing.{CountsAsInitialized, UnitRecord, unit_of}
use Rattle.wire.specs.Promise.{Says}
use Rattle.iopb.specs.Ask.{task_of}
use Rattle.judge.specs.Given.{Asked, on}
use Rattle.judge.specs.Verdict.{verdict}
use Rattle.judge.proofs.LetThrough.{plan_fits}
use Rattle.block.specs.declared.Done.{Done}
use Rattle.block.specs.Block.{Drive, finish}
use Rattle.iopb.specs.declared.Block.{Block}
use Rattle.block.specs.Steps.{acted_on, done_of, drive_with, finished}
use Rattle.block.proofs.Effects.{effect_judged, then_made, told_of_it}
use Rattle.block.proofs.Held.{held_table, held_told, holder_keeps, performed_held}
use Rattle.block.proofs.run_block.Goals as goal

pub judge-requires : goal.judge-requires
judge-requires c = c.settled-counts.ensures

pub finish-requires : goal.finish-requires
finish-requires c = c.requires.0

pub perform-p-requires : goal.perform-p-requires
perform-p-requires c =
    let drive : Drive = let a = c.args in
    drive_with a.unit.now a.image.now in
    let block : Block = c.read-b.result in
    let asks : Asked = let host = c.args.host.now in
    on c.args.c drive.unit (length drive.image) (task_of host block) host in
    let judgement : c.judge.result ≡ verdict asks = rw c.task.ensures at c.judge.ensures in
    (c.requires.0.block, plan_fits asks _ (sym judgement ∙ c.in-Ok.is))

pub finish-done-requires : goal.finish-done-requires
finish-done-requires c =
    let block : Block = c.read-b.result in
    let room = c.requires.0 in
    record { block = omega (arith, room.block, c.perform-p.auto.host); entry = room.entry }

pub returns-in-Err : goal.returns-in-Err
returns-in-Err c =
    let drive : Drive = let a = c.args in
    drive_with a.unit.now a.image.now in
    let block : Block = c.read-b.result in
    let asks : Asked = let host = c.args.host.now in
    on c.args.c drive.unit (length drive.image) (task_of host block) host in
    let judgement : c.judge.result ≡ verdict asks = rw c.task.ensures at c.judge.ensures in
    let a = c.args in
    let read = c.read-b.ensures in
    let x = Err c.in-Err.r in
    let e = finished a.c block a.at a.i x (acted_on a.host.now drive a.at x) in
    let f = c.finish in
    let is = c.refuse.ensures in
    let done = told_of_it block e _ _ (rw is at f.ensures.result) c.settled-counts.ensures ∙ ap (λ (x : Block). done_of x e) read in
    rw (effect_judged a.c a.host.now drive a.at a.i block x read (sym judgement ∙ c.in-Err.is))
    (record {
      result = ap (λ (d : Done). d.told) done;
      unit = refl;
      stored = rw is at (f.ensures.stored a.image.now);
    })

pub returns-in-Ok : goal.returns-in-Ok
returns-in-Ok c =
    let drive : Drive = let a = c.args in
    drive_with a.unit.now a.image.now in
    let block : Block = c.read-b.result in
    let asks : Asked = let host = c.args.host.now in
    on c.args.c drive.unit (length drive.image) (task_of host block) host in
    let judgement : c.judge.result ≡ verdict asks = rw c.task.ensures at c.judge.ensures in
    let then = c.counts_then-then in
    let a = c.args in
    let read = c.read-b.ensures in
    let d = drive in
    let reserve = block.options.reserve in
    let made = acted_on a.host.now d a.at (Ok c.in-Ok.plan) in
    let e = finished a.c block a.at a.i (Ok c.in-Ok.plan) made in
    let is_plan = sym judgement ∙ c.in-Ok.is in
    let f = c.finish-done in
    let p = c.perform-p in
    let h = c.hold-p in
    let is = h.ensures ∙ performed_held a.c reserve c.in-Ok.plan.leaving p.result made p.ensures.result in
    let done =
    told_of_it block e _ _ (rw is at f.ensures.result)
    (holder_keeps a.c reserve (λ (u : UnitRecord). Says then.result (CountsAsInitialized u)) (held_told then.result) c.in-Ok.plan.leaving made.answer made.unit
    (then.ensures d.unit made.sectors c.settled-counts.ensures
    (plan_fits asks c.in-Ok.plan is_plan).leaving))
    ∙ ap (λ (x : Block). done_of x e) read in
    let tracks = p.ensures.table ∙ held_table a.c reserve c.in-Ok.plan.leaving made.answer made.unit in
    rw (effect_judged a.c a.host.now d a.at a.i block (Ok c.in-Ok.plan) read is_plan)
    (record {
      result = c.leave.ensures.told ∙ ap (λ (d : Done). d.told) done;
      unit = c.leave.ensures.unit ∙ (λ i. unit_of ((ap (λ (d : Done). d.unit) done) i) (tracks i));
      stored =
          then_made made.stores (finish block a.at a.i made.answer made.travel) _ _ _ (p.ensures.stored a.events.now)
          (rw is at (f.ensures.stored p.new.image));
    })
