-- The run is made on the parts that are held, its lines are put in a row, and the parts that come back are what is held after it.
-- No run has more than 64 blocks, so there is room for its lines and an entry for each.
use Prim.Native.Nat.{◌≤◌}
use mathlib.Core.Path.{sym, ap, ◌∙◌}
use native.Mathlib.Omega.{arith}
use lib.ListN.{get_or}
use lib.Seq.{length-take-le}
use Rattle.transcript.specs.Session.{run_heard}
use Rattle.transcript.specs.Steps.{SessionLent, held_in, lent_of, went}
use Rattle.transcript.proofs.Plays.{blocks_few, run_ending, run_went}
use Rattle.transcript.proofs.Texts.{run_line_short}
use Rattle.transcript.proofs.play.run.Goals as goal

pub slice_bounds-run-end-2 : goal.slice_bounds-run-end-2
slice_bounds-run-end-2 c =
    let a = c.args in
    sym (length-take-le a.s.host a.host.now (omega arith))

pub slice_bounds-run-end-4 : goal.slice_bounds-run-end-4
slice_bounds-run-end-4 c =
    let a = c.args in
    sym (length-take-le a.s.image0 a.image0.now (omega arith))

pub slice_bounds-run-end-6 : goal.slice_bounds-run-end-6
slice_bounds-run-end-6 c =
    let a = c.args in
    sym (length-take-le a.s.image1 a.image1.now (omega arith))

pub put_run-next-requires : goal.put_run-next-requires
put_run-next-requires c = omega (arith, c.requires.0.text)

pub put_blocks-end-requires : goal.put_blocks-end-requires
put_blocks-end-requires c =
    let lent : SessionLent = lent_of c.args.host.now c.args.image0.now c.args.image1.now c.args.text.now c.args.units.now in
    let few : c.run-done.result.blocks ≤ 64 = blocks_few c.be32-first.result (get_or c.args.field.now 7 0) (held_in c.args.s lent) c.run-done.ensures in
    let r = c.run-done.result in
    let short = run_line_short c.number.result r.blocks r.sectors (omega arith) (omega arith) (omega arith) in (
      omega (arith, c.put_run-next.ensures.after, c.put_run-next.auto.text, few, short, c.requires.0.text),
      omega (arith, few, c.run-done.auto.events),
    )

pub returns : goal.returns
returns c =
    let lent : SessionLent = lent_of c.args.host.now c.args.image0.now c.args.image1.now c.args.text.now c.args.units.now in
    let few : c.run-done.result.blocks ≤ 64 = blocks_few c.be32-first.result (get_or c.args.field.now 7 0) (held_in c.args.s lent) c.run-done.ensures in
    let a = c.args in
    let run = c.run-done in
    let number = c.number in
    run_went a.s lent a.at c.requires.0 run.new.host run.new.image0 run.new.image1 run.new.events
    run.new.units run.result run.ensures run.auto.host run.auto.image0 run.auto.image1 number.ensures
    (omega arith) few (omega arith) c.put_run-next.ensures
    c.put_blocks-end.ensures ∙
    ap (λ e. went (run_heard e) a.at lent)
    (run_ending a.field.now c.requires.1.0 (held_in a.s lent) c.be32-first.ensures)
