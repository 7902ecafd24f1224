-- After each turn the bytes so far are carried, by the law of one run more; the buffers keep their lengths.
-- The cursor is ready before each copy, and its run lies in the image.
use Prim.Native.Nat.{◌+◌}
use mathlib.Core.Path.{◌≡◌, refl}
use native.Mathlib.Omega.{arith}
use lib.ListN.{length}
use Rattle.transfer.specs.Runs.{behind, lent}
use Rattle.transfer.proofs.Stores.{copied_run}
use Rattle.transfer.proofs.Carrying.{carry_more, carry_none, on_here, run_held}
use Rattle.transfer.proofs.carry.carry_piece.Goals as goal

pub loop-done-init : goal.loop-done-init
loop-done-init c =
    let a = c.args in
    let pre = c.requires in
    (omega arith, (refl, (refl, carry_none a.u.now a.span a.to_host (behind a.u.now a.from) a.at _ a.from pre.on)))

pub ready-r-requires : goal.ready-r-requires
ready-r-requires c =
    let a = c.args in
    let pre = c.requires in
    let inv = c.loop-done.invariant in
    let on = inv.1.1.1.on in
    (pre.spans, (on_here a.u.now a.span _ c.loop-done.c on, omega (arith, on.here, pre.bytes)))

pub copy_run-requires : goal.copy_run-requires
copy_run-requires c =
    let a = c.args in
    let pre = c.requires in
    let inv = c.loop-done.invariant in
    let r = c.ready-r in
    let n = c.lesser-bytes in (
      omega (arith, pre.memory, inv),
      rw (← inv.1.1.0) at
          (run_held a.u.now a.span (length a.image.now) _ n.result r.result pre.held r.ensures (omega arith) (omega (arith, r.ensures.some))),
    )

pub on-c-requires : goal.on-c-requires
on-c-requires c =
    let a = c.args in
    let r = c.ready-r in
    let n = c.lesser-bytes in
    let held =
    run_held a.u.now a.span (length a.image.now) _ n.result r.result c.requires.held r.ensures (omega arith)
    (omega (arith, r.ensures.some)) in
    (omega arith, omega arith)

pub loop-done-preserved : goal.loop-done-preserved
loop-done-preserved c =
    let a = c.args in
    let pre = c.requires in
    let now = c.loop-done in
    let r = c.ready-r in
    let n = c.lesser-bytes in
    let done = c.copy_run in
    let held =
    run_held a.u.now a.span (length a.image.now) _ n.result r.result pre.held r.ensures (omega arith)
    (omega (arith, r.ensures.some)) in
    let both : lent done.new.host done.new.image ≡ copied_run a.to_host (lent now.host now.image) r.result.at (a.at + now.done) n.result =
    λ i. lent (done.ensures.to i) (done.ensures.from i) in (
      omega arith,
      (
        omega arith,
        (
          omega arith,
          rw (c.on-c.ensures, both)
              (carry_more a.u.now a.span a.to_host (behind a.u.now a.from) a.at (lent a.host.now a.image.now)
              now.done n.result (lent now.host now.image) now.c r.result now.invariant.1.1.1
              (rw now.invariant.1.1.1.on.here at r.ensures)
              (omega arith) (omega arith) (omega (arith, pre.memory))),
        ),
      ),
    )

pub returns : goal.returns
returns c =
    let done : c.loop-done.done ≡ c.args.n = omega arith in
    rw done at c.loop-done.invariant.1.1.1
