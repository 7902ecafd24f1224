-- The run is one of the span's, so it lies on the drive and its first byte is known.
-- Its cursor stands right by the law of cursors.
use Prim.Native.Nat.{◌^◌, ◌-◌}
use mathlib.Core.Path.{◌≡◌, sym, ◌∙◌}
use native.Mathlib.Omega.{arith}
use Rattle.wire.proofs.Numbers.{product_below}
use Rattle.geometry.proofs.Answers.{at_sector, no_sector}
use Rattle.transfer.proofs.Cursors.{cursor_begins}
use Rattle.transfer.proofs.Tracks.{run_inside}
use Rattle.unit.specs.Standing.{geometry}
use Rattle.geometry.specs.Answers.{sector_at}
use Rattle.transfer.proofs.carry.next_run.Goals as goal

pub unreachable-requires : goal.unreachable-requires
unreachable-requires c =
    let sector_is : let a = c.args in
    c.sector.result ≡ sector_at (geometry a.u.now) c.run_at-run.result.place = rw c.geometry.ensures at c.sector.ensures in
    let a = c.args in
    let run = c.run_at-run in
    (omega (
      arith,
      no_sector (geometry a.u.now) run.result.place (sym sector_is ∙ c.in_default.is),
      run_inside a.u.now a.span.volume _ _ run.result (omega (arith, c.requires)) run.ensures,
      run.ensures,
    ))

pub overflow_mul-result : goal.overflow_mul-result
overflow_mul-result c =
    record { fits = product_below c.run_at-run.result.sectors c.bytes_a_sector.result 65535 65535 (2 ^ 64) (omega arith) (omega arith) tt }

pub overflow_add-result : goal.overflow_add-result
overflow_add-result c = omega (arith, c.run_at-run.ensures.asked, c.struct_known-2-1.given)

pub returns : goal.returns
returns c =
    let sector_is : let a = c.args in
    c.sector.result ≡ sector_at (geometry a.u.now) c.run_at-run.result.place = rw c.geometry.ensures at c.sector.ensures in
    let a = c.args in
    let run = c.run_at-run in
    let pre = c.requires in
    let at = at_sector (geometry a.u.now) run.result.place _ (sym sector_is ∙ c.in-Some.is) in
    rw (at.1.0, c.bytes_a_sector.ensures, c.geometry-2.ensures)
    (cursor_begins a.u.now a.span a.next (a.span.count - a.next) run.result (omega (arith, pre)) run.ensures (omega (arith, pre)) (omega (arith, pre)))
