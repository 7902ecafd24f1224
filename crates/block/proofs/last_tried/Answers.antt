-- The last sector tried is one of the span's, which the volume has; so its landing is there.
use Prim.Native.Nat.{◌+◌}
use mathlib.Core.Path.{◌≡◌, sym, ap, ◌∙◌}
use native.Mathlib.Omega.{arith}
use Rattle.transfer.specs.Progress.{last_tried}
use Rattle.unit.proofs.Answers.{at_landing, no_landing}
use Rattle.unit.specs.declared.Spot.{Spot}
use Rattle.unit.specs.Answers.{landing}
use Rattle.block.proofs.last_tried.Goals as goal

pub overflow_add-span : goal.overflow_add-span
overflow_add-span c =
    let all = rw c.geometry.ensures at c.volume_sectors-all.ensures in
    let pre = c.requires in
    omega (arith, pre.inside, pre.some, all, c.from-last.ensures, c.min.ensures)

pub unreachable-requires : goal.unreachable-requires
unreachable-requires c =
    let land_is : let a = c.args in
    c.land.result ≡ landing a.u.now a.span.volume (a.span.first + last_tried a.sectors a.span.count) = rw (c.from-last.ensures, c.min.ensures) at c.land.ensures in
    let a = c.args in
    let n = a.span.first + last_tried a.sectors a.span.count in
    let past = no_landing a.u.now a.span.volume n (sym land_is ∙ c.in_default.is) in
    omega (arith, past, c.requires.inside, c.requires.some)

pub returns : goal.returns
returns c =
    let land_is : let a = c.args in
    c.land.result ≡ landing a.u.now a.span.volume (a.span.first + last_tried a.sectors a.span.count) = rw (c.from-last.ensures, c.min.ensures) at c.land.ensures in
    let a = c.args in
    let n = a.span.first + last_tried a.sectors a.span.count in
    let landed = at_landing a.u.now a.span.volume n c.in-Some.spot (sym land_is ∙ c.in-Some.is) in
    ap (λ (x : Spot). x.cylinder) landed.1
