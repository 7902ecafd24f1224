-- After i turns the first i sectors are filled, and the next one begins where they end.
-- A turn is one copy, by the law of one sector more.
use mathlib.Core.Path.{refl}
use native.Mathlib.Nat.{zero-mul}
use native.Mathlib.Omega.{arith}
use Rattle.transfer.specs.Stores.{after, up_to}
use Rattle.transfer.proofs.Filling.{fill_more}
use Rattle.transfer.proofs.carry.fill.Goals as goal

pub loop-i-init : goal.loop-i-init
unfolding after up_to
loop-i-init c = rw zero-mul refl

pub loop-i-preserved : goal.loop-i-preserved
loop-i-preserved c =
    let a = c.args in
    let now = c.loop-i in
    rw c.copy.ensures
    (fill_more a.host.now a.image.now a.first a.at a.bytes c.requires.0 now.i now.image
    (grind arith) now.invariant)
