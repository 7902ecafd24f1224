-- After i turns the first i slots are filled and the others are 0.
-- A turn fills one slot more.
use Rattle.memory.proofs.Lists.{one_more_piece}
use mathlib.Core.Path.{◌≡◌, refl}
use native.Mathlib.Omega.{arith}
use Rattle.memory.specs.Pieces.{addresses_of, lengths_of}
use Rattle.memory.proofs.copied.Goals as goal

pub loop-i-init : goal.loop-i-init
unfolding lengths_of addresses_of
loop-i-init c = (refl, refl)

pub loop-i-preserved : goal.loop-i-preserved
loop-i-preserved c =
    let a = c.args in
    let e = c.read-e in
    one_more_piece a.host.now a.at c.loop-i.i e.result c.from.result _ _ e.ensures c.from.ensures
    c.loop-i.invariant.0
    c.loop-i.invariant.1

pub returns : goal.returns
returns c =
    let done : c.loop-i.i ≡ c.args.n = omega arith in
    let inv = c.loop-i.invariant in
    λ j. record { lengths = (rw done at inv.0) j; addresses = (rw done at inv.1) j }
