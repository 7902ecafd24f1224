-- After i turns the first i bytes are copied and nothing else has changed.
-- A turn copies one byte more; after n turns all are copied.
use mathlib.Core.Path.{◌≡◌, refl}
use native.Mathlib.Omega.{arith}
use lib.ListN.{drop, length-set}
use lib.Seq.{paste-zero}
use Rattle.wire.proofs.Laws.{copied_more}
use Rattle.wire.proofs.copy.Goals as goal

pub loop-i-init : goal.loop-i-init
loop-i-init c = (omega arith, (paste-zero c.args.into.now c.args.to (drop c.args.from c.args.bytes.now), refl))

pub loop-i-preserved : goal.loop-i-preserved
loop-i-preserved c =
    let a = c.args in
    let at-loop = c.loop-i in (
      omega arith,
      (
        rw at-loop.invariant.1.0
            (copied_more a.bytes.now a.into.now a.from a.to at-loop.i (omega arith) (omega arith)),
        simp length-set at-loop.invariant.1.1,
      ),
    )

pub returns : goal.returns
returns c =
    let done : c.loop-i.i ≡ c.args.n = omega arith in
    rw done at c.loop-i.invariant.1.0
