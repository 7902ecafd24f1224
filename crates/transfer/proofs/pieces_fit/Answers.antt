-- Every piece before the i-th lies in memory, and what they do not have of the bytes is left.
-- A piece outside refuses all; at the end nothing may be left.
use mathlib.Core.Path.{◌≡◌}
use native.Mathlib.Numerals.{add-one}
use native.Mathlib.Omega.{arith}
use lib.ListN.{length}
use Rattle.transfer.specs.Runs.{sum}
use Rattle.wire.proofs.Decided.{all_more}
use Rattle.wire.proofs.Promises.{says_eqb}
use Rattle.transfer.proofs.pieces_fit.Goals as goal

pub loop-i-init : goal.loop-i-init
unfolding sum
loop-i-init c = (λ k h. absurd (omega arith), omega arith)

pub returns-then-long-from : goal.returns-then-long-from
returns-then-long-from c = λ f. omega (arith, f.inside c.loop-i.i (omega arith))

pub loop-i-preserved : goal.loop-i-preserved
unfolding sum
loop-i-preserved c =
    let now = c.loop-i in
    (rw add-one (all_more _ now.i now.invariant.0 (omega arith)), rw add-one (omega arith))

pub returns : goal.returns
returns c =
    let now = c.loop-i in
    let done : now.i ≡ length c.args.lengths.now = omega arith in
    let so_far = rw done at now.invariant in
    says_eqb now.left 0 _
    (λ none. record { pairs = c.requires; inside = so_far.0; enough = omega (arith, so_far.1) })
    (λ some f. some (omega (arith, f.enough, so_far.1)))
