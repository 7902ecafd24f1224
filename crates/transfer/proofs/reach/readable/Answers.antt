-- Every mark before the i-th is good; the loop is left at the first that is not, or at the end.
-- A transfer that heeds no mark passes all of them.
use mathlib.Core.Bool.{true}
use mathlib.Core.Path.{◌≡◌}
use native.Mathlib.Numerals.{add-one}
use native.Mathlib.Omega.{arith}
use Rattle.wire.proofs.Decided.{all_more}
use Rattle.wire.proofs.Promises.{says_no, says_set}
use Rattle.transfer.proofs.reach.readable.Goals as goal

pub returns-then-not-heeds : goal.returns-then-not-heeds
returns-then-not-heeds c =
    let heeds = c.args.heeds in
    record {
      most = omega arith;
      good = λ i h e. absurd (says_no heeds (heeds ≡ true) c.if-not-heeds.true (says_set heeds) e);
      ends = λ h. absurd (omega arith);
    }

pub loop-i-init : goal.loop-i-init
loop-i-init c = λ k h. absurd (omega arith)

pub returns-then-image-at-ne0 : goal.returns-then-image-at-ne0
returns-then-image-at-ne0 c =
    let now = c.loop-i in
    record {
      most = omega arith;
      good = λ i h e. now.invariant i h;
      ends = λ h. (c.if-not-heeds.false, λ e. omega arith);
    }

pub loop-i-preserved : goal.loop-i-preserved
loop-i-preserved c =
    let now = c.loop-i in rw add-one (all_more _ now.i now.invariant (omega arith))

pub returns : goal.returns
returns c =
    let done : c.loop-i.i ≡ c.args.n = omega arith in
    record { most = omega arith; good = λ i h e. (rw done at c.loop-i.invariant) i h; ends = λ h. absurd (omega arith) }
