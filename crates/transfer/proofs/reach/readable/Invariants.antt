-- Every mark before the i-th is good; the loop is left at the first that is not, or at the end.
-- A transfer that heeds no mark passes all of them.
use Prim.Native.Nat.{ℕ, ◌+◌, ◌<◌}
use mathlib.Core.Path.{◌≡◌}
use lib.ListN.{get_or}
use Rattle.transfer.proofs.reach.readable.Given as goal

abbrev pub invariant-loop-i : goal.invariant-loop-i
invariant-loop-i l = (k : ℕ) → k < l.i → get_or l.image (l.at + k) 0 ≡ 0
