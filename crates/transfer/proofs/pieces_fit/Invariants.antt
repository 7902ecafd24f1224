-- Every piece before the i-th lies in memory, and what they do not have of the bytes is left.
-- A piece outside refuses all; at the end nothing may be left.
use Prim.Native.Nat.{ℕ, ◌+◌, ◌-◌, ◌≤◌, ◌<◌}
use mathlib.Core.Path.{◌≡◌}
use lib.ListN.{get_or}
use Rattle.transfer.specs.Runs.{sum}
use Rattle.transfer.proofs.pieces_fit.Given as goal

abbrev pub invariant-loop-i : goal.invariant-loop-i
invariant-loop-i l =
    ((k : ℕ) → k < l.i → get_or l.addresses k 0 + get_or l.lengths k 0 ≤ l.long) × (l.left ≡ l.bytes - sum (λ k. get_or l.lengths k 0) l.i)
