-- Every track before the k-th stands in the bytes; the loop is left at the first that does not, or at the end.
use Prim.Native.Nat.{ℕ, ◌+◌, ◌*◌, ◌<◌}
use mathlib.Core.Path.{◌≡◌}
use lib.ListN.{get_or}
use Rattle.wire.specs.Words.{be32}
use Rattle.abi.proofs.layouts.holds_tracks.Given as goal

abbrev pub invariant-loop-k : goal.invariant-loop-k
invariant-loop-k l = (i : ℕ) → i < l.k → be32 l.bytes (20 + 4 * i) ≡ get_or l.table i 0
