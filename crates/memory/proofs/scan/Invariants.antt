-- After i turns the answers are about the first i elements, and the sum is theirs.
-- A turn adds one element, and 64 elements of 16 bits keep the sum small.
use Prim.Native.Nat.{◌*◌, ◌≤◌}
use Rattle.memory.specs.Scan.{Scanned}
use Rattle.memory.proofs.scan.Given as goal

abbrev pub invariant-loop-i : goal.invariant-loop-i
invariant-loop-i l = Scanned l.host l.at l.i (record { counts = l.counts; ranges = l.ranges; sum = l.sum }) × (l.sum ≤ 65535 * l.i)
