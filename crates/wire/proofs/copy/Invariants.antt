-- After i turns the first i bytes are copied and nothing else has changed.
-- A turn copies one byte more; after n turns all are copied.
use Prim.Native.Nat.{◌≤◌, ◌-◌}
use mathlib.Core.Path.{◌≡◌}
use lib.ListN.{length}
use Rattle.wire.specs.Copy.{copied}
use Rattle.wire.proofs.copy.Given as goal

abbrev pub invariant-loop-i : goal.invariant-loop-i
invariant-loop-i l = (l.i ≤ l.n) × ((l.into ≡ copied l.bytes l.from l.initial.into l.to l.i) × (length l.into ≡ length l.initial.into))

abbrev pub decreases-loop-i : goal.decreases-loop-i
decreases-loop-i l = l.n - l.i
