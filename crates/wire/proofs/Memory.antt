-- Of two host memories as long as each other, a range lies in both or in neither.
-- Its address is the same number in both, and its end is compared with the length alone.
use Prim.Native.Nat.{ℕ}
use mathlib.Core.List.{List}
use mathlib.Core.Path.{◌≡◌}
use native.Mathlib.Omega.{arith}
use lib.ListN.{length}
use Rattle.wire.specs.Memory.{InMemory}

pub range_same : (h k : List ℕ) (at bytes : ℕ) → length h ≡ length k → InMemory h at bytes → InMemory k at bytes
range_same h k at bytes long i = record { even = i.even; inside = omega (arith, i.inside) }
