-- A record comes back from its numbers.
-- A byte is its own remainder by 256, and of the two flags only that of an initialized unit is 1.
use Prim.Native.Nat.{◌<◌}
use mathlib.Core.Bool.{Bool, cond, false, true}
use mathlib.Core.Path.{◌≡◌, refl}
use native.Mathlib.Nat.{mod-eq_of_lt}
use lib.Dec.{eqb}
use Rattle.geometry.specs.declared.Volume.{Volume}
use Rattle.geometry.specs.declared.VolumeNumber.TheVariants.{Zero, One}
use Rattle.geometry.specs.Drive.{N, goes_by_head, start, volume}
use Rattle.unit.specs.declared.Record.{Record}
use Rattle.unit.specs.RecordNumbers.{as_numbers, in_numbers}
use Rattle.unit.proofs.Holders.{holder_back}

flag_back : (b : Bool) → eqb (cond b 1 0) 1 ≡ b
flag_back true = refl
flag_back false = refl

-- The heads of a volume are bytes.
pub record Bytes (v : Volume) : Type 0 where
  pub start : start v < 256
  pub heads : N v < 256

pub record_back : (r : Record) → Bytes (volume r.geometry Zero) → Bytes (volume r.geometry One) → in_numbers (as_numbers r) ≡ r
unfolding as_numbers in_numbers
record_back r zero one =
    rw (
      mod-eq_of_lt zero.start,
      mod-eq_of_lt zero.heads,
      mod-eq_of_lt one.start,
      mod-eq_of_lt one.heads,
      flag_back r.initialized,
      holder_back r.holder,
      flag_back (goes_by_head r.geometry),
    )
