-- What is stored word by word and byte by byte is the layout's bytes in a row.
-- At fixed places each store computes to stores of single bytes, and these are the same on both sides.
use Prim.Native.Nat.{ℕ, ◌+◌}
use mathlib.Core.Bool.{Bool}
use mathlib.Core.List.{List, [], ◌∷◌, ◌++◌}
use mathlib.Core.Path.{◌≡◌, refl}
use native.Mathlib.Numerals.{add-one}
use lib.ListN.{set, take}
use Rattle.geometry.specs.declared.Geometry.{Geometry}
use Rattle.geometry.specs.declared.Volume.{Volume}
use Rattle.unit.specs.Standing.{UnitRecord, cylinder, geometry, initialized, pairs, table}
use Rattle.abi.specs.Layouts.{geometry_bytes, head_bytes, opening_bytes, order_and_holder, outcome_bytes, track_bytes, volume_bytes}
use Rattle.abi.specs.Unread.{known}
use Rattle.wire.specs.Storing.{stored, two_bytes, with16, with32, written}

pub two_stored : (bytes : List ℕ) (at a b : ℕ) → set (set bytes at a) (at + 1) b ≡ written bytes at (a ∷ b ∷ [])
unfolding written
two_stored bytes at a b = simp add-one

pub opening_stored :
    (bytes : List ℕ) (flag : ℕ) →
    written (written bytes 0 (0x02 ∷ flag ∷ [])) 2 (0x01 ∷ 0x14 ∷ []) ≡ written bytes 0 (0x02 ∷ flag ∷ 0x01 ∷ 0x14 ∷ [])
unfolding written
opening_stored bytes flag = refl

-- A geometry, from what the code stored one after the other, and a record.
pub geometry_stored :
    (bytes : List ℕ) (c s b : ℕ) (v w : Volume) →
    written (written (with16 (with16 (with16 bytes 4 c) 6 s) 8 b) 10 (volume_bytes v)) 12 (volume_bytes w)
    ≡ written bytes 4 (two_bytes c ++ two_bytes s ++ two_bytes b ++ volume_bytes v ++ volume_bytes w)
unfolding written stored
geometry_stored bytes c s b v w = refl

pub record_stored :
    (bytes : List ℕ) (u : UnitRecord) {i : Bool} {g : Geometry} {y n m k : ℕ} {first second third fourth fifth : List ℕ} →
    i ≡ initialized u → g ≡ geometry u → y ≡ cylinder u → n ≡ pairs u → m ≡ pairs u → k ≡ known m (table u) →
    first ≡ written bytes 0 (opening_bytes i) →
    second ≡ written first 4 (geometry_bytes g) →
    third ≡ with16 second 14 y →
    fourth ≡ written third 16 (order_and_holder u) →
    fifth ≡ with16 fourth 18 n →
    written fifth 20 (track_bytes (take k (table u))) ≡ written bytes 0 (head_bytes u ++ track_bytes (take (known (pairs u) (table u)) (table u)))
unfolding written stored
record_stored bytes u is-i is-g is_y is-n is_m is-k one two three four five =
    rw (five, four, three, two, one, is-k, is_m, is-n, is_y, is-g, is-i) refl

-- An outcome, in the same way.
pub outcome_stored :
    (bytes : List ℕ) (answer failed blocks sectors : ℕ) →
    with32
    (with32 (written (written (with32 bytes 0 0x02000010) 4 (answer ∷ failed ∷ [])) 6 (0x00 ∷ 0x00 ∷ [])) 8 blocks)
    12 sectors
    ≡ written bytes 0 (outcome_bytes answer failed blocks sectors)
unfolding written stored
outcome_stored bytes answer failed blocks sectors = refl
