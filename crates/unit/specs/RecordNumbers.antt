-- A unit's record as numbers, for whoever hands one on without its type; its table stands beside it.
use Rattle.std.specs.Prelude.{ℕ, ◌%◌, cond, List, [], ◌∷◌, eqb, get_or}
use Rattle.geometry.specs.declared.VolumeNumber.TheVariants.{Zero, One}
use Rattle.geometry.specs.Drive.{B, C, N, S, goes_by_head, geometry_of, start, volume, volume_of, with_increment}
use Rattle.unit.specs.declared.Record.{Record}
use Rattle.unit.specs.HolderNumbers.{holder_number, holder_of}
use Rattle.unit.specs.Standing.{value_of}

-- The numbers of a record: 1 for an initialized unit; cylinders, sectors a track and bytes a sector; start head and heads of the two volumes;
-- the cylinder of the heads, the pairs that count, the number of the holder, and 1 for increment by head. (In the bytes of a record that crosses to C it is
-- the order that has a number, 01 by cylinder.)
unfoldable pub as_numbers : Record → List ℕ
as_numbers r =
    let g = r.geometry in
    let zero = volume g Zero in
    let one = volume g One in
    cond r.initialized 1 0 ∷ C g ∷ S g ∷ B g ∷ start zero ∷ N zero ∷ start one ∷ N one ∷ r.cylinder ∷ r.pairs ∷ holder_number r.holder ∷
    cond (goes_by_head g) 1 0 ∷ []

-- The record in some numbers. Heads are bytes.
unfoldable pub in_numbers : List ℕ → Record
in_numbers n =
    let byte : ℕ → ℕ = λ k. get_or n k 0 % 256 in
    let g = geometry_of (get_or n 1 0) (get_or n 2 0) (get_or n 3 0) (volume_of (byte 4) (byte 5)) (volume_of (byte 6) (byte 7)) in
    value_of (eqb (get_or n 0 0) 1) (with_increment (eqb (get_or n 11 0) 1) g) (get_or n 8 0) (get_or n 9 0) (holder_of (get_or n 10 0))
