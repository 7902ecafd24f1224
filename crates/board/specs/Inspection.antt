-- The inspection call (01, Answer numbers, last paragraph): which part of which image it hands back. It "still goes by place in the image" (02, K5),
-- and a unit whose table is not good is not initialized here too.
use Rattle.std.specs.Prelude.{ℕ, zero, suc, ◌+◌, ◌≤◌, ◌<◌, List, drop, take}
use Rattle.std.proofs.Math.Logic.{ite}
use Rattle.std.proofs.Math.Logic.Dec.{and as dec_and}
use Rattle.std.proofs.Math.Decide.{dec_le, dec_lt, map_dec}
use Rattle.geometry.specs.Drive.{B, drive_sectors, need}
use Rattle.geometry.specs.Sectors.{first_byte}
use Rattle.unit.specs.declared.UnitNumber.{UnitNumber}
use Rattle.unit.specs.declared.UnitNumber.TheVariants.{Zero, One}
use Rattle.unit.specs.Standing.{CountsAsInitialized, UnitRecord, geometry}
use Rattle.unit.proofs.Decided.{counts?}
use Rattle.board.specs.declared.inspection.Part.{Part}

-- "not initialized, place too large or image too short as in 17": none of it, of a unit's record, an image of so many bytes and
-- a place.
pub record Inspectable (u : UnitRecord) (long place : ℕ) : Type 0 where
  pub initialized : CountsAsInitialized u
  pub inside : place < drive_sectors (geometry u)
  pub image : need (geometry u) ≤ long

pub inspectable? : (u : UnitRecord) (long place : ℕ) → Dec (Inspectable u long place)
inspectable? u long place =
    map_dec (λ d. record { initialized = d.0; inside = d.1.0; image = d.1.1 }) (λ i. (i.initialized, (i.inside, i.image)))
    (dec_and (counts? u) (dec_and (dec_lt place (drive_sectors (geometry u))) (dec_le (need (geometry u)) long)))

-- "a part of length 0 at the start of unit 0's image"
abbrev pub no_part : Part
no_part = record { unit = Zero; at = 0; bytes = 0 }

-- The sector at a place of a unit, "as that part of the right unit's image".
abbrev pub sector_part : UnitNumber → UnitRecord → ℕ → ℕ → Part
sector_part n u long place =
    ite (inspectable? u long place) (record { unit = n; at = first_byte (geometry u) place; bytes = B (geometry u) }) no_part

-- "takes a unit and a sector place"; "Unit over 1" gives no part. Each unit has its record and the length of its image.
unfoldable pub part_of : (u0 u1 : UnitRecord) (long0 long1 : ℕ) (unit place : ℕ) → Part
part_of u0 u1 long0 long1 zero place = sector_part Zero u0 long0 place
part_of u0 u1 long0 long1 (suc zero) place = sector_part One u1 long1 place
part_of u0 u1 long0 long1 (suc (suc unit)) place = no_part

-- The bytes of a part, of the image that it names.
abbrev pub image_of : List ℕ → List ℕ → UnitNumber → List ℕ
image_of image0 image1 Zero = image0
image_of image0 image1 One = image1

abbrev pub bytes_of : List ℕ → List ℕ → Part → List ℕ
bytes_of image0 image1 p = take p.bytes (drop p.at (image_of image0 image1 p.unit))

-- Where a part lies: in the memory of the image that it names, so many bytes after that image's first. A place is a piece of memory and a byte in it.
abbrev pub base_of : (image0 image1 : ℕ × ℕ) → UnitNumber → ℕ × ℕ
base_of image0 image1 Zero = image0
base_of image0 image1 One = image1

abbrev pub lies_at : (image0 image1 : ℕ × ℕ) → Part → ℕ × ℕ
lies_at image0 image1 p = let base = base_of image0 image1 p.unit in (base.0, p.at + base.1)
