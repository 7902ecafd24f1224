-- The small drive of 01 ("Small drive, by hand"): its starred lines in one table, lines with bad tracks and spares (02, K7) in another, and lines of the same
-- drive counted by cylinder (02, K4) in a third.
use Rattle.answers.specs.declared.Refusal.{Refusal}
use Rattle.judge.specs.declared.Plan.{Plan}
use Rattle.std.specs.Prelude.{ℕ, zero, suc, ◌+◌, ◌<◌, Bool, true, false, List, [], ◌∷◌, ◌++◌, ◌≡◌, replicate, Err, Ok, Result, Some}
use Rattle.answers.specs.Numbers.{refusal_number}
use Rattle.geometry.specs.declared.Address.{Address}
use Rattle.geometry.specs.declared.Geometry.{Geometry}
use Rattle.geometry.specs.declared.VolumeNumber.{VolumeNumber}
use Rattle.geometry.specs.Drive.{geometry_of, volume_of, volume_sectors, with_increment}
use Rattle.geometry.specs.Sectors.{OnDrive, address, first_byte, numbered}
use Rattle.demands.specs.Tables.{ReachedByCommands}
use Rattle.judge.specs.Given.{Asked, on, start_number}
use Rattle.judge.specs.Plans.{carrying, job_of, number_there}
use Rattle.judge.specs.Verdict.{verdict}
use Rattle.request.specs.declared.Buffer.{Buffer}
use Rattle.request.specs.declared.Move.{Move}
use Rattle.request.specs.declared.Start.{Start}
use Rattle.request.specs.declared.Task.{Task}
use Rattle.spares.specs.Tracks.{track_number}
use Rattle.unit.specs.Landing.{spot_of}
use Rattle.unit.specs.declared.Controller.TheVariants.{First}
use Rattle.unit.specs.Standing.{UnitRecord, fresh, geometry, mapped}
use Rattle.unit.specs.Bytes.{OnSpare, Reaches}

-- "C = 10, S = 4, B = 64, volume 0 heads 0 and 1, volume 1 head 2"
abbrev pub drive : Geometry
drive = geometry_of 10 4 64 (volume_of 0 2) (volume_of 2 1)

abbrev pub unit : UnitRecord
unit = fresh drive

-- The same unit in either order: "its small drive has the bit on" (02, K4).
abbrev pub unit_by : (goes_by_head : Bool) → UnitRecord
unit_by by = fresh (with_increment by drive)

-- The same unit once two 85s have named cylinder 1, head 0 as bad with cylinder 9, head 2 as its spare, and cylinder 3, head 1 with cylinder 0,
-- head 2 (02, K5).
abbrev pub with_spares : UnitRecord
with_spares = mapped (mapped unit (track_number 1 0) (track_number 9 2)) (track_number 3 1) (track_number 0 2)

-- n elements of a list, of 64 bytes each and all of them at address 512.
unfoldable pub elements : ℕ → List ℕ
elements zero = []
elements (suc n) = 0 ∷ 64 ∷ 0 ∷ 0 ∷ 2 ∷ 0 ∷ 0 ∷ 0 ∷ elements n

-- Host memory: 65 elements, and room for 80 sectors.
abbrev pub host : List ℕ
host = elements 65 ++ replicate 5120 0

-- A read of volume 0 from a sector on, into host memory at 512, or through the list at 0.
abbrev pub move : Start → ℕ → Buffer → Move
move from count buffer =
    record {
      to_host = true;
      past_marks = false;
      target = record { volume = VolumeNumber.Zero; start = from };
      count = count;
      buffer = buffer;
    }

abbrev pub asking : (goes_by_head : Bool) → Move → ℕ → Asked
asking by m image = on First (unit_by by) image (Task.Move m) host

pub data Expected : Type 0 where
  passes : Expected
  answer : ℕ → Expected

-- A verdict refuses with a number.
abbrev pub RefusesWith : ℕ → Result Plan Refusal → Type 0
RefusesWith n (Err r) = refusal_number r ≡ n
RefusesWith n (Ok plan) = ⊥

-- What a table says of a request: the verdict refuses it with that answer, or has it done from the sector that it names.
abbrev pub Judged : (goes_by_head : Bool) → Move → ℕ → Expected → Type 0
Judged by m image (answer k) = RefusesWith k (verdict (asking by m image))
Judged by m image passes =
    verdict (asking by m image) ≡ Ok (carrying (job_of m (number_there (start_number (with_increment by drive) VolumeNumber.Zero m.target.start))))

-- A physical address of volume 0 has a number; the sector there and the next one stand at two places, and the heads end on the cylinder of the next.
pub record TwoFrom (by : Bool) (c h s first second cylinder : ℕ) : Type 0 where
  pub number : ℕ
  pub begins : numbered (with_increment by drive) VolumeNumber.Zero c h s ≡ Some number
  pub in_volume : number + 1 < volume_sectors (with_increment by drive) VolumeNumber.Zero
  pub here : (spot_of (unit_by by) VolumeNumber.Zero number).place ≡ first
  pub then : (spot_of (unit_by by) VolumeNumber.Zero (number + 1)).place ≡ second
  pub heads : (spot_of (unit_by by) VolumeNumber.Zero (number + 1)).cylinder ≡ cylinder

-- A spare named directly meets the bad track that it serves: two addresses of the unit with spares, and a byte of the image that both reach. All
-- that K7 asks of a table and two addresses holds of these, except that the second is on a spare.
pub record Meeting (a b : Address) (x : ℕ) : Type 0 where
  pub reached : ReachedByCommands with_spares
  pub first_on : OnDrive drive a
  pub second_on : OnDrive drive b
  pub differ : a ≡ b → ⊥
  pub first_no_spare : OnSpare with_spares a → ⊥
  pub second_spare : OnSpare with_spares b
  pub both : Reaches with_spares a x × Reaches with_spares b x

-- A number is in its volume, stands at a place, and the first byte there is so.
pub record Stands (u : UnitRecord) (v : VolumeNumber) (n place byte : ℕ) : Type 0 where
  pub in_volume : n < volume_sectors (geometry u) v
  pub there : (spot_of u v n).place ≡ place
  pub first_byte_lem : first_byte (geometry u) place ≡ byte

-- A line of a table.
pub data Line : Type 0 where
  -- of a unit: a volume, a number in it, its place, and the first byte there
  stands_on : UnitRecord → VolumeNumber → ℕ → ℕ → ℕ → Line
  -- in an order: a read from a sector of volume 0, of so many sectors, on an image of so many bytes
  reads_by : (goes_by_head : Bool) → Start → ℕ → ℕ → Expected → Line
  -- a read of a sector for each element, through a list of so many elements
  scatters : ℕ → Expected → Line
  -- on the unit with spares: two addresses, and a byte that both reach
  meet : Address → Address → ℕ → Line
  -- in an order: a cylinder, a head and a sector of volume 0; its place, the place of the sector after it, and the cylinder of that
  two_from : (goes_by_head : Bool) → (cylinder head sector : ℕ) → ℕ → ℕ → ℕ → Line

abbrev pub Holds : Line → Type 0
Holds (stands_on u v n place byte) = Stands u v n place byte
Holds (reads_by by from count image says) = Judged by (move from count (Buffer.Piece 512)) image says
Holds (scatters k says) = Judged true (move (Start.Logical 0) k (Buffer.List 0 k)) 7800 says
Holds (meet a b x) = Meeting a b x
Holds (two_from by c h s first second cylinder) = TwoFrom by c h s first second cylinder

-- Lines of the small drive as 01 has it; of the unit with spares; and of the drive by cylinder.
abbrev pub stands : VolumeNumber → ℕ → ℕ → ℕ → Line
stands = stands_on unit

abbrev pub reads : ℕ → ℕ → ℕ → Expected → Line
reads n = reads_by true (Start.Logical n)

abbrev pub lands : VolumeNumber → ℕ → ℕ → ℕ → Line
lands = stands_on with_spares

abbrev pub stands_along : VolumeNumber → ℕ → ℕ → ℕ → Line
stands_along = stands_on (unit_by false)

-- The starred lines.
abbrev pub starred : List Line
starred =
    stands VolumeNumber.Zero 0 0 0 ∷
    stands VolumeNumber.Zero 7 7 448 ∷
    stands VolumeNumber.Zero 8 12 768 ∷
    stands VolumeNumber.Zero 79 115 7360 ∷
    stands VolumeNumber.One 0 8 512 ∷
    reads 80 1 7800 (answer 16) ∷
    reads 0 80 7800 passes ∷
    reads 0 81 7800 (answer 16) ∷
    reads 79 2 7800 (answer 16) ∷
    reads 0 1 7799 (answer 17) ∷
    reads 0 1 7800 passes ∷
    scatters 64 passes ∷
    scatters 65 (answer 18) ∷
    []

-- Lines with spares, worked out by hand as those are: volume 0's 8 to 11 and 28 to 31 are on bad tracks, volume 1's 36 to 39 and 0 to 3 on the
-- spares of these.
abbrev pub spared : List Line
spared =
    lands VolumeNumber.Zero 7 7 448 ∷
    lands VolumeNumber.Zero 8 116 7424 ∷
    lands VolumeNumber.Zero 10 118 7552 ∷
    lands VolumeNumber.Zero 12 16 1024 ∷
    lands VolumeNumber.Zero 31 11 704 ∷
    lands VolumeNumber.One 3 11 704 ∷
    lands VolumeNumber.One 35 107 6848 ∷
    lands VolumeNumber.One 38 118 7552 ∷
    meet (address 1 0 2) (address 9 2 2) 7552 ∷
    meet (address 1 0 2) (address 9 2 2) 7798 ∷
    meet (address 3 1 3) (address 0 2 3) 767 ∷
    []

-- Lines by cylinder, worked out by hand, and beside some of them the same by head: volume 0 has its numbers 0 to 39 along head 0 and 40 to 79 along head 1.
-- From cylinder 0, head 1, sector 0 to the volume's end there are 40 sectors by cylinder and 76 by head. Cylinder, head and sector are judged one by one: in
-- the sum cylinder 10 of head 0 would be number 40 by cylinder, and head 2 of cylinder 0 number 8 by head.
abbrev pub by_cylinder : List Line
by_cylinder =
    stands_along VolumeNumber.Zero 4 12 768 ∷
    stands_along VolumeNumber.Zero 39 111 7104 ∷
    stands_along VolumeNumber.Zero 40 4 256 ∷
    stands_along VolumeNumber.Zero 79 115 7360 ∷
    reads_by false (Start.Logical 80) 1 7800 (answer 16) ∷
    two_from false 0 1 3 7 16 1 ∷
    two_from true 0 1 3 7 12 1 ∷
    two_from false 9 0 3 111 4 0 ∷
    two_from true 9 0 3 111 112 9 ∷
    reads_by false (Start.Physical 0 1 0) 40 7800 passes ∷
    reads_by false (Start.Physical 0 1 0) 41 7800 (answer 16) ∷
    reads_by true (Start.Physical 0 1 0) 76 7800 passes ∷
    reads_by true (Start.Physical 0 1 0) 77 7800 (answer 16) ∷
    reads_by false (Start.Physical 10 0 0) 1 7800 (answer 16) ∷
    reads_by false (Start.Physical 0 0 4) 1 7800 (answer 16) ∷
    reads_by true (Start.Physical 0 2 0) 1 7800 (answer 16) ∷
    []

-- Every line of a table holds.
abbrev pub All : List Line → Type 0
All [] = Unit {0}
All (l ∷ ls) = Holds l × All ls
