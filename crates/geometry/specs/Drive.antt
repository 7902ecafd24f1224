-- The shape of a drive (01, Geometry), in the paper's letters but for H, which is drive_heads: in a contract H is taken.
-- Ends and sizes are shut: other crates cite the laws of proofs/Laws, and Inside, the module below, opens them for this crate.
use Rattle.std.specs.Prelude.{ℕ, ◌+◌, ◌*◌, max, Bool, true}
use Rattle.std.proofs.Math.Logic.{ite}
use Rattle.std.proofs.Math.Decide.{dec_lt}
use Rattle.geometry.specs.declared.Geometry.{Geometry}
use Rattle.geometry.specs.declared.Volume.{Volume}
use Rattle.geometry.specs.declared.VolumeNumber.{VolumeNumber}
use Rattle.geometry.specs.declared.VolumeNumber.TheVariants.{Zero, One}
pub mod Inside

-- A volume as it came: a start head and a number of heads.
abbrev pub volume_of : ℕ → ℕ → Volume
volume_of start heads = record { start_head = start; heads = heads }

-- A geometry of cylinders, sectors a track, bytes a sector, volume 0 and volume 1, judged or not. Its tracks go by head, the "single order" of 01 (02,
-- K4), unless `with_increment` says otherwise.
abbrev pub geometry_of : ℕ → ℕ → ℕ → Volume → Volume → Geometry
geometry_of c s b v0 v1 =
    record { cylinders = c; sectors_a_track = s; bytes_a_sector = b; volume0 = v0; volume1 = v1; by_head = true }

-- "cylinders C", "sectors a track S", "bytes a sector B"
abbrev pub C : Geometry → ℕ
C g = g.cylinders

abbrev pub S : Geometry → ℕ
S g = g.sectors_a_track

abbrev pub B : Geometry → ℕ
B g = g.bytes_a_sector

-- "the UIB attribute for increment by head" (02, K4), and the same drive with it on or off.
abbrev pub goes_by_head : Geometry → Bool
goes_by_head g = g.by_head

abbrev pub with_increment : (goes_by_head : Bool) → Geometry → Geometry
with_increment by g =
    record { cylinders = C g; sectors_a_track = S g; bytes_a_sector = B g; volume0 = g.volume0; volume1 = g.volume1; by_head = by }

-- "two volumes a unit" (01, What the board answers for)
abbrev pub volume : Geometry → VolumeNumber → Volume
volume g Zero = g.volume0
volume g One = g.volume1

-- A volume's "start head", and its "N heads"
abbrev pub start : Volume → ℕ
start v = v.start_head

abbrev pub N : Volume → ℕ
N v = v.heads

-- Where a volume's heads end: "Start head plus heads" where it is present. One that has no heads ends at 0, whatever its
-- start head, so that it counts for nothing in H.
pub end : Volume → ℕ
end v = ite (dec_lt 0 (N v)) (start v + N v) 0

-- "H is the greater end"
pub drive_heads : Geometry → ℕ
drive_heads g = max (end (volume g Zero)) (end (volume g One))

-- "C × N × S sectors"
pub volume_sectors : Geometry → VolumeNumber → ℕ
volume_sectors g v = C g * N (volume g v) * S g

-- "C × H × S sectors of B bytes, then one mark byte a sector": how many sectors, where the marks begin, how many bytes in all.
pub drive_sectors : Geometry → ℕ
drive_sectors g = C g * drive_heads g * S g

pub marks_at : Geometry → ℕ
marks_at g = drive_sectors g * B g

pub need : Geometry → ℕ
need g = marks_at g + drive_sectors g
