-- What is judged, and the cases of the answers before transfer that need words of their own (01, Answer numbers; 02, K5).
use Rattle.std.specs.Prelude.{ℕ, List, Option, Some}
use Rattle.geometry.specs.declared.Geometry.{Geometry}
use Rattle.geometry.specs.declared.VolumeNumber.{VolumeNumber}
use Rattle.geometry.specs.Sectors.{OnDrive, address, numbered}
use Rattle.request.specs.declared.Pair.{Pair}
use Rattle.request.specs.declared.Start.{Start}
use Rattle.request.specs.declared.Start.TheVariants.{Logical, Physical}
use Rattle.request.specs.declared.Task.{Task}
use Rattle.spares.specs.Tracks.{track_number}
use Rattle.unit.specs.declared.Controller.{Controller}
use Rattle.unit.specs.Standing.{UnitRecord, geometry}

-- What is judged: a task, the controller that asks (02, K10), its unit's record, table and all, the length of its image, and the host memory.
pub record Asked : Type 0 where
  pub task : Task
  pub controller : Controller
  pub unit : UnitRecord
  pub image : ℕ
  pub host : List ℕ

abbrev pub on : Controller → UnitRecord → (image : ℕ) → Task → (host : List ℕ) → Asked
on c u image t host = record { task = t; controller = c; unit = u; image = image; host = host }

-- The number at which a request begins: a logical number as it came, and a physical address's where the volume has it.
abbrev pub start_number : Geometry → VolumeNumber → Start → Option ℕ
start_number g v (Logical n) = Some n
start_number g v (Physical c h s) = numbered g v c h s

-- The drive has a track, its head counted over the whole drive: check 16 refuses an 8C with "track outside the drive".
abbrev pub HasTrack : UnitRecord → (cylinder head : ℕ) → Type 0
HasTrack u c h = OnDrive (geometry u) (address c h 0)

-- It has both tracks of an 85: check 16 refuses "either track".
abbrev pub HasTracks : UnitRecord → Pair → Type 0
HasTracks u k = HasTrack u k.bad_cylinder k.bad_head × HasTrack u k.spare_cylinder k.spare_head

-- Their numbers in the table.
abbrev pub bad_number : Pair → ℕ
bad_number k = track_number k.bad_cylinder k.bad_head

abbrev pub spare_number : Pair → ℕ
spare_number k = track_number k.spare_cylinder k.spare_head
