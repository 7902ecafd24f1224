-- What the functions of the judge promise each other: which tasks are asked who holds the drive, the verdict by some of the checks alone, and how a
-- transfer begins.
use Rattle.answers.specs.declared.Refusal.{Refusal}
use Rattle.judge.specs.declared.Plan.{Plan}
use Rattle.std.specs.Prelude.{ℕ, ◌*◌, ◌<◌, Bool, true, false, cond, List, [], ◌∷◌, ◌++◌, ◌≡◌, Option, Result, Some}
use Rattle.geometry.specs.Drive.{B}
use Rattle.request.specs.declared.Move.{Move}
use Rattle.request.specs.declared.Pair.{Pair}
use Rattle.request.specs.declared.Target.{Target}
use Rattle.request.specs.declared.Task.{Task}
use Rattle.request.specs.declared.Task.TheVariants.{Unknown, Move as Moves, Handshake, Initialize, Restore, Seek, Format, Map}
use Rattle.request.specs.declared.Track.{Track}
use Rattle.unit.specs.Standing.{UnitRecord, geometry}
use Rattle.judge.specs.declared.Standing.{Standing}
use Rattle.judge.specs.Plans.{plan_of}
use Rattle.judge.specs.Asks.{checks_of, count_zero, data_misplaced, drive_held, image_short, not_initialized, of_buffer, sector_outside, table_full, tracks_taken, volume_absent}
use Rattle.judge.specs.Checks.{Check, first}
use Rattle.judge.specs.Given.{Asked, on, start_number}

-- What is judged, as the judge is handed it. Whether the record counts as initialized, which it is told besides, is no part of what is asked: the record says it.
abbrev pub asked : Task → Standing → (host : List ℕ) → Asked
asked t s host = on s.controller s.unit.now s.image t host

-- Which tasks are asked who holds the drive: "not for 86" (02, K10), nor for one that is not listed, which 10 has refused.
abbrev pub asks_holder : Task → Bool
asks_holder Unknown = false
asks_holder (Moves m) = true
asks_holder Handshake = false
asks_holder (Initialize s) = true
asks_holder Restore = true
asks_holder (Seek t) = true
asks_holder (Format k) = true
asks_holder (Map k) = true

-- What a task is asked besides: all but that, which comes first where it is asked.
abbrev past : List Check → List Check
past [] = []
past (k ∷ ks) = ks

abbrev pub own_checks : Asked → Task → List Check
own_checks a t = cond (asks_holder t) (past (checks_of a t)) (checks_of a t)

-- What a transfer is asked of its unit, of its sectors, and of both, with its drive's holder, before it is asked of its buffer.
abbrev pub of_unit : Asked → Move → List Check
of_unit a m = not_initialized a ∷ volume_absent a m.target.volume ∷ count_zero a m.count ∷ []

abbrev pub of_sectors : Asked → Move → List Check
of_sectors a m = sector_outside a m.target m.count ∷ image_short a ∷ []

abbrev pub before_buffer : Asked → Move → List Check
before_buffer a m = drive_held a ∷ of_unit a m ++ of_sectors a m

abbrev pub bytes_of : Asked → Move → ℕ
bytes_of a m = m.count * B (geometry a.unit)

-- The verdict by some of the checks alone, for the functions that are asked after others have passed: a task's own checks, those of a
-- transfer from its sectors on, and those of its buffer.
unfoldable pub by_its_own : Asked → Result Plan Refusal
by_its_own a = first (own_checks a a.task) (plan_of a.unit a.task)

unfoldable pub from_sectors : Asked → Move → Result Plan Refusal
from_sectors a m = first (of_sectors a m ++ of_buffer a m.buffer (bytes_of a m)) (plan_of a.unit (Moves m))

unfoldable pub from_buffer : Asked → Move → Result Plan Refusal
from_buffer a m = first (of_buffer a m.buffer (bytes_of a m)) (plan_of a.unit (Moves m))

-- A transfer from its image on, a seek by its address alone, and a format by its data alone.
unfoldable pub from_image : Asked → Move → Result Plan Refusal
from_image a m = first (image_short a ∷ of_buffer a m.buffer (bytes_of a m)) (plan_of a.unit (Moves m))

unfoldable pub from_address : Asked → Target → Result Plan Refusal
from_address a t = first (sector_outside a t 1 ∷ []) (plan_of a.unit (Seek t))

unfoldable pub from_data : Asked → Track → Result Plan Refusal
from_data a k = first (data_misplaced a k.buffer (B (geometry a.unit)) ∷ []) (plan_of a.unit (Format k))

-- A pair by what the table says of it.
unfoldable pub from_table : Asked → Pair → Result Plan Refusal
from_table a k = first (tracks_taken a k ∷ table_full a ∷ []) (plan_of a.unit (Map k))

-- The number at which what is asked for begins.
abbrev pub begins_at : UnitRecord → Target → Option ℕ
begins_at u t = start_number (geometry u) t.volume t.start

-- A transfer that begins at a number and is for some sectors.
pub record Begins (a : Asked) (m : Move) (n : ℕ) : Type 0 where
  pub starts : begins_at a.unit m.target ≡ Some n
  pub some : 0 < m.count
