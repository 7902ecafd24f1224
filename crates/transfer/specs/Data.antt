-- The data of a block: which bytes its transfer moves (01, One run: 81, 82, A1, A2 and 8C; 02, K5).
use Rattle.std.specs.Prelude.{ℕ, ◌+◌, ◌*◌, ◌/◌, ◌%◌, Bool, false, not, cond, ◌&&◌, List}
use Rattle.geometry.specs.declared.Geometry.{Geometry}
use Rattle.geometry.specs.declared.VolumeNumber.{VolumeNumber}
use Rattle.geometry.specs.Drive.{B, S}
use Rattle.geometry.specs.Sectors.{first_byte}
use Rattle.unit.specs.declared.Spot.{Spot}
use Rattle.unit.specs.Landing.{spot_of}
use Rattle.unit.specs.Standing.{UnitRecord, geometry}
use Rattle.transfer.specs.Progress.{Progress, progress, stops_at}
use Rattle.transfer.specs.Stores.{Store, copy_of, host_byte, image_byte, up_to}

-- A transfer on a drive: which way it goes, whether it heeds the marks, how many sectors it is for, at which place its sector j
-- stands, and where in host memory its byte k lies, both counted from 0.
pub record Transfer : Type 0 where
  pub geometry : Geometry
  pub to_host : Bool
  pub heeds : Bool
  pub count : ℕ
  pub place : ℕ → ℕ
  pub host_at : ℕ → ℕ

-- Sectors from a number of a volume on: "Consecutive sectors go by sector, head, cylinder" (01, Geometry), which is the order of the numbers (the
-- geometry's law numbers_consecutive), and each stands where its number lands, on a spare where its track is bad.
-- 81 and A1 "copy sectors to host memory"; 82 and A2 copy the other way. "At a non-zero mark they stop before that sector, or,
-- with DE, move it and go on. 82 and A2 ignore marks."
abbrev pub moving : UnitRecord → Bool → Bool → VolumeNumber → ℕ → ℕ → (ℕ → ℕ) → Transfer
moving u to_host past_marks v first count host_at =
    record {
      geometry = geometry u;
      to_host = to_host;
      heeds = to_host && not past_marks;
      count = count;
      place = λ j. (spot_of u v (first + j)).place;
      host_at = host_at;
    }

-- 8C "takes B bytes and writes them to every sector of the named track", or of the spare that serves it: the S sectors stand in a row from the
-- first on, where the track lands (the unit's law landed_in_a_row, the geometry's track_consecutive).
abbrev pub formatting : UnitRecord → Spot → ℕ → Transfer
formatting u spot at =
    record {
      geometry = geometry u;
      to_host = false;
      heeds = false;
      count = S (geometry u);
      place = λ j. spot.place + j;
      host_at = λ k. at + k % B (geometry u);
    }

-- The index in the image of byte k: byte k mod B of sector k div B.
abbrev pub disk_byte : Geometry → (ℕ → ℕ) → ℕ → ℕ
disk_byte g place k = first_byte g (place (k / B g)) + k % B g

-- A byte moved, one way or the other.
abbrev pub move : Bool → ℕ → ℕ → Store
move to_host disk host =
    cond to_host
    (record { to = host_byte host; value = copy_of (image_byte disk) })
    (record { to = image_byte disk; value = copy_of (host_byte host) })

-- How far the transfer comes on an image as it stood before, and the bytes that it moves there. A read stores nothing in the
-- image, and what a write stores there is no mark and nothing past the marks (the law marks_stay).
abbrev pub progress_on : List ℕ → Transfer → Progress
progress_on image t = progress (λ j. stops_at image t.geometry t.heeds (t.place j)) 0 t.count

abbrev pub move_at : Transfer → ℕ → Store
move_at t k = move t.to_host (disk_byte t.geometry t.place k) (t.host_at k)

unfoldable pub data_on : List ℕ → Transfer → List Store
data_on image t = up_to ((progress_on image t).sectors * B t.geometry) (move_at t)
