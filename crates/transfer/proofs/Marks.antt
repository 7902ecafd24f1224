-- A transfer's sectors stand on the drive, before the marks: it changes no mark and no byte after the marks.
-- How many sectors come is read off its answer.
use Rattle.std.proofs.Common.{Err, Ok}
use Prim.Native.Nat.{ℕ, ◌+◌, ◌*◌, ◌/◌, ◌≤◌, ◌<◌}
use mathlib.Core.Bool.{Bool, true, false}
use mathlib.Core.List.{List}
use mathlib.Core.Path.{◌≡◌}
use native.Mathlib.Nat.{div-lt_iff_lt-mul, mod-lt, zero-add}
use native.Mathlib.Omega.{arith}
use Rattle.answers.specs.declared.Refusal.{Refusal}
use Rattle.geometry.specs.declared.VolumeNumber.{VolumeNumber}
use Rattle.geometry.specs.Drive.{B, S, drive_sectors, marks_at, volume_sectors}
use Rattle.geometry.proofs.Laws.{bytes_inside}
use Rattle.unit.specs.declared.Spot.{Spot}
use Rattle.unit.proofs.Laws.{spot_inside}
use Rattle.unit.specs.Standing.{UnitRecord, geometry}
use Rattle.transfer.specs.Data.{Transfer, data_on, disk_byte, formatting, move, move_at, moving, progress_on}
use Rattle.transfer.specs.Progress.{stops_at}
use Rattle.transfer.specs.Stores.{Buffers, after, byte_in, image_byte}
use Rattle.transfer.proofs.Progress.{Counts, progress_counts, progress_most}
use Rattle.transfer.proofs.Stays.{stored_of_up_to, unstored_stays}
use Rattle.transfer.proofs.Wholes.{some_bytes}
use Rattle.transfer.specs.Targets.{Stored}

-- Every sector of a transfer stands on its drive.
abbrev pub StandsOnDrive : Transfer → Type 0
StandsOnDrive t = (j : ℕ) → j < t.count → t.place j < drive_sectors t.geometry

-- Sectors of a volume do, and so do those of a track that the drive has.
pub moving_on_drive :
    (u : UnitRecord) (to_host past_marks : Bool) (v : VolumeNumber) (first count : ℕ) (host_at : ℕ → ℕ) →
    first + count ≤ volume_sectors (geometry u) v → StandsOnDrive (moving u to_host past_marks v first count host_at)
moving_on_drive u to_host past_marks v first count host_at inside j j< =
    omega (arith, spot_inside u v (first + j) (omega arith))

pub formatting_on_drive :
    (u : UnitRecord) (spot : Spot) (at : ℕ) →
    spot.place + S (geometry u) ≤ drive_sectors (geometry u) → StandsOnDrive (formatting u spot at)
formatting_on_drive u spot at inside j j< = omega arith

-- ---- no mark

-- A byte moved to the image goes to its index on the disk side.
target_on_disk : (to_host : Bool) (d h x : ℕ) → (move to_host d h).to ≡ image_byte x → d ≡ x
target_on_disk true d h x same = let z : ◌≡◌ {A = ℕ} 0 1 = cc in absurd (omega arith)
target_on_disk false d h x same = cc

module _ (image : List ℕ) (t : Transfer) where
  abbrev come : ℕ
  come = (progress_on image t).sectors

  most : come ≤ t.count
  most = rw zero-add at (progress_most (λ j. stops_at image t.geometry t.heeds (t.place j)) 0 t.count)

  byte_before_marks :
      StandsOnDrive t → (k : ℕ) → k < come * B t.geometry → disk_byte t.geometry t.place k < marks_at t.geometry
  byte_before_marks on k less =
      let some = some_bytes come (B t.geometry) k less in
      let sector = (div-lt_iff_lt-mul some).1 less in
      omega (
        arith,
        bytes_inside t.geometry (t.place (k / B t.geometry)) (on (k / B t.geometry) (omega (arith, most))),
        mod-lt k some,
      )

  -- No store of a transfer on its drive has a mark, or a byte after the marks, as its target.
  pub no_mark_stored : StandsOnDrive t → (x : ℕ) → marks_at t.geometry ≤ x → Stored (data_on image t) (image_byte x) → ⊥
  unfolding data_on
  no_mark_stored on x from there =
      let k = stored_of_up_to (come * B t.geometry) (move_at t) (image_byte x) there in
      omega (
        arith,
        byte_before_marks on k.0 k.1.0,
        target_on_disk t.to_host (disk_byte t.geometry t.place k.0) (t.host_at k.0) x k.1.1,
      )

-- So each of them is as it was.
pub marks_stay :
    (m : Buffers) (t : Transfer) → StandsOnDrive t → (x : ℕ) → marks_at t.geometry ≤ x →
    byte_in (after (data_on m.image t) m) (image_byte x) ≡ byte_in m (image_byte x)
marks_stay m t on x from = unstored_stays (data_on m.image t) m (image_byte x) (no_mark_stored m.image t on x from)

-- That is so for sectors of a volume, and for a track that the drive has.
pub moving_keeps_marks :
    (m : Buffers) (u : UnitRecord) (to_host past_marks : Bool) (v : VolumeNumber) (first count : ℕ) (host_at : ℕ → ℕ) →
    first + count ≤ volume_sectors (geometry u) v → (x : ℕ) → marks_at (geometry u) ≤ x →
    byte_in (after (data_on m.image (moving u to_host past_marks v first count host_at)) m) (image_byte x) ≡ byte_in m (image_byte x)
moving_keeps_marks m u to_host past_marks v first count host_at inside =
    marks_stay m (moving u to_host past_marks v first count host_at)
    (moving_on_drive u to_host past_marks v first count host_at inside)

pub formatting_keeps_marks :
    (m : Buffers) (u : UnitRecord) (spot : Spot) (at : ℕ) →
    spot.place + S (geometry u) ≤ drive_sectors (geometry u) → (x : ℕ) → marks_at (geometry u) ≤ x →
    byte_in (after (data_on m.image (formatting u spot at)) m) (image_byte x) ≡ byte_in m (image_byte x)
formatting_keeps_marks m u spot at inside = marks_stay m (formatting u spot at) (formatting_on_drive u spot at inside)

-- ---- how far it comes

module _ (image : List ℕ) (t : Transfer) where
  counts : Counts (progress_on image t).answer (progress_on image t).sectors t.count
  counts = rw zero-add at (progress_counts (λ j. stops_at image t.geometry t.heeds (t.place j)) 0 t.count).1

  -- A transfer that is stopped has moved fewer sectors than were asked for, and one that ended has moved them all.
  pub stopped_short : (r : Refusal) → (progress_on image t).answer ≡ Err r → (progress_on image t).sectors < t.count
  stopped_short r is = rw is at counts

  pub ended_whole : (progress_on image t).answer ≡ Ok tt → (progress_on image t).sectors ≡ t.count
  ended_whole is = rw is at counts
