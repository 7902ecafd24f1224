-- A run of sectors from a number of a volume on: their places are in a row, so it comes as far as a row there does.
-- That is the unit's law of the rest of a track.
use Prim.Native.Nat.{ℕ, ◌+◌, ◌≤◌, ◌<◌}
use mathlib.Core.Bool.{Bool}
use mathlib.Core.List.{List}
use mathlib.Core.Path.{◌≡◌, ap}
use native.Mathlib.Nat.{zero-add}
use native.Mathlib.Omega.{arith}
use Rattle.geometry.specs.declared.VolumeNumber.{VolumeNumber}
use Rattle.geometry.specs.Drive.{drive_sectors, volume_sectors}
use Rattle.unit.specs.Landing.{spot_of}
use Rattle.unit.proofs.Laws.{spot_inside, spots_consecutive}
use Rattle.unit.specs.Standing.{UnitRecord, geometry}
use Rattle.transfer.specs.declared.reach.Run.{Run}
use Rattle.transfer.specs.Progress.{stops_at}
use Rattle.transfer.specs.Runs.{RunAt, in_a_row, progress_from}
use Rattle.transfer.proofs.Progress.{progress_same}

module _ (u : UnitRecord) (v : VolumeNumber) (n most : ℕ) (r : Run) (inside : n < volume_sectors (geometry u) v) (at : RunAt u v n most r) where
  -- Its sectors are on the drive.
  pub run_inside : r.place + r.sectors ≤ drive_sectors (geometry u)
  run_inside = omega (arith, spot_inside u v n inside, at.place, at.track)

  pub run_places : (i : ℕ) → i < r.sectors → (spot_of u v (n + i)).place ≡ r.place + i
  run_places i less = omega (arith, spots_consecutive u v n i inside (omega (arith, at.track)), at.place)

  pub run_comes :
      (image : List ℕ) (heeds : Bool) →
      progress_from image u v heeds n r.sectors ≡ in_a_row image (geometry u) heeds r.place r.sectors
  run_comes image heeds =
      progress_same _ _ 0 r.sectors
      (λ i h. ap (λ (p : ℕ). stops_at image (geometry u) heeds p) (rw zero-add (run_places i h)))
