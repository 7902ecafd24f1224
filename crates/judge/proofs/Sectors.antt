-- What a transfer is asked before its buffer is for: one that passes has every sector in its volume, its bytes and mark in the image.
-- Check 16 has the first number and the last inside, so all between are; check 17 has the image long enough for any place.
use Rattle.std.proofs.Common.{None, Option, Some}
use Prim.Native.Nat.{ℕ, ◌+◌, ◌≤◌, ◌<◌}
use mathlib.Core.List.{List}
use mathlib.Core.Logic.{by_cases}
use mathlib.Core.Path.{◌≡◌, refl}
use native.Mathlib.Omega.{arith}
use Rattle.geometry.proofs.Decided.{covers?}
use Rattle.geometry.specs.declared.VolumeNumber.{VolumeNumber}
use Rattle.geometry.specs.Drive.{B, volume_sectors}
use Rattle.geometry.specs.Sectors.{Covers, first_byte, mark_byte}
use Rattle.geometry.proofs.Laws.{sector_in_image}
use Rattle.unit.specs.Landing.{spot_of}
use Rattle.unit.proofs.Laws.{spot_inside}
use Rattle.unit.specs.Standing.{UnitRecord, geometry}
use Rattle.request.specs.declared.Move.{Move}
use Rattle.request.specs.declared.Task.{Task}
use Rattle.judge.specs.declared.Standing.{Standing}
use Rattle.judge.specs.Steps.{asked, before_buffer, begins_at}
use Rattle.judge.specs.Passed.{NoneGiven}

-- A sector of a transfer: in its volume, its bytes and its mark in the image.
pub record Reachable (u : UnitRecord) (image : ℕ) (v : VolumeNumber) (n : ℕ) : Type 0 where
  pub in_volume : n < volume_sectors (geometry u) v
  pub bytes : first_byte (geometry u) (spot_of u v n).place + B (geometry u) ≤ image
  pub mark : mark_byte (geometry u) (spot_of u v n).place < image

module _ (m : Move) (s : Standing) (host : List ℕ) where
  abbrev u : UnitRecord
  u = s.unit.now

  abbrev v : VolumeNumber
  v = m.target.volume

  abbrev begin : Option ℕ
  begin = begins_at u m.target

  pub sectors_reachable :
      NoneGiven (before_buffer (asked (Task.Move m) s host) m) →
      (n : ℕ) × ((begin ≡ Some n) × ((j : ℕ) → j < m.count → Reachable u s.image v (n + j)))
  unfolding NoneGiven
  sectors_reachable (free, (initialized, (present, (some, (inside, (long, rest)))))) =
      by_number begin refl (by_cases (covers? (geometry u) v begin m.count) (λ c. c) (λ out. absurd (inside out)))
    where
      by_number :
          (x : Option ℕ) → begin ≡ x → Covers (geometry u) v x m.count →
          (n : ℕ) × ((begin ≡ Some n) × ((j : ℕ) → j < m.count → Reachable u s.image v (n + j)))
      by_number None is covers = absurd covers
      by_number (Some n) is covers = (
        n,
        (
          is,
          λ j j<.
              let within : n + j < volume_sectors (geometry u) v = omega arith in
              let spot = spot_inside u v (n + j) within in
              let image = sector_in_image (geometry u) s.image (spot_of u v (n + j)).place (omega (arith, long)) (omega arith) in
              record { in_volume = within; bytes = image.0; mark = image.1 },
        ),
      )
