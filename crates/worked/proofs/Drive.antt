-- The small drive's own numbers, and where a number in a volume stands on it.
-- The geometry's shut definitions are opened by their equations, and what is left is arithmetic on numerals.
use Rattle.std.proofs.Common.{Some}
use Prim.Native.Nat.{ℕ, ◌+◌, ◌*◌, ◌/◌, ◌%◌, ◌≤◌, ◌<◌}
use mathlib.Core.Bool.{Bool, true}
use mathlib.Core.Path.{◌≡◌, refl, ap, ◌∙◌}
use native.Mathlib.Omega.{arith}
use Rattle.geometry.specs.declared.Geometry.{Geometry}
use Rattle.geometry.specs.declared.VolumeNumber.{VolumeNumber}
use Rattle.geometry.specs.declared.VolumeNumber.TheVariants.{Zero, One}
use Rattle.geometry.specs.Drive.{N, drive_heads, drive_sectors, marks_at, need, start, volume, volume_sectors, with_increment}
use Rattle.geometry.specs.Drive.Inside.{drive_heads_is, drive_sectors_is, marks_at_is, need_is, volume_sectors_is}
use Rattle.geometry.specs.Limits.{Has, Present}
use Rattle.geometry.specs.Orders.{ordered}
use Rattle.geometry.specs.Sectors.{numbered}
use Rattle.geometry.specs.Sectors.Inside.{address_of_is, number_of_is, place_of_is}
use Rattle.geometry.proofs.Answers.{numbered_inside}
use Rattle.geometry.proofs.Ends.{end_present}
use Rattle.spares.proofs.Laws.{empty_is_good}
use Rattle.unit.proofs.Laws.{no_pairs_lands_there}
use Rattle.unit.specs.Landing.{spot_of}
use Rattle.unit.specs.Landing.Behind.{spot_at_is, spot_of_is}
use Rattle.unit.specs.Standing.{CountsAsInitialized, geometry, no_tracks}
use Rattle.worked.specs.SmallDrive.{drive, unit, unit_by}

-- The drive in either order: its sizes are the same.
abbrev pub drive_by : Bool → Geometry
drive_by by = with_increment by drive

pub counts_by : (by : Bool) → CountsAsInitialized (unit_by by)
unfolding Has Present
counts_by by =
    record {
      said = refl;
      within =
          record {
            sizes = omega arith;
            volumes =
                record {
                  one_head = omega arith;
                  ends = λ v. elim v as (λ (w : VolumeNumber). Present (volume (geometry (unit_by by)) w) → start (volume (geometry (unit_by by)) w) + N (volume (geometry (unit_by by)) w) ≤ 64) [ Zero ↦ λ p. omega arith | One ↦ λ p. omega arith ];
                  apart = λ p. omega arith;
                };
          };
      cylinder = omega arith;
      good = empty_is_good (drive_by by) no_tracks refl;
    }

pub counts : CountsAsInitialized unit
counts = counts_by true

pub present_by : (by : Bool) → Present (volume (drive_by by) Zero)
present_by by = (counts_by by).within.volumes.one_head

pub heads_by : (by : Bool) → drive_heads (drive_by by) ≡ 3
heads_by by =
    omega (
      arith,
      drive_heads_is (drive_by by),
      end_present (volume (drive_by by) Zero) (omega arith),
      end_present (volume (drive_by by) One) (omega arith),
    )

pub heads_3 : drive_heads drive ≡ 3
heads_3 = heads_by true

pub volume_0 : (by : Bool) → volume_sectors (drive_by by) Zero ≡ 80
volume_0 by = volume_sectors_is (drive_by by) Zero

pub sectors_80 : volume_sectors drive Zero ≡ 80
sectors_80 = volume_0 true

pub sectors_40 : volume_sectors drive One ≡ 40
sectors_40 = volume_sectors_is drive One

-- "H = 3; 120 sectors; the image needs 7,800 bytes; marks start at 7,680" (01, Small drive, by hand)
pub record Figures : Type 0 where
  pub heads : drive_heads drive ≡ 3
  pub sectors : drive_sectors drive ≡ 120
  pub needs : need drive ≡ 7800
  pub marks : marks_at drive ≡ 7680

pub figures : Figures
figures =
    record {
      heads = heads_3;
      sectors = omega (arith, drive_sectors_is drive, heads_3);
      needs = omega (arith, need_is drive, marks_at_is drive, drive_sectors_is drive, heads_3);
      marks = omega (arith, marks_at_is drive, drive_sectors_is drive, heads_3);
    }

pub need_7800 : (by : Bool) → need (drive_by by) ≡ 7800
need_7800 by = omega (arith, need_is (drive_by by), marks_at_is (drive_by by), drive_sectors_is (drive_by by), heads_by by)

-- The track of a number, and the number of a track, in either order.
abbrev pub each : Bool → VolumeNumber → ℕ
each by v = (ordered by (10, N (volume (drive_by by) v))).1

abbrev pub track : Bool → VolumeNumber → ℕ → ℕ × ℕ
track by v n = ordered by (n / (4 * each by v), n / 4 % each by v)

abbrev pub place : Bool → VolumeNumber → ℕ → ℕ
place by v n = ((track by v n).0 * 3 + (start (volume (drive_by by) v) + (track by v n).1)) * 4 + n % 4

pub place_is : (by : Bool) (v : VolumeNumber) (n : ℕ) → (spot_of (unit_by by) v n).place ≡ place by v n
place_is by v n = rw (spot_of_is, no_pairs_lands_there (unit_by by) refl, spot_at_is, place_of_is, address_of_is, heads_by by)

pub cylinder_is : (by : Bool) (v : VolumeNumber) (n : ℕ) → (spot_of (unit_by by) v n).cylinder ≡ (track by v n).0
cylinder_is by v n = rw (spot_of_is, no_pairs_lands_there (unit_by by) refl, spot_at_is, address_of_is)

abbrev pub number : Bool → (c h s : ℕ) → ℕ
number by c h s =
    let steps = ordered by (c, h) in
    (steps.0 * each by Zero + steps.1) * 4 + s

pub begins_at_lem : (by : Bool) (c h s : ℕ) → (c < 10) × (h < 2) × (s < 4) → numbered (drive_by by) Zero c h s ≡ Some (number by c h s)
begins_at_lem by c h s is = numbered_inside (drive_by by) Zero c h s (omega arith) ∙ ap Some (number_of_is (drive_by by) Zero c h s)
