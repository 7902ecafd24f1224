-- What a verdict has moved fits, and so does what it leaves of the record: a plan that was let through does, and a refused block moves
-- nothing and leaves the record as it was.
use Rattle.answers.specs.declared.Refusal.{Refusal}
use Rattle.judge.specs.declared.Plan.{Plan}
use Rattle.std.proofs.Common.{Err, Ok, Result}
use Prim.Native.Nat.{ℕ, ◌+◌, ◌≤◌, ◌<◌}
use mathlib.Core.Path.{◌≡◌, refl}
use native.Mathlib.Omega.{arith}
use Rattle.geometry.specs.Drive.{B, need}
use Rattle.geometry.specs.Sectors.{first_byte, mark_byte}
use Rattle.geometry.proofs.Laws.{sector_in_image}
use Rattle.judge.specs.declared.Moving.{Moving}
use Rattle.judge.specs.declared.Moving.TheVariants.{Nothing, Sectors, Track}
use Rattle.judge.specs.Fits.{LeavingFits, MovingFits}
use Rattle.judge.specs.Given.{Asked}
use Rattle.judge.specs.Verdict.{verdict}
use Rattle.judge.proofs.LetThrough.{plan_fits}
use Rattle.transfer.proofs.Marks.{StandsOnDrive}
use Rattle.block.specs.Block.{transfer_of}
use Rattle.block.proofs.PastMarks.{moving_geometry, moving_stands}
use Rattle.demands.specs.Footprint.{leaving_of, moving_of, transfer_by}
use Rattle.unit.specs.Standing.{geometry}

module _ (a : Asked) where
  pub leaving_fits : LeavingFits a.unit (leaving_of (verdict a))
  leaving_fits = by_verdict (verdict a) refl
    where
      by_verdict : (v : Result Plan Refusal) → verdict a ≡ v → LeavingFits a.unit (leaving_of v)
      by_verdict (Err r) is = tt
      by_verdict (Ok p) is = (plan_fits a p is).leaving

  pub moving_fits : MovingFits a.unit a.image a.host (moving_of (verdict a))
  moving_fits = by_verdict (verdict a) refl
    where
      by_verdict : (v : Result Plan Refusal) → verdict a ≡ v → MovingFits a.unit a.image a.host (moving_of v)
      by_verdict (Err r) is = tt
      by_verdict (Ok p) is = (plan_fits a p is).moving

  -- So every sector of the transfer stands on the drive, and the image has it, with its mark.
  pub on_drive : StandsOnDrive (transfer_by a)
  on_drive = moving_stands a.unit a.image a.host (moving_of (verdict a)) moving_fits

  pub drives_geometry : (transfer_by a).geometry ≡ geometry a.unit
  drives_geometry = moving_geometry a.unit a.host (moving_of (verdict a))

  pub all_in_image :
      (j : ℕ) → j < (transfer_by a).count →
      (first_byte (transfer_by a).geometry ((transfer_by a).place j) + B (transfer_by a).geometry ≤ a.image) ×
      (mark_byte (transfer_by a).geometry ((transfer_by a).place j) < a.image)
  all_in_image j less =
      sector_in_image (transfer_by a).geometry a.image ((transfer_by a).place j) (long (moving_of (verdict a)) moving_fits less) (on_drive j less)
    where
      long :
          (m : Moving) → MovingFits a.unit a.image a.host m → j < (transfer_of a.host a.unit m).count →
          need (transfer_of a.host a.unit m).geometry ≤ a.image
      long Nothing fits less = absurd (omega arith)
      long (Sectors job) fits less = fits.long
      long (Track spot at) fits less = fits.long
