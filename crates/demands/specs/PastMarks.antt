-- "Bytes after that are never touched" (01, Geometry), of reads too: a world with another image of one unit, which holds the same sectors and marks as the
-- first and anything after them, of any length that suffices.
use Rattle.std.specs.Prelude.{ℕ, List, ◌≡◌}
use Rattle.board.specs.Chain.{Ending}
use Rattle.unit.specs.declared.UnitNumber.{UnitNumber}
use Rattle.unit.specs.declared.UnitNumber.TheVariants.{Zero, One}
use Rattle.transfer.specs.SameSectors.{SameSectors}
use Rattle.unit.specs.Standing.{geometry}
use Rattle.block.specs.Block.{Drive}
use Rattle.board.specs.World.{World, drive_of}

-- A drive with another image, and the drive of unit m where unit n is to have it.
abbrev with_image : List ℕ → Drive → Drive
with_image image d = record { unit = d.unit; image = image }

abbrev imaged_drive : (n m : UnitNumber) → List ℕ → Drive → Drive
imaged_drive Zero Zero image d = with_image image d
imaged_drive Zero One image d = d
imaged_drive One Zero image d = d
imaged_drive One One image d = with_image image d

-- The world where unit n has another image.
abbrev pub imaged : UnitNumber → List ℕ → World → World
imaged n image w =
    record {
      controller = w.controller;
      host = w.host;
      drive0 = imaged_drive n Zero image w.drive0;
      drive1 = imaged_drive n One image w.drive1;
      events = w.events;
    }

-- It holds the same sectors and marks, in the geometry of the unit's record.
abbrev pub SameOn : UnitNumber → World → List ℕ → Type 0
SameOn n w image = SameSectors (geometry (drive_of w n).unit) (drive_of w n).image image

-- A run on that world ends as on the first: with the same answer, counts, memory, events and records, the same other drive, and such an image.
pub record EndsAlike (n : UnitNumber) (e f : Ending) : Type 0 where
  pub answer : f.answer ≡ e.answer
  pub failed : f.failed ≡ e.failed
  pub tally : f.tally ≡ e.tally
  pub image : List ℕ
  pub world : f.world ≡ imaged n image e.world
  pub same : SameOn n e.world image
