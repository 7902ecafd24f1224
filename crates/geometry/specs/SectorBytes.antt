-- The bytes of the image that are a sector's own.
use Rattle.std.specs.Prelude.{ℕ, ◌≡◌}
use Rattle.wire.specs.Among.{Among}
use Rattle.geometry.specs.declared.Geometry.{Geometry}
use Rattle.geometry.specs.Drive.{B}
use Rattle.geometry.specs.Sectors.{first_byte, mark_byte}

-- A byte of the image is that of the sector at a place: one of its B bytes, or its mark.
pub data SectorByte (g : Geometry) (place x : ℕ) : Type 0 where
  data_at : Among (first_byte g place) (B g) x → SectorByte g place x
  mark_at : x ≡ mark_byte g place → SectorByte g place x
