-- The limits of a geometry (01, Geometry), stated of what a geometry holds and not of how a program tests it.
use Rattle.std.specs.Prelude.{ℕ, ◌+◌, ◌%◌, ◌≤◌, ◌<◌, ◌≡◌}
use Rattle.geometry.specs.declared.Geometry.{Geometry}
use Rattle.geometry.specs.declared.Volume.{Volume}
use Rattle.geometry.specs.declared.VolumeNumber.{VolumeNumber}
use Rattle.geometry.specs.declared.VolumeNumber.TheVariants.{Zero, One}
use Rattle.geometry.specs.Drive.{B, C, N, S, start, volume}

-- "absent when it has none": a volume is present where it has a head.
unfoldable pub Present : Volume → Type 0
Present v = 1 ≤ N v

-- A head, counted over the whole drive, is one of a volume's N heads from its start head on.
unfoldable pub Has : Volume → ℕ → Type 0
Has v head = (start v ≤ head) × (head < start v + N v)

-- What the limits say of the sizes.
pub record SizesWithin (g : Geometry) : Type 0 where
  -- "cylinders C 1 to 4,096"
  pub cylinders : (1 ≤ C g) × (C g ≤ 4096)
  -- "sectors a track S 1 to 255"
  pub sectors : (1 ≤ S g) × (S g ≤ 255)
  -- "bytes a sector B even, 64 to 4,096"
  pub bytes : (B g % 2 ≡ 0) × ((64 ≤ B g) × (B g ≤ 4096))

-- What they say of the two volumes.
pub record VolumesWithin (g : Geometry) : Type 0 where
  -- "volume 0 has at least one head"
  pub one_head : Present (volume g Zero)
  -- "at most 64 for each volume present"
  pub ends : (v : VolumeNumber) → Present (volume g v) → start (volume g v) + N (volume g v) ≤ 64
  -- "Two present volumes share no head"
  pub apart : Present (volume g One) → (head : ℕ) → Has (volume g Zero) head → Has (volume g One) head → ⊥

-- A geometry inside the limits.
pub record Within (g : Geometry) : Type 0 where
  pub sizes : SizesWithin g
  pub volumes : VolumesWithin g
