-- Two images that hold the same sectors and marks of a drive, whatever comes after the marks (01, Geometry: "Bytes after that are never touched").
use Rattle.std.specs.Prelude.{ℕ, ◌≤◌, ◌<◌, List, ◌≡◌, get_or, length}
use Rattle.geometry.specs.declared.Geometry.{Geometry}
use Rattle.geometry.specs.Drive.{need}
use Rattle.transfer.specs.Stores.{Buffers}

-- Each is as long as the geometry needs, or longer, and they are the same so far.
pub record SameSectors (g : Geometry) (image other : List ℕ) : Type 0 where
  pub long : need g ≤ length image
  pub other_long : need g ≤ length other
  pub same : (x : ℕ) → x < need g → get_or image x 0 ≡ get_or other x 0

-- What a block works on, with two such images.
pub record SameButPast (g : Geometry) (m n : Buffers) : Type 0 where
  pub host : m.host ≡ n.host
  pub events : m.events ≡ n.events
  pub image : SameSectors g m.image n.image
