-- A track, "physical over the whole drive" (02, K5): a cylinder and a head, and the one number that stands for both in a table.
use Rattle.std.specs.Prelude.{ℕ, ◌+◌, ◌*◌, ◌/◌, ◌%◌, ◌<◌, ◌≡◌}
use Rattle.std.proofs.Math.Logic.Dec.{and as dec_and}
use Rattle.std.proofs.Math.Decide.{dec_lt, map_dec, ℕ_discrete}
use Rattle.geometry.specs.declared.Geometry.{Geometry}
use Rattle.geometry.specs.Drive.{C, drive_heads}
use Rattle.spares.specs.declared.Track.{Track}

-- The cylinder stands in the upper 16 bits, a head below 256 in the 8 bits after them, and the last 8 bits are 0.
abbrev pub track_number : ℕ → ℕ → ℕ
track_number c h = c * 65536 + h * 256

abbrev pub stands_for : ℕ → Track
stands_for t = record { cylinder = t / 65536; head = t / 256 % 256 }

-- The number of a track that the drive has; with last bits that are not 0 it is that of none.
pub record TrackOn (g : Geometry) (t : ℕ) : Type 0 where
  pub cylinder : t / 65536 < C g
  pub head : t / 256 % 256 < drive_heads g
  pub last : t % 256 ≡ 0

pub track_on? : (g : Geometry) (t : ℕ) → Dec (TrackOn g t)
track_on? g t =
    map_dec (λ d. record { cylinder = d.0; head = d.1.0; last = d.1.1 }) (λ o. (o.cylinder, (o.head, o.last)))
    (dec_and (dec_lt (t / 65536) (C g)) (dec_and (dec_lt (t / 256 % 256) (drive_heads g)) (ℕ_discrete (t % 256) 0)))
