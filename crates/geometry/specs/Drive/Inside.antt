-- The shut definitions of Drive, opened by an equation each, for this crate's proofs and for the worked examples alone.
use Rattle.std.specs.Prelude.{◌+◌, ◌*◌, max, ◌≡◌, refl}
use Rattle.std.proofs.Math.Logic.{ite}
use Rattle.std.proofs.Math.Decide.{dec_lt}
use Rattle.geometry.specs.declared.Geometry.{Geometry}
use Rattle.geometry.specs.declared.Volume.{Volume}
use Rattle.geometry.specs.declared.VolumeNumber.{VolumeNumber}
use Rattle.geometry.specs.declared.VolumeNumber.TheVariants.{Zero, One}
use Rattle.geometry.specs.Drive.{B, C, N, S, drive_heads, drive_sectors, end, marks_at, need, start, volume, volume_sectors}

pub end_is : (v : Volume) → end v ≡ ite (dec_lt 0 (N v)) (start v + N v) 0
unfolding end
end_is v = refl

pub drive_heads_is : (g : Geometry) → drive_heads g ≡ max (end (volume g Zero)) (end (volume g One))
unfolding drive_heads
drive_heads_is g = refl

pub volume_sectors_is : (g : Geometry) (v : VolumeNumber) → volume_sectors g v ≡ C g * N (volume g v) * S g
unfolding volume_sectors
volume_sectors_is g v = refl

pub drive_sectors_is : (g : Geometry) → drive_sectors g ≡ C g * drive_heads g * S g
unfolding drive_sectors
drive_sectors_is g = refl

pub marks_at_is : (g : Geometry) → marks_at g ≡ drive_sectors g * B g
unfolding marks_at
marks_at_is g = refl

pub need_is : (g : Geometry) → need g ≡ marks_at g + drive_sectors g
unfolding need
need_is g = refl
