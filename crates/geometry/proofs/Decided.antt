-- The statements about a geometry are decided, so that definitions elsewhere can go by cases on them.
-- Whether the drive or a volume has an address, the answers themselves ask (Answers). The limits on the volumes are decided by their ends, as the program decides them; the rest are comparisons.
use Rattle.std.proofs.Common.{None, Option, Some}
use Prim.Native.Nat.{ℕ, ◌+◌, ◌-◌, ◌%◌}
use mathlib.Core.Logic.Dec
use mathlib.Core.Logic.{inl, inr, by_cases}
use native.Mathlib.Decide.{dec_le, dec_lt, map_dec, ℕ_discrete}
use native.Mathlib.Omega.{arith}
use Rattle.geometry.specs.declared.Geometry.{Geometry}
use Rattle.geometry.specs.declared.Volume.{Volume}
use Rattle.geometry.specs.declared.VolumeNumber.{VolumeNumber}
use Rattle.geometry.specs.declared.VolumeNumber.TheVariants.{Zero, One}
use Rattle.geometry.specs.Drive.{B, C, N, S, end, start, volume, volume_sectors}
use Rattle.geometry.specs.Limits.{Present, SizesWithin, VolumesWithin, Within}
use Rattle.geometry.specs.Sectors.{Covers}
pub use Rattle.geometry.specs.Answers.{in_volume?, on_drive?}
use Rattle.geometry.proofs.Ends.{low_of_within, not_aside, some_of_within, within_of_ends}

pub present? : (v : Volume) → Dec (Present v)
unfolding Present
present? v = dec_le 1 (N v)

sizes? : (g : Geometry) → Dec (SizesWithin g)
sizes? g =
    map_dec (λ d. record { cylinders = d.0; sectors = d.1.0; bytes = d.1.1 })
    (λ w. (w.cylinders, (w.sectors, w.bytes)))
    (Dec.and (Dec.and (dec_le 1 (C g)) (dec_le (C g) 4096))
    (Dec.and (Dec.and (dec_le 1 (S g)) (dec_le (S g) 255))
    (Dec.and (ℕ_discrete (B g % 2) 0) (Dec.and (dec_le 64 (B g)) (dec_le (B g) 4096)))))

volumes? : (g : Geometry) → Dec (VolumesWithin g)
volumes? g =
    let e0 = end (volume g Zero) in
    let e1 = end (volume g One) in
    by_cases (Dec.and (dec_lt 0 e0) (Dec.and (dec_le e0 64) (dec_le e1 64)))
    (λ low.
    by_cases (dec_le e1 (start (volume g Zero)))
    (λ aside. yes (within_of_ends g low.0 low.1.0 low.1.1 (inl aside)))
    (λ in1.
    by_cases (dec_le e0 (start (volume g One)))
    (λ aside. yes (within_of_ends g low.0 low.1.0 low.1.1 (inr aside)))
    (λ in0. no (λ w. not_aside g w (omega arith) (omega arith)))))
    (λ high. no (λ w. high (some_of_within g w, (low_of_within g w Zero, low_of_within g w One))))

pub within? : (g : Geometry) → Dec (Within g)
within? g =
    map_dec (λ d. record { sizes = d.0; volumes = d.1 }) (λ w. (w.sizes, w.volumes)) (Dec.and (sizes? g) (volumes? g))

pub covers? : (g : Geometry) (v : VolumeNumber) (n : Option ℕ) (count : ℕ) → Dec (Covers g v n count)
covers? g v (Some n) count = Dec.and (dec_lt n (volume_sectors g v)) (dec_lt (n + (count - 1)) (volume_sectors g v))
covers? g v None count = no (λ x. x)
