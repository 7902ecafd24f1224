-- What the functions of a sector answer: what was asked for, or that it is outside.
use Rattle.std.specs.Prelude.{ℕ, None, Option, Some}
use Rattle.std.proofs.Math.Logic.{ite}
use Rattle.std.proofs.Math.Logic.Dec.{and as dec_and}
use Rattle.std.proofs.Math.Decide.{dec_lt, map_dec}
use Rattle.geometry.specs.declared.Address.{Address}
use Rattle.geometry.specs.declared.Geometry.{Geometry}
use Rattle.geometry.specs.declared.Sector.{Sector}
use Rattle.geometry.specs.declared.VolumeNumber.{VolumeNumber}
use Rattle.geometry.specs.Drive.{C, N, S, drive_heads, drive_sectors, volume, volume_sectors}
use Rattle.geometry.specs.Following.{InVolume}
use Rattle.geometry.specs.Sectors.{OnDrive, address_of, first_byte, mark_byte, place_of}

-- A sector by its number in a volume.
unfoldable pub found : Geometry → VolumeNumber → ℕ → Option Address
found g v n = ite (dec_lt n (volume_sectors g v)) (Some (address_of g v n)) None

-- Whether the drive has an address, and a volume a physical one, is decided.
pub on_drive? : (g : Geometry) (a : Address) → Dec (OnDrive g a)
on_drive? g a =
    map_dec (λ d. record { cylinder = d.0; head = d.1.0; sector = d.1.1 }) (λ o. (o.cylinder, (o.head, o.sector)))
    (dec_and (dec_lt a.cylinder (C g)) (dec_and (dec_lt a.head (drive_heads g)) (dec_lt a.sector (S g))))

pub in_volume? : (g : Geometry) (v : VolumeNumber) (c h s : ℕ) → Dec (InVolume g v c h s)
in_volume? g v c h s =
    map_dec (λ d. record { cylinder = d.0; head = d.1.0; sector = d.1.1 }) (λ i. (i.cylinder, (i.head, i.sector)))
    (dec_and (dec_lt c (C g)) (dec_and (dec_lt h (N (volume g v))) (dec_lt s (S g))))

-- A place by its address.
unfoldable pub placed : Geometry → Address → Option ℕ
placed g a = ite (on_drive? g a) (Some (place_of g a)) None

-- The two indices of a sector by its place: where it begins, and its mark.
unfoldable pub sector_at : Geometry → ℕ → Option Sector
sector_at g place = ite (dec_lt place (drive_sectors g)) (Some (record { first = first_byte g place; mark = mark_byte g place })) None
