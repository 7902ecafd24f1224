-- The shut definitions of Landing, opened by an equation each, for this crate's proofs and for the worked examples alone.
use Rattle.std.specs.Prelude.{ℕ, ◌-◌, ◌≡◌, refl}
use Rattle.geometry.specs.declared.Address.{Address}
use Rattle.geometry.specs.declared.Geometry.{Geometry}
use Rattle.geometry.specs.declared.VolumeNumber.{VolumeNumber}
use Rattle.geometry.specs.Drive.{S}
use Rattle.geometry.specs.Sectors.{address, address_of, place_of}
use Rattle.spares.specs.Table.{served_at}
use Rattle.unit.specs.Landing.{landed, onto, spot_at, spot_of, track_of}
use Rattle.unit.specs.Standing.{UnitRecord, geometry, pairs, table}

pub spot_at_is :
    (g : Geometry) (a : Address) → spot_at g a ≡ record { cylinder = a.cylinder; place = place_of g a; rest = S g - a.sector }
unfolding spot_at
spot_at_is g a = refl

pub landed_is :
    (u : UnitRecord) (a : Address) →
    landed u a ≡ onto (served_at (geometry u) (pairs u) (table u) a.cylinder a.head) a
unfolding landed
landed_is u a = refl

pub spot_of_is : (u : UnitRecord) (v : VolumeNumber) (n : ℕ) → spot_of u v n ≡ spot_at (geometry u) (landed u (address_of (geometry u) v n))
unfolding spot_of
spot_of_is u v n = refl

pub track_of_is : (u : UnitRecord) (c h : ℕ) → track_of u c h ≡ spot_at (geometry u) (landed u (address c h 0))
unfolding track_of
track_of_is u c h = refl
