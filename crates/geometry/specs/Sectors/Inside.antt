-- The shut definitions of Sectors, opened by an equation each, for this crate's proofs and for the worked examples alone.
use Rattle.std.specs.Prelude.{ℕ, ◌+◌, ◌*◌, ◌/◌, ◌%◌, ◌≡◌, refl}
use Rattle.geometry.specs.declared.Address.{Address}
use Rattle.geometry.specs.declared.Geometry.{Geometry}
use Rattle.geometry.specs.declared.VolumeNumber.{VolumeNumber}
use Rattle.geometry.specs.Drive.{B, S, goes_by_head, drive_heads, marks_at, start, volume}
use Rattle.geometry.specs.Orders.{ordered}
use Rattle.geometry.specs.Sectors.{address, address_of, first_byte, mark_byte, number_of, place_of, tracks_each}

pub address_of_is :
    (g : Geometry) (v : VolumeNumber) (n : ℕ) →
    address_of g v n ≡
    (let track = ordered (goes_by_head g) (n / (S g * tracks_each g v), (n / S g) % tracks_each g v) in
    address track.0 (start (volume g v) + track.1) (n % S g))
unfolding address_of
address_of_is g v n = refl

pub place_of_is : (g : Geometry) (a : Address) → place_of g a ≡ (a.cylinder * drive_heads g + a.head) * S g + a.sector
unfolding place_of
place_of_is g a = refl

pub number_of_is :
    (g : Geometry) (v : VolumeNumber) (c h s : ℕ) →
    number_of g v c h s ≡ (let steps = ordered (goes_by_head g) (c, h) in (steps.0 * tracks_each g v + steps.1) * S g + s)
unfolding number_of
number_of_is g v c h s = refl

pub first_byte_is : (g : Geometry) (place : ℕ) → first_byte g place ≡ place * B g
unfolding first_byte
first_byte_is g place = refl

pub mark_byte_is : (g : Geometry) (place : ℕ) → mark_byte g place ≡ marks_at g + place
unfolding mark_byte
mark_byte_is g place = refl
