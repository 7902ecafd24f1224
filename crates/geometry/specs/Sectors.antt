-- Where each sector stands (01, Geometry; 02, K4): a number in a volume to an address on the drive, a physical address to a number, and an address to a
-- place in the image. Shut, as the sizes of Drive are; only what the functions answer may be opened elsewhere.
use Rattle.std.specs.Prelude.{ℕ, ◌+◌, ◌-◌, ◌*◌, ◌/◌, ◌%◌, ◌<◌, None, Option, Some}
use Rattle.std.proofs.Math.Logic.{ite}
use Rattle.std.proofs.Math.Logic.Dec.{and as dec_and}
use Rattle.std.proofs.Math.Decide.{dec_lt}
use Rattle.geometry.specs.declared.Address.{Address}
use Rattle.geometry.specs.declared.Geometry.{Geometry}
use Rattle.geometry.specs.declared.VolumeNumber.{VolumeNumber}
use Rattle.geometry.specs.Drive.{B, C, N, S, goes_by_head, drive_heads, marks_at, start, volume, volume_sectors}
use Rattle.geometry.specs.Orders.{ordered}
pub mod Inside

-- An address: a cylinder, a head counted over the whole drive, a sector.
abbrev pub address : ℕ → ℕ → ℕ → Address
address c h s = record { cylinder = c; head = h; sector = s }

-- How many tracks the quicker of cylinder and head counts before the slower goes on: N by head, C by cylinder.
abbrev pub tracks_each : Geometry → VolumeNumber → ℕ
tracks_each g v = (ordered (goes_by_head g) (C g, N (volume g v))).1

-- By head "sector n mod S, head (n div S) mod N, cylinder n div (S × N)" (01), and by cylinder "sector n mod S, cylinder (n div S) mod C, head n div
-- (S × C)" (02, K4): slower and quicker are exchanged back to cylinder and head. That head counts from the volume's start head; the address counts over
-- the whole drive. Meant for an n of the volume: by cylinder a greater one can name a head of the other.
pub address_of : Geometry → VolumeNumber → ℕ → Address
address_of g v n =
    let track = ordered (goes_by_head g) (n / (S g * tracks_each g v), (n / S g) % tracks_each g v) in
    address track.0 (start (volume g v) + track.1) (n % S g)

-- "((cylinder × H) + start head + head) × S + sector"; an address's head is that start head + head already.
pub place_of : Geometry → Address → ℕ
place_of g a = (a.cylinder * drive_heads g + a.head) * S g + a.sector

-- The number in a volume of a cylinder, a "physical head .. counted from the volume's start head" and a sector, where the
-- volume has them: the n to which the rule of the drive's order gives these three. By head it is (cylinder × N + head) × S + sector, by cylinder
-- (head × C + cylinder) × S + sector.
pub number_of : Geometry → VolumeNumber → ℕ → ℕ → ℕ → ℕ
number_of g v c h s =
    let steps = ordered (goes_by_head g) (c, h) in
    (steps.0 * tracks_each g v + steps.1) * S g + s

-- Where in the image the sector at a place begins, and where its mark stands.
pub first_byte : Geometry → ℕ → ℕ
first_byte g place = place * B g

pub mark_byte : Geometry → ℕ → ℕ
mark_byte g place = marks_at g + place

-- An address on the drive: any of its cylinders, heads (also those that no volume has) and sectors.
pub record OnDrive (g : Geometry) (a : Address) : Type 0 where
  pub cylinder : a.cylinder < C g
  pub head : a.head < drive_heads g
  pub sector : a.sector < S g

-- The number of a physical address, where the cylinder is below C, the head, counted from the start head, below N and the sector below S; and else that
-- the volume has no such sector.
unfoldable pub numbered : Geometry → VolumeNumber → ℕ → ℕ → ℕ → Option ℕ
numbered g v c h s =
    ite (dec_and (dec_lt c (C g)) (dec_and (dec_lt h (N (volume g v))) (dec_lt s (S g)))) (Some (number_of g v c h s)) None

-- A volume covers a request for so many sectors from a number on: neither the first sector nor the last is outside it (check 16).
abbrev pub Covers : Geometry → VolumeNumber → Option ℕ → ℕ → Type 0
Covers g v (Some n) count = (n < volume_sectors g v) × (n + (count - 1) < volume_sectors g v)
Covers g v None count = ⊥
