-- Where one sector, or one track, lands on a unit: its cylinder, its place, and how far its track goes on from there. None of it asks
-- whether the unit counts as initialized. Everything above goes by these and by the laws of proofs/; what is behind is shut.
use Rattle.spares.specs.declared.Track.{Track}
use Rattle.std.specs.Prelude.{ℕ, ◌-◌, None, Option, Some}
use Rattle.geometry.specs.declared.Address.{Address}
use Rattle.geometry.specs.declared.Geometry.{Geometry}
use Rattle.geometry.specs.declared.VolumeNumber.{VolumeNumber}
use Rattle.geometry.specs.Drive.{S}
use Rattle.geometry.specs.Sectors.{address, address_of, place_of}
use Rattle.spares.specs.Table.{served_at}
use Rattle.unit.specs.declared.Spot.{Spot}
use Rattle.unit.specs.Standing.{UnitRecord, geometry, pairs, table}
pub mod Behind

-- A sector of the drive: its cylinder, its "place in the image", and the sectors from it to the end of its track.
pub spot_at : Geometry → Address → Spot
spot_at g a = record { cylinder = a.cylinder; place = place_of g a; rest = S g - a.sector }

-- Where an address lands: "Every later command that lands on a bad track works on its spare" (02, K5). The sector stays.
abbrev pub onto : Option Track → Address → Address
onto None a = a
onto (Some k) a = address k.cylinder k.head a.sector

pub landed : UnitRecord → Address → Address
landed u a = onto (served_at (geometry u) (pairs u) (table u) a.cylinder a.head) a

-- The sector with a number in a volume.
pub spot_of : UnitRecord → VolumeNumber → ℕ → Spot
spot_of u v n = spot_at (geometry u) (landed u (address_of (geometry u) v n))

-- The first sector of a track, its head "counted over the whole drive" (01, One run, 8C).
pub track_of : UnitRecord → ℕ → ℕ → Spot
track_of u c h = spot_at (geometry u) (landed u (address c h 0))
