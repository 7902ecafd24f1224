-- What the functions of a landing answer: a spot, or that the drive has none.
use Rattle.unit.specs.declared.Spot.{Spot}
use Rattle.std.specs.Prelude.{ℕ, None, Option, Some}
use Rattle.std.proofs.Math.Logic.{ite}
use Rattle.std.proofs.Math.Decide.{dec_lt}
use Rattle.geometry.specs.declared.Address.{Address}
use Rattle.geometry.specs.declared.Geometry.{Geometry}
use Rattle.geometry.specs.declared.VolumeNumber.{VolumeNumber}
use Rattle.geometry.specs.Drive.{volume_sectors}
use Rattle.geometry.specs.Answers.{on_drive?}
use Rattle.geometry.specs.Sectors.{address}
use Rattle.unit.specs.Standing.{UnitRecord, geometry}
use Rattle.unit.specs.Landing.{spot_at, landed, spot_of, track_of}

-- Of an address itself, whatever serves its track.
unfoldable pub spotted : Geometry → Address → Option Spot
spotted g a = ite (on_drive? g a) (Some (spot_at g a)) None

-- Of where it lands. Whether the drive has it goes by the address named, and not by where that lands.
unfoldable pub landing_at : UnitRecord → Address → Option Spot
landing_at u a = ite (on_drive? (geometry u) a) (Some (spot_at (geometry u) (landed u a))) None

unfoldable pub landing : UnitRecord → VolumeNumber → ℕ → Option Spot
landing u v n = ite (dec_lt n (volume_sectors (geometry u) v)) (Some (spot_of u v n)) None

unfoldable pub track_landing : UnitRecord → ℕ → ℕ → Option Spot
track_landing u c h = ite (on_drive? (geometry u) (address c h 0)) (Some (track_of u c h)) None
