-- Where a sector of a unit stands in its image, and how long that image has to be, told from the bytes of a record alone: for whoever brings images there and
-- back, or looks one sector up by hand. A record that is too short for its layout, a unit that is not initialized and a sector that it has not are refused
-- with a code each, and nothing is stored.
use Rattle.unit.specs.declared.Spot.{Spot}
use Rattle.std.specs.Prelude.{ℕ, zero, suc, List, length, None, Option, Some}
use Rattle.std.proofs.Math.Logic.{ite}
use Rattle.std.proofs.Math.Decide.{dec_lt}
use Rattle.geometry.specs.declared.Geometry.{Geometry}
use Rattle.geometry.specs.declared.VolumeNumber.TheVariants.{Zero, One}
use Rattle.geometry.specs.Drive.{need}
use Rattle.geometry.specs.Sectors.{address, first_byte, mark_byte}
use Rattle.unit.specs.Answers.{landing, landing_at}
use Rattle.unit.specs.Standing.{UnitRecord, geometry}
use Rattle.unit.proofs.Decided.{counts?}
use Rattle.abi.specs.Calls.{record0_short}
use Rattle.abi.specs.Layouts.{record_in, record_length}

-- The codes of these calls, beside that of a record that is too short.
abbrev pub not_initialized : ℕ
not_initialized = 0x1F7

abbrev pub sector_outside : ℕ
sector_outside = 0x1F8

-- What asking for an image's length comes to: the code, and what the caller's number holds then.
pub record Needed : Type 0 where
  pub code : ℕ
  pub bytes : ℕ

abbrev pub needed_of : (code bytes : ℕ) → Needed
needed_of code bytes = record { code = code; bytes = bytes }

-- The bytes that the image of a record's unit needs, "C × H × S sectors of B bytes, then one mark byte a sector" (01, Geometry; check 17).
unfoldable pub needing : (bytes : List ℕ) (held : ℕ) → Needed
needing bytes held =
    ite (dec_lt (length bytes) record_length) (needed_of record0_short held)
    (ite (counts? (record_in bytes)) (needed_of 0 (need (geometry (record_in bytes)))) (needed_of not_initialized held))

-- What asking for a sector comes to: the code, and what the caller's three numbers hold then: its place in the image, its first byte, and the byte that is its mark.
pub record Located : Type 0 where
  pub code : ℕ
  pub place : ℕ
  pub first : ℕ
  pub mark : ℕ

abbrev pub located_of : (code place first mark : ℕ) → Located
located_of code place first mark = record { code = code; place = place; first = first; mark = mark }

-- Refused: the numbers hold what they held.
abbrev pub refusing : ℕ → Located → Located
refusing code held = located_of code held.place held.first held.mark

-- A landing, which is on the spare where its track is mapped (02, K5), as it stands in the image.
abbrev pub standing : Geometry → Option Spot → Located → Located
standing g (Some spot) held = located_of 0 spot.place (first_byte g spot.place) (mark_byte g spot.place)
standing g None held = refusing sector_outside held

-- The sector with a number in a volume; there are volumes 0 and 1, and one that is absent has no sector.
abbrev pub numbered_in : (volume number : ℕ) → UnitRecord → Option Spot
numbered_in zero n u = landing u Zero n
numbered_in (suc zero) n u = landing u One n
numbered_in (suc (suc volume)) n u = None

-- The sector at a cylinder, a head counted over the whole drive, and a sector of the track.
abbrev pub addressed_by : (cylinder head sector : ℕ) → UnitRecord → Option Spot
addressed_by c h s u = landing_at u (address c h s)

-- Where a record's unit has it. `held` is what the caller's three numbers held.
unfoldable pub locating : (UnitRecord → Option Spot) → (bytes : List ℕ) → Located → Located
locating lands bytes held =
    let u = record_in bytes in
    ite (dec_lt (length bytes) record_length) (refusing record0_short held)
    (ite (counts? u) (standing (geometry u) (lands u) held) (refusing not_initialized held))
