-- Which bytes of the image an address reaches, which tracks are bad and which serve as spares (02, K5 and K7).
use Rattle.std.specs.Prelude.{ℕ, ◌<◌, ◌⊎◌, ◌≡◌}
use Rattle.geometry.specs.declared.Address.{Address}
use Rattle.geometry.specs.declared.Geometry.{Geometry}
use Rattle.geometry.specs.Drive.{S}
use Rattle.geometry.specs.SectorBytes.{SectorByte}
use Rattle.geometry.specs.Sectors.{OnDrive, address, place_of}
use Rattle.spares.specs.declared.Track.{Track}
use Rattle.spares.specs.Table.{bad_of, spare_of}
use Rattle.spares.specs.Tracks.{stands_for}
use Rattle.unit.specs.Standing.{UnitRecord, geometry, pairs, table}
use Rattle.unit.specs.Landing.{landed}

-- The bytes of the image that an address reaches (02, K7): those of the sector where it lands, that sector's mark included.
abbrev pub Reaches : UnitRecord → Address → ℕ → Type 0
Reaches u a x = SectorByte (geometry u) (place_of (geometry u) (landed u a)) x

-- A place is one of a track's S places, and a byte is the track's where it is one of a sector there, or that sector's mark.
pub record OnTrack (g : Geometry) (k : Track) (place : ℕ) : Type 0 where
  pub sector : ℕ
  pub less : sector < S g
  pub here : place ≡ place_of g (address k.cylinder k.head sector)

pub record TrackByte (g : Geometry) (k : Track) (x : ℕ) : Type 0 where
  pub place : ℕ
  pub on : OnTrack g k place
  pub byte : SectorByte g place x

-- A pair of a unit's table that counts has one track as bad and the other as its spare. Where more pairs are said to count than there is room
-- for, the table is not good and no block goes by it.
pub record Paired (u : UnitRecord) (bad spare : Track) : Type 0 where
  pub pair : ℕ
  pub counts : pair < pairs u
  pub its_bad : stands_for (bad_of (table u) pair) ≡ bad
  pub its_spare : stands_for (spare_of (table u) pair) ≡ spare

-- A track that such a pair has as bad,
abbrev pub Bad : UnitRecord → Track → Type 0
Bad u k = (spare : Track) × Paired u k spare

-- and one that it has as its spare: "a track serving as spare" (02, K7).
abbrev pub ServesAsSpare : UnitRecord → Track → Type 0
ServesAsSpare u k = (bad : Track) × Paired u bad k

-- The track that an address names, whatever track it lands on; and whether that one serves as spare.
abbrev pub track_named : Address → Track
track_named a = record { cylinder = a.cylinder; head = a.head }

abbrev pub OnSpare : UnitRecord → Address → Type 0
OnSpare u a = ServesAsSpare u (track_named a)

-- The first of two addresses is on a bad track, and the second on the spare that serves it, at the same sector.
pub record BadAndItsSpare (u : UnitRecord) (a b : Address) : Type 0 where
  pub paired : Paired u (track_named a) (track_named b)
  pub sector : a.sector ≡ b.sector

-- Two addresses meet: they are one, or one is on a bad track and the other on its spare.
abbrev pub Meets : UnitRecord → Address → Address → Type 0
Meets u a b = (a ≡ b) ⊎ (BadAndItsSpare u a b ⊎ BadAndItsSpare u b a)

-- "two different physical addresses of the drive, neither on a track serving as spare, never reach the same image bytes" (02, K7): there is no byte
-- that both reach.
abbrev pub NoTwoInOnePlace : UnitRecord → Type 0
NoTwoInOnePlace u =
    (a b : Address) → OnDrive (geometry u) a → OnDrive (geometry u) b → (a ≡ b → ⊥) → (OnSpare u a → ⊥) → (OnSpare u b → ⊥) →
    (x : ℕ) → Reaches u a x → Reaches u b x → ⊥
