-- What is proved of a table: which pair serves a track, where a track lands, and the tracks of the pairs that count.
use Rattle.spares.specs.declared.Track.{Track}
use Rattle.std.specs.Prelude.{ℕ, ◌*◌, min, List, ◌≡◌, take, None, Option, Some}
use Rattle.std.proofs.Math.Logic.Dec.{and as dec_and}
use Rattle.std.proofs.Math.Decide.{map_dec, ℕ_discrete}
use Rattle.geometry.specs.declared.Geometry.{Geometry}
use Rattle.spares.specs.Tracks.{TrackOn, track_number, track_on?}
use Rattle.spares.specs.Table.{OneOf, bad_of, served_from, spare_of}

-- Pair i serves a track: it has it as bad, and a spare that the drive has.
pub record Serves (g : Geometry) (ts : List ℕ) (i t : ℕ) : Type 0 where
  pub bad : bad_of ts i ≡ t
  pub on : TrackOn g (spare_of ts i)

pub serves? : (g : Geometry) (ts : List ℕ) (i t : ℕ) → Dec (Serves g ts i t)
serves? g ts i t =
    map_dec (λ d. record { bad = d.0; on = d.1 }) (λ s. (s.bad, s.on)) (dec_and (ℕ_discrete (bad_of ts i) t) (track_on? g (spare_of ts i)))

-- It is in the table, as bad or as spare.
abbrev pub InTable : ℕ → List ℕ → ℕ → Type 0
InTable n ts t = OneOf (2 * min n 32) ts t

-- What serves the track with a number.
abbrev pub served : Geometry → ℕ → List ℕ → ℕ → Option Track
served g n ts t = served_from g ts 0 (min n 32) t

-- The number of the track that a track lands on.
abbrev pub number_serving : ℕ → Option Track → ℕ
number_serving t None = t
number_serving t (Some k) = track_number k.cylinder k.head

abbrev pub lands_on : Geometry → ℕ → List ℕ → ℕ → ℕ
lands_on g n ts t = number_serving t (served g n ts t)

-- The tracks of the pairs that count; past them a table may hold anything.
abbrev pub counted : ℕ → List ℕ → List ℕ
counted n ts = take (2 * min n 32) ts
