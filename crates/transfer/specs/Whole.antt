-- What a transfer comes to where the request fits, and that one which does not is left alone. A caller that has judged its request
-- never meets the second; no caller is trusted to have.
use Rattle.std.specs.Prelude.{ℕ, ◌+◌, ◌*◌, ◌≤◌, ◌<◌, Bool, List, [], get_or, length, None, Option, Some}
use Rattle.std.proofs.Math.Logic.{ite}
use Rattle.std.proofs.Math.Logic.Dec.{and as dec_and}
use Rattle.std.proofs.Math.Decide.{dec_le, dec_lt, map_dec, ℕ_discrete}
use Rattle.wire.proofs.Decided.{all?}
use Rattle.geometry.specs.declared.Geometry.{Geometry}
use Rattle.geometry.specs.Drive.{B, S, drive_sectors, need, volume_sectors}
use Rattle.unit.specs.declared.Span.{Span}
use Rattle.unit.specs.declared.Spot.{Spot}
use Rattle.unit.specs.Standing.{UnitRecord, geometry}
use Rattle.transfer.specs.declared.Moved.{Moved}
use Rattle.transfer.specs.Data.{Transfer, data_on, formatting, moving, progress_on}
use Rattle.transfer.specs.Runs.{PiecesFit, piece_byte, sum}
use Rattle.transfer.specs.Stores.{Store}

-- Some sectors, which their volume has, pieces in host memory for all their bytes, and an image that is long enough for the drive.
pub record SectorsFit (g : Geometry) (s : Span) (lengths addresses : List ℕ) (long image : ℕ) : Type 0 where
  pub some : 0 < s.count
  pub inside : s.first + s.count ≤ volume_sectors g s.volume
  pub pieces : PiecesFit long (s.count * B g) lengths addresses
  pub held : need g ≤ image

-- As many places in a row as a track has, which the drive has, the bytes of a sector in host memory, and such an image.
pub record TrackFits (g : Geometry) (spot : Spot) (at long image : ℕ) : Type 0 where
  pub some : 0 < S g
  pub inside : spot.place + S g ≤ drive_sectors g
  pub memory : at + B g ≤ long
  pub held : need g ≤ image

-- What a transfer comes to on an image.
abbrev pub moved_on : List ℕ → Transfer → Moved
moved_on image t = record { sectors = (progress_on image t).sectors; answer = (progress_on image t).answer }

-- The transfer of a span, to or from pieces.
abbrev pub span_transfer : UnitRecord → Span → Bool → Bool → List ℕ → List ℕ → Transfer
span_transfer u s to_host past_marks lengths addresses =
    moving u to_host past_marks s.volume s.first s.count (piece_byte lengths addresses)

-- Each is decided.
pub pieces_fit? : (long bytes : ℕ) (lengths addresses : List ℕ) → Dec (PiecesFit long bytes lengths addresses)
pieces_fit? long bytes lengths addresses =
    map_dec (λ d. record { pairs = d.0; inside = d.1.0; enough = d.1.1 }) (λ f. (f.pairs, (f.inside, f.enough)))
    (dec_and (ℕ_discrete (length addresses) (length lengths))
    (dec_and (all? _ (λ i. dec_le (get_or addresses i 0 + get_or lengths i 0) long) (length lengths))
    (dec_le bytes (sum (λ i. get_or lengths i 0) (length lengths)))))

pub sectors_fit? : (g : Geometry) (s : Span) (lengths addresses : List ℕ) (long image : ℕ) → Dec (SectorsFit g s lengths addresses long image)
sectors_fit? g s lengths addresses long image =
    map_dec (λ d. record { some = d.0; inside = d.1.0; pieces = d.1.1.0; held = d.1.1.1 })
    (λ f. (f.some, (f.inside, (f.pieces, f.held))))
    (dec_and (dec_lt 0 s.count)
    (dec_and (dec_le (s.first + s.count) (volume_sectors g s.volume))
    (dec_and (pieces_fit? long (s.count * B g) lengths addresses) (dec_le (need g) image))))

pub track_fits? : (g : Geometry) (spot : Spot) (at long image : ℕ) → Dec (TrackFits g spot at long image)
track_fits? g spot at long image =
    map_dec (λ d. record { some = d.0; inside = d.1.0; memory = d.1.1.0; held = d.1.1.1 })
    (λ f. (f.some, (f.inside, (f.memory, f.held))))
    (dec_and (dec_lt 0 (S g))
    (dec_and (dec_le (spot.place + S g) (drive_sectors g))
    (dec_and (dec_le (at + B g) long) (dec_le (need g) image))))

-- The outcome of a call: what is returned, and the stores that were made. Where the request does not fit, that is said, and nothing is stored; which
-- check refuses it is the judge's to say.
pub record Result : Type 0 where
  pub attempt : Option Moved
  pub stores : List Store

abbrev pub made : List ℕ → Transfer → Result
made image t = record { attempt = Some (moved_on image t); stores = data_on image t }

abbrev pub misfit : Result
misfit = record { attempt = None; stores = [] }

unfoldable pub sectors_result : ℕ → List ℕ → UnitRecord → Span → Bool → Bool → List ℕ → List ℕ → Result
sectors_result long image u s to_host past_marks lengths addresses =
    let t = span_transfer u s to_host past_marks lengths addresses in
    ite (sectors_fit? (geometry u) s lengths addresses long (length image)) (made image t) misfit

unfoldable pub track_result : ℕ → List ℕ → UnitRecord → Spot → ℕ → Result
track_result long image u spot at =
    let t = formatting u spot at in
    ite (track_fits? (geometry u) spot at long (length image)) (made image t) misfit
