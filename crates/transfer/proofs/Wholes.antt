-- A transfer that fits: the sectors that come have all their bytes in the image, so they may be carried.
-- Then how far it comes and what is carried are the two halves of its result.
use Prim.Native.Nat.{ℕ, ◌+◌, ◌*◌, ◌/◌, ◌^◌, ◌≤◌, ◌<◌}
use mathlib.Core.Bool.{Bool}
use mathlib.Core.List.{List}
use mathlib.Core.Logic.{by_cases, if_neg, if_pos}
use mathlib.Core.Path.{◌≡◌, ap}
use native.Mathlib.Decide.{dec_lt}
use native.Mathlib.Nat.{div-lt_iff_lt-mul, mod-lt, mul-le-mul_right, mul-zero, zero-add}
use native.Mathlib.Omega.{arith}
use lib.ListN.{length}
use Rattle.geometry.specs.declared.Geometry.{Geometry}
use Rattle.geometry.specs.Drive.{B, need, volume_sectors}
use Rattle.geometry.specs.Sectors.{first_byte}
use Rattle.geometry.proofs.Laws.{sector_in_image}
use Rattle.unit.proofs.Laws.{spot_inside}
use Rattle.unit.specs.declared.Span.{Span}
use Rattle.unit.specs.Standing.{UnitRecord, geometry}
use Rattle.transfer.specs.Data.{disk_byte}
use Rattle.transfer.specs.Progress.{Progress, stops_at}
use Rattle.transfer.specs.Runs.{InImage, PiecesFit, Spans, progress_from, span_bytes, place_from}
use Rattle.transfer.specs.Whole.{SectorsFit, made, misfit, sectors_fit?, sectors_result, span_transfer}
use Rattle.transfer.proofs.Progress.{progress_most}

-- Where sectors have a byte, a sector has bytes.
pub some_bytes : (n b k : ℕ) → k < n * b → 0 < b
some_bytes n b k less =
    by_cases (dec_lt 0 b) (λ some. some)
    (λ none.
    let zero : b ≡ 0 = omega arith in
    absurd (omega (arith, ap (λ (x : ℕ). n * x) zero, mul-zero n)))

-- A span that fits has sectors whose numbers can be counted, since its volume's can.
pub spans_fit :
    (u : UnitRecord) (s : Span) (lengths addresses : List ℕ) (long image : ℕ) →
    SectorsFit (geometry u) s lengths addresses long image → volume_sectors (geometry u) s.volume < 2 ^ 64 → Spans u s
spans_fit u s lengths addresses long image fits small =
    record { inside = fits.inside; small = omega (arith, fits.inside, small) }

-- Sectors that all lie in the image have all their bytes there.
pub bytes_held :
    (g : Geometry) (place : ℕ → ℕ) (n long : ℕ) → ((j : ℕ) → j < n → first_byte g (place j) + B g ≤ long) →
    (k : ℕ) → k < n * B g → disk_byte g place k < long
bytes_held g place n long inside k less =
    let some = some_bytes n (B g) k less in
    omega (arith, inside (k / B g) ((div-lt_iff_lt-mul some).1 less), mod-lt k some)

module _ (image : List ℕ) (u : UnitRecord) (s : Span) (heeds : Bool) where
  -- The sectors of a span that come.
  abbrev come : Progress
  come = progress_from image u s.volume heeds s.first s.count

  abbrev reached : Span
  reached = record { volume = s.volume; first = s.first; count = come.sectors }

  most : come.sectors ≤ s.count
  most = rw zero-add at (progress_most (λ j. stops_at image (geometry u) heeds (place_from u s.volume s.first j)) 0 s.count)

  pub reached_spans : Spans u s → Spans u reached
  reached_spans spans = record { inside = omega (arith, spans.inside, most); small = omega (arith, spans.small, most) }

  pub reached_held : Spans u s → need (geometry u) ≤ length image → InImage u reached (length image)
  reached_held spans long =
      bytes_held (geometry u) (place_from u s.volume s.first) come.sectors (length image)
      (λ j j<.
      (sector_in_image (geometry u) (length image) (place_from u s.volume s.first j) long
      (omega (arith, spot_inside u s.volume (s.first + j) (omega (arith, spans.inside, most))))).0)

  pub reached_pieces :
      (long : ℕ) (lengths addresses : List ℕ) →
      PiecesFit long (span_bytes u s) lengths addresses → PiecesFit long (span_bytes u reached) lengths addresses
  reached_pieces long lengths addresses fit =
      record {
        pairs = fit.pairs;
        inside = fit.inside;
        enough = omega (arith, fit.enough, mul-le-mul_right (B (geometry u)) most);
      }

-- The two results of a call.
module _ (long : ℕ) (image : List ℕ) (u : UnitRecord) (s : Span) (to_host past_marks : Bool) (lengths addresses : List ℕ) where
  pub sectors_fit :
      SectorsFit (geometry u) s lengths addresses long (length image) →
      sectors_result long image u s to_host past_marks lengths addresses ≡
      made image (span_transfer u s to_host past_marks lengths addresses)
  unfolding sectors_result
  sectors_fit fit = if_pos (sectors_fit? (geometry u) s lengths addresses long (length image)) fit _ _

  pub sectors_unfit :
      (SectorsFit (geometry u) s lengths addresses long (length image) → ⊥) →
      sectors_result long image u s to_host past_marks lengths addresses ≡ misfit
  unfolding sectors_result
  sectors_unfit unfit = if_neg (sectors_fit? (geometry u) s lengths addresses long (length image)) unfit _ _
