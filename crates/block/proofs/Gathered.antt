-- The pieces of a job that fits: they fit too, and byte k of them is byte k of the block's data.
-- One piece is a list of one; a list's pieces are its elements, as they were copied out.
use Prim.Native.Nat.{ℕ, zero, suc, ◌*◌, ◌≤◌, ◌<◌}
use mathlib.Core.List.{List, [], ◌∷◌, ◌++◌}
use mathlib.Core.Logic.{if_pos}
use mathlib.Core.Path.{◌≡◌, refl, sym, ap, ◌∙◌}
use native.Mathlib.Nat.{mul-le-mul_right, zero-add}
use native.Mathlib.Omega.{arith}
use lib.ListN.{get_or, length, take}
use lib.Seq.{get_or-take, length-take-le}
use Rattle.wire.specs.Memory.{InMemory}
use Rattle.geometry.specs.Drive.{B}
use Rattle.memory.specs.Lists.{ListGood, Ranges, element_of, total}
use Rattle.memory.specs.Pieces.{addresses_of, filled, lengths_of, pieces_of}
use Rattle.memory.specs.declared.Pieces.{Pieces}
use Rattle.memory.specs.Readable.{list_place?}
use Rattle.memory.proofs.Slots.{address_slot, addresses_long, length_slot, lengths_long}
use Rattle.judge.specs.declared.Job.{Job}
use Rattle.judge.specs.declared.Moving.{Moving}
use Rattle.judge.specs.Fits.{JobGood, TrackGood}
use Rattle.request.specs.declared.Buffer.{Buffer}
use Rattle.unit.specs.declared.Spot.{Spot}
use Rattle.unit.specs.Standing.{UnitRecord, geometry}
use Rattle.transfer.specs.declared.Moved.{Moved}
use Rattle.transfer.specs.Data.{Transfer, data_on, move_at, progress_on}
use Rattle.transfer.specs.Pieces.{joined}
use Rattle.transfer.specs.Progress.{stops_at}
use Rattle.transfer.specs.Runs.{PiecesFit, piece_byte, sum, place_from}
use Rattle.transfer.specs.Stores.{Store, after}
use Rattle.transfer.proofs.Joined.{joined_one, joined_same, sum_same}
use Rattle.transfer.proofs.Progress.{progress_most}
use Rattle.transfer.proofs.Stores.{up_to_same}
use Rattle.transfer.specs.Whole.{SectorsFit, TrackFits}
use Rattle.block.specs.Block.{begun, data_byte}
use Rattle.block.specs.Steps.{Made, three, transfer_with}

-- Two ways to say where the data of a job lies that agree on all its bytes are one transfer.
module _ (image : List ℕ) (u : UnitRecord) (j : Job) (f g : ℕ → ℕ) (same : (k : ℕ) → k < j.span.count * B (geometry u) → f k ≡ g k) where
  abbrev with : (ℕ → ℕ) → Transfer
  with h = transfer_with u (Moving.Sectors j) h

  come : (progress_on image (with f)).sectors ≤ j.span.count
  come =
      rw zero-add at
      (progress_most (λ x. stops_at image (geometry u) (with f).heeds (place_from u j.span.volume j.span.first x)) 0 j.span.count)

  pub data_same : data_on image (with f) ≡ data_on image (with g)
  unfolding data_on
  data_same =
      up_to_same ((progress_on image (with f)).sectors * B (geometry u)) _ _
      (λ k h.
      ap (λ (x : ℕ). move_at (with (λ y. x)) k)
      (same k (omega (arith, h, mul-le-mul_right (B (geometry u)) come))))

  pub made_same :
      (at : ℕ) (host host' image' : List ℕ) (m : Moved) → Made (with f) at host image host' image' m → Made (with g) at host image host' image' m
  made_same at host host' image' m made =
      record {
        result = made.result;
        stored = λ events. made.stored events ∙ ap (λ (ss : List Store). after (begun at ++ ss) (three host image events)) data_same;
      }

-- ---- one piece

pub one_piece_fits :
    (host : List ℕ) (at bytes : ℕ) → InMemory host at bytes → PiecesFit (length host) bytes (bytes ∷ []) (at ∷ [])
unfolding sum
one_piece_fits host at bytes place =
    record {
      pairs = refl;
      inside = λ i h. let first : i ≡ 0 = omega arith in rw first place.inside;
      enough = omega arith;
    }

pub one_piece_byte :
    (host : List ℕ) (at bytes k : ℕ) → k < bytes → piece_byte (bytes ∷ []) (at ∷ []) k ≡ data_byte host (Buffer.Piece at) k
one_piece_byte host at bytes k less = joined_one (λ i. get_or (bytes ∷ []) i 0) (λ i. get_or (at ∷ []) i 0) k less

-- ---- a list's pieces

module _ (host : List ℕ) (at n bytes : ℕ) (good : ListGood host at n bytes) where
  abbrev lengths : List ℕ
  lengths = take n (lengths_of host at n)

  abbrev addresses : List ℕ
  addresses = take n (addresses_of host at n)

  many : length lengths ≡ n
  many = length-take-le n (lengths_of host at n) (omega (arith, good.most, lengths_long host at n))

  many_addresses : length addresses ≡ n
  many_addresses = length-take-le n (addresses_of host at n) (omega (arith, good.most, addresses_long host at n))

  slots : (i : ℕ) → i < n → (get_or lengths i 0 ≡ (element_of host at i).bytes) × (get_or addresses i 0 ≡ (element_of host at i).address)
  slots i less = (
    get_or-take n (lengths_of host at n) i 0 less ∙ length_slot host at n i less good.most,
    get_or-take n (addresses_of host at n) i 0 less ∙ address_slot host at n i less good.most,
  )

  total_is_sum : (m : ℕ) → total host at m ≡ sum (λ i. (element_of host at i).bytes) m
  unfolding total sum
  total_is_sum zero = refl
  total_is_sum (suc m) = rw (total_is_sum m)

  pub list_fits : Ranges host at n → PiecesFit (length host) bytes lengths addresses
  list_fits ranges =
      record {
        pairs = many_addresses ∙ sym many;
        inside = λ i h.
            let less : i < n = omega (arith, many) in
            rw ((slots i less).0, (slots i less).1) (ranges i less).inside;
        enough =
            let all : sum (λ i. get_or lengths i 0) (length lengths) ≡ bytes =
            ap (λ (x : ℕ). sum (λ i. get_or lengths i 0) x) many
            ∙ sum_same _ _ n (λ i h. (slots i h).0)
            ∙ sym (total_is_sum n)
            ∙ good.sum in
            omega (arith, all);
      }

  pub list_byte : (k : ℕ) → piece_byte lengths addresses k ≡ data_byte host (Buffer.List at n) k
  list_byte k =
      ap (λ (x : ℕ). joined (λ i. get_or lengths i 0) (λ i. get_or addresses i 0) x 0 k) many
      ∙ joined_same _ _ _ _ n 0 k (λ t h. rw zero-add (slots t h))

-- ---- a job that fits

module _ (host image : List ℕ) (u : UnitRecord) (j : Job) (good : JobGood u (length image) host j) where
  fits_with :
      (lengths addresses : List ℕ) → PiecesFit (length host) (j.span.count * B (geometry u)) lengths addresses →
      SectorsFit (geometry u) j.span lengths addresses (length host) (length image)
  fits_with lengths addresses pieces =
      record { some = good.span.some; inside = good.span.inside; pieces = pieces; held = good.long }

  pub piece_fits :
      (at : ℕ) → j.buffer ≡ Buffer.Piece at →
      SectorsFit (geometry u) j.span (j.span.count * B (geometry u) ∷ []) (at ∷ []) (length host) (length image)
  piece_fits at is = fits_with _ _ (one_piece_fits host at (j.span.count * B (geometry u)) (rw is at good.buffer))

  module _ (at n : ℕ) (is : j.buffer ≡ Buffer.List at n) where
    pub list_good : ListGood host at n (j.span.count * B (geometry u))
    list_good = (rw is at good.buffer).0

    pub elements_fit : SectorsFit (geometry u) j.span (take n (lengths_of host at n)) (take n (addresses_of host at n)) (length host) (length image)
    elements_fit = fits_with _ _ (list_fits host at n (j.span.count * B (geometry u)) list_good (rw is at good.buffer).1)

    -- The elements are copied out as they stand, and there are slots enough for them.
    pub record CopiedOut (p : Pieces) : Type 0 where
      pub out : p ≡ filled host at n
      pub lengths : n ≤ length p.lengths

    pub copied_out : (p : Pieces) → p ≡ pieces_of host at n → CopiedOut p
    unfolding pieces_of
    copied_out p is =
        let out = is ∙ if_pos (list_place? host at n) (record { most = list_good.most; place = list_good.place }) _ _ in
        record {
          out = out;
          lengths = rw out (omega (arith, list_good.most, lengths_long host at n));
        }

-- A track that fits.
pub track_fits :
    (host : List ℕ) (image : ℕ) (u : UnitRecord) (spot : Spot) (at : ℕ) → TrackGood u image host spot at →
    TrackFits (geometry u) spot at (length host) image
track_fits host image u spot at good =
    record { some = good.some; inside = good.track; memory = good.buffer.inside; held = good.long }
