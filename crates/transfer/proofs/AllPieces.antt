-- Carrying piece by piece: before each piece all earlier ones are carried in full, or all bytes are.
-- A piece's bytes are the next ones of the pieces joined, so carrying it is so many stores more.
use Prim.Native.Nat.{ℕ, ◌+◌, ◌-◌, ◌≤◌, ◌<◌, min}
use mathlib.Core.Bool.{Bool}
use mathlib.Core.List.{List}
use mathlib.Core.Path.{◌≡◌, refl, sym, ap, ◌∙◌}
use native.Mathlib.Numerals.{add-one}
use native.Mathlib.Omega.{arith}
use lib.ListN.{get_or, length}
use Rattle.unit.specs.declared.Span.{Span}
use Rattle.unit.specs.Standing.{UnitRecord}
use Rattle.transfer.specs.declared.carry.Cursor.{Cursor}
use Rattle.transfer.specs.Data.{move}
use Rattle.transfer.specs.Runs.{Carried, CarryFits, InImage, On, PiecesFit, Spans, behind, disk_from, lent, piece_byte, span_bytes, span_stores, sum}
use Rattle.transfer.specs.Stores.{Buffers, Store, after, up_to}
use Rattle.transfer.proofs.Joined.{joined_at}
use Rattle.transfer.proofs.Stores.{after_add, up_to_same}

module _ (u : UnitRecord) (s : Span) (to_host : Bool) (lengths addresses host₀ image₀ : List ℕ) where
  abbrev bytes : ℕ → ℕ
  bytes i = get_or lengths i 0

  abbrev all : ℕ
  all = span_bytes u s

  abbrev stores : ℕ → Store
  stores = span_stores u s to_host lengths addresses

  -- Before the i-th piece.
  pub record Before (i done : ℕ) (host image : List ℕ) (c : Cursor) : Type 0 where
    pub most : i ≤ length lengths
    pub bytes_so_far : done ≡ min all (sum bytes i)
    pub on : On u s done c
    pub long_host : length host ≡ length host₀
    pub long_image : length image ≡ length image₀
    pub moved : lent host image ≡ after (up_to done stores) (lent host₀ image₀)

  pub before_first : (c : Cursor) → On u s 0 c → Before 0 0 host₀ image₀ c
  unfolding sum after up_to
  before_first c on =
      record {
        most = omega arith;
        bytes_so_far = omega arith;
        on = on;
        long_host = refl;
        long_image = refl;
        moved = refl;
      }

  -- The i-th piece is carried next: n bytes of it, which are all of it or all that is left, from its address on.
  pub record Next (i done n at : ℕ) : Type 0 where
    pub earlier : done ≡ sum bytes i
    pub some : i < length lengths
    pub n-is : n ≡ min (bytes i) (all - done)
    pub at-is : at ≡ get_or addresses i 0

  -- While bytes are left, all pieces before the i-th are carried.
  pub a_piece :
      (i done n at own whole : ℕ) (host image : List ℕ) (c : Cursor) → Before i done host image c →
      whole ≡ all → (done ≡ whole → ⊥) → i < length lengths → own ≡ bytes i → at ≡ get_or addresses i 0 → n ≡ min own (whole - done) →
      Next i done n at
  a_piece i done n at own whole host image c now whole-is some less own-is at-is n-is =
      record {
        earlier = omega (arith, now.bytes_so_far);
        some = less;
        n-is = rw (own-is, whole-is) at n-is;
        at-is = at-is;
      }

  module _ (fit : PiecesFit (length host₀) all lengths addresses) (i done n at : ℕ) (host image : List ℕ) (c : Cursor) (now : Before i done host image c) (next : Next i done n at) where
    -- The piece may be carried.
    pub piece_fits : Spans u s → InImage u s (length image₀) → CarryFits u s c at n host image
    piece_fits spans held =
        record {
          spans = spans;
          held = rw now.long_image held;
          on = record { stands = now.on.stands; here = refl; most = now.on.most };
          bytes = omega (arith, now.on.here, now.bytes_so_far, next.n-is);
          memory = omega (arith, fit.inside i next.some, now.long_host, next.n-is, next.at-is);
        }

    same : (j : ℕ) → j < n → move to_host (disk_from u s.volume s.first (done + j)) (at + j) ≡ stores (done + j)
    same j j< =
        let there : piece_byte lengths addresses (done + j) ≡ at + j =
        rw (next.earlier, next.at-is)
        (joined_at bytes (λ x. get_or addresses x 0) (length lengths) i j next.some (omega (arith, next.n-is))) in
        ap (λ (x : ℕ). move to_host (disk_from u s.volume s.first (done + j)) x) (sym there)

    pub piece_carried :
        (host' image' : List ℕ) (c' : Cursor) → length host' ≡ length host → length image' ≡ length image →
        Carried u s to_host (behind u c) at n (lent host image) (lent host' image') c' →
        Before (i + 1) (done + n) host' image' c'
    unfolding sum
    piece_carried host' image' c' lh li carried =
        record {
          most = omega (arith, next.some);
          bytes_so_far = rw add-one (omega (arith, next.earlier, next.n-is));
          on = rw now.on.here at carried.on;
          long_host = lh ∙ now.long_host;
          long_image = li ∙ now.long_image;
          moved =
              (rw now.on.here at carried.moved)
              ∙ ap (λ (ss : List Store). after ss (lent host image)) (up_to_same n _ _ same)
              ∙ ap (λ (m : Buffers). after (up_to n (λ j. stores (done + j))) m) now.moved
              ∙ sym (after_add done n stores (lent host₀ image₀));
        }
