-- A list of elements, taken from the front: nothing yet, and one element more, as it is scanned and as it is copied out.
-- The answers about the elements so far go with the element's own; the sum grows by its bytes; a slot more is filled.
use Prim.Native.Nat.{ℕ, ◌+◌, ◌*◌, ◌≤◌}
use mathlib.Core.Bool.{Bool, ◌&&◌, false, not, true}
use mathlib.Core.List.{List}
use mathlib.Core.Logic.{if_neg, if_pos}
use mathlib.Core.Path.{◌≡◌, refl, sym, ap, ◌∙◌}
use native.Mathlib.Numerals.{add-one}
use native.Mathlib.Omega.{arith}
use lib.ListN.{set}
use Rattle.memory.specs.declared.Element.{Element}
use Rattle.wire.specs.Memory.{InMemory}
use Rattle.wire.specs.Promise.{Says}
use Rattle.wire.proofs.Promises.{granted, says_all_more}
use Rattle.memory.specs.declared.Seen.{Seen}
use Rattle.memory.specs.Lists.{ListGood, element_of, total}
use Rattle.memory.specs.Pieces.{addresses_of, filled, lengths_of, pieces_of}
use Rattle.memory.specs.Readable.{ListPlace, list_place?}
use Rattle.memory.specs.Scan.{Scanned, GoodCount}

pub nothing_scanned : (host : List ℕ) (at : ℕ) → Scanned host at 0 (record { counts = true; ranges = true; sum = 0 })
unfolding total
nothing_scanned host at =
    record { counts = λ i h. absurd (omega arith); ranges = λ i h. absurd (omega arith); sum = refl }

pub one_more_scanned :
    (host : List ℕ) (at n : ℕ) (so : Seen) (e : Element) (bytes : ℕ) (good fits : Bool) →
    e ≡ element_of host at n →
    bytes ≡ e.bytes →
    Scanned host at n so →
    Says good (GoodCount e.bytes) →
    Says fits (InMemory host e.address bytes) →
    Scanned host at (n + 1) (record { counts = so.counts && good; ranges = so.ranges && fits; sum = so.sum + bytes })
unfolding total
one_more_scanned host at n so e bytes good fits is long so_far g f =
    rw (add-one, long, is)
    (record {
      counts =
          says_all_more so.counts good (λ i. GoodCount (element_of host at i).bytes) n so_far.counts (rw is at g);
      ranges =
          says_all_more so.ranges fits (λ i. InMemory host (element_of host at i).address (element_of host at i).bytes) n
          so_far.ranges
          (rw (long, is) at f);
      sum = ap (λ (x : ℕ). x + (element_of host at n).bytes) so_far.sum;
    })

-- A list whose number, place, counts and sum were found good is good.
pub good_list :
    (host : List ℕ) (at n bytes : ℕ) (s : Seen) →
    (1 ≤ n) × (n ≤ 64) →
    InMemory host at (8 * n) →
    Scanned host at n s →
    not s.counts ≡ false →
    s.sum ≡ bytes →
    ListGood host at n bytes
good_list host at n bytes s number place scanned counts sum =
    record {
      some = number.0;
      most = number.1;
      place = place;
      counts = granted s.counts _ counts scanned.counts;
      sum = sym scanned.sum ∙ sum;
    }

-- One element more of the pieces.
pub one_more_piece :
    (host : List ℕ) (at n : ℕ) (e : Element) (bytes : ℕ) (lengths addresses : List ℕ) →
    e ≡ element_of host at n →
    bytes ≡ e.bytes →
    lengths ≡ lengths_of host at n →
    addresses ≡ addresses_of host at n →
    (set lengths n bytes ≡ lengths_of host at (n + 1)) × (set addresses n e.address ≡ addresses_of host at (n + 1))
unfolding lengths_of addresses_of
one_more_piece host at n e bytes lengths addresses is long l a = rw (add-one, long, is, l, a) (refl, refl)

-- The pieces of a list that can be read, and of any other.
pub pieces_inside : (host : List ℕ) (at n : ℕ) → ListPlace host at n → pieces_of host at n ≡ filled host at n
unfolding pieces_of
pieces_inside host at n place = if_pos (list_place? host at n) place _ _

pub pieces_outside : (host : List ℕ) (at n : ℕ) → (ListPlace host at n → ⊥) → pieces_of host at n ≡ filled host 0 0
unfolding pieces_of
pieces_outside host at n out = if_neg (list_place? host at n) out _ _
