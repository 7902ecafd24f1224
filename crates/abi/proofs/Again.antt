-- A record that is left twice is left as it is the second time: where an initialized one is left, all of its bytes stand there, whether they were stored or stood there
-- already. For bytes in which an initialized record stands are those that it would be stored as.
use Prim.Native.Nat.{ℕ, zero, suc, ◌+◌, ◌*◌, ◌^◌, ◌≤◌, ◌<◌}
use mathlib.Core.Bool.{Bool, true, false, false≢true, not, ◌&&◌}
use mathlib.Core.List.{List, [], ◌∷◌, ◌++◌}
use mathlib.Core.Logic.{◌⊎◌, by_cases, inl, inr}
use mathlib.Core.Path.{◌≡◌, refl, sym, ap, ◌∙◌}
use native.Mathlib.Decide.{dec_lt}
use native.Mathlib.Omega.{arith}
use borrow.Author.Tests.{eq-eqb, eqb-true, leb-true}
use lib.Dec.{eqb, leb}
use lib.ListN.{drop, get_or, length, length-drop, get_or-eq_default}
use lib.Seq.{ext_get_or, get_or-drop, length-sets}
use Rattle.unit.specs.HolderNumbers.{holder_number, holder_of}
use Rattle.unit.specs.Standing.{CountsAsInitialized, UnitRecord, initialized, table}
use Rattle.unit.proofs.Decided.{same_with_table?}
use Rattle.block.proofs.Entries.{written_row}
use Rattle.wire.specs.Storing.{two_bytes, written}
use Rattle.wire.specs.Words.{be16, be32, word}
use Rattle.wire.proofs.Laws.{word_below}
use Rattle.abi.specs.Calls.{record_left}
use Rattle.abi.specs.Layouts.{holder_in, opening_bytes, order_and_holder, order_byte, record_bytes, record_in, says_initialized, track_bytes, tracks_in, volume_bytes, volume_in}
use Rattle.abi.proofs.Laws.{Narrow, left_reads_back, record_length_lem}
use Rattle.abi.proofs.Left.{left_anew, left_as_it_came}
use Rattle.abi.proofs.Tracks.{at_the_head, bytes_back, length_tracks, length_words, past_written, word_at, written_the_same}

-- A yes of two is a yes of each.
both_yes : (a b : Bool) → (a && b) ≡ true → (a ≡ true) × (b ≡ true)
both_yes true b so = (refl, so)
both_yes false b so = absurd (false≢true so)

-- The byte of an order, and of a holder, that a record may have is the one that it is stored as.
order_stands : (n : ℕ) → n ≤ 1 → order_byte (not (eqb n 1)) ≡ n
order_stands zero few = refl
order_stands (suc zero) few = refl
order_stands (suc (suc n)) few = absurd (omega arith)

holder_stands : (n : ℕ) → n ≤ 2 → holder_number (holder_of n) ≡ n
unfolding holder_of
holder_stands zero few = refl
holder_stands (suc zero) few = refl
holder_stands (suc (suc zero)) few = refl
holder_stands (suc (suc (suc n))) few = absurd (omega arith)

-- ---- bytes in which an initialized record stands

module _ (bytes : List ℕ) (low : (i : ℕ) → get_or bytes i 0 < 256) where
  -- Stored where it stands: one list after another,
  in_a_row : (at : ℕ) (xs ys : List ℕ) → written bytes at xs ≡ bytes → written bytes (at + length xs) ys ≡ bytes → written bytes at (xs ++ ys) ≡ bytes
  in_a_row at xs ys first then = sym (written_row bytes at xs ys) ∙ ap (λ (l : List ℕ). written l (at + length xs) ys) first ∙ then

  -- two bytes, each for itself and as a word.
  pair_stands : (at a b : ℕ) → a ≡ get_or bytes (at + 0) 0 → b ≡ get_or bytes (at + 1) 0 → written bytes at (a ∷ b ∷ []) ≡ bytes
  pair_stands at a b is-a is_b = written_the_same bytes at (a ∷ b ∷ []) each
    where
      each : (i : ℕ) → i < 2 → get_or (a ∷ b ∷ []) i 0 ≡ get_or bytes (at + i) 0
      each zero less = is-a
      each (suc zero) less = is_b
      each (suc (suc i)) less = absurd (omega arith)

  word_stands : (at : ℕ) → written bytes at (two_bytes (be16 bytes at)) ≡ bytes
  unfolding word
  word_stands at = pair_stands at _ _ (omega (arith, low (at + 0), low (at + 1))) (omega (arith, low (at + 0), low (at + 1)))

  module _ (says : says_initialized bytes ≡ true) where
    abbrev opened : be32 bytes 0 ≡ 0x02010114
    opened = eqb-true (be32 bytes 0) 0x02010114 (both_yes (eqb (be32 bytes 0) 0x02010114) _ says).0

    abbrev ordered_and_held : (get_or bytes 16 0 ≤ 1) × (get_or bytes 17 0 ≤ 2)
    ordered_and_held =
        let two = both_yes (leb (get_or bytes 16 0) 1) _ (both_yes (eqb (be32 bytes 0) 0x02010114) _ says).1 in
        (leb-true _ 1 two.0, leb-true _ 2 two.1)

    opening_stands : written bytes 0 (opening_bytes (says_initialized bytes)) ≡ bytes
    unfolding word
    opening_stands =
        let is = opened in
        rw says
        (in_a_row 0 (0x02 ∷ 0x01 ∷ []) (0x01 ∷ 0x14 ∷ [])
        (pair_stands 0 _ _ (omega (arith, low 0, low 1, low 2, low 3)) (omega (arith, low 0, low 1, low 2, low 3)))
        (pair_stands 2 _ _ (omega (arith, low 0, low 1, low 2, low 3)) (omega (arith, low 0, low 1, low 2, low 3))))

    holder_in_lem : holder_in bytes ≡ holder_of (get_or bytes 17 0)
    unfolding word
    holder_in_lem =
        let is = opened in
        let version : eqb (get_or bytes 0 0) 2 ≡ true = eq-eqb (get_or bytes 0 0) 2 (omega (arith, low 0, low 1, low 2, low 3)) in
        let long : eqb (be16 bytes 2) 0x0114 ≡ true = eq-eqb (be16 bytes 2) 0x0114 (omega (arith, low 0, low 1, low 2, low 3)) in
        rw (version, long)

    -- The record stored is the bytes that it stands in.
    stands : written bytes 0 (record_bytes (record_in bytes)) ≡ bytes
    stands =
        in_a_row 0 (opening_bytes (says_initialized bytes)) _ opening_stands
        (in_a_row 4 (two_bytes (be16 bytes 4)) _ (word_stands 4)
        (in_a_row 6 (two_bytes (be16 bytes 6)) _ (word_stands 6)
        (in_a_row 8 (two_bytes (be16 bytes 8)) _ (word_stands 8)
        (in_a_row 10 (volume_bytes (volume_in bytes 10)) _ (pair_stands 10 _ _ refl refl)
        (in_a_row 12 (volume_bytes (volume_in bytes 12)) _ (pair_stands 12 _ _ refl refl)
        (in_a_row 14 (two_bytes (be16 bytes 14)) _ (word_stands 14)
        (in_a_row 16 (order_and_holder (record_in bytes)) _
        (pair_stands 16 _ _ (order_stands _ ordered_and_held.0) (ap holder_number holder_in_lem ∙ holder_stands _ ordered_and_held.1))
        (in_a_row 18 (two_bytes (be16 bytes 18)) _ (word_stands 18)
        (written_the_same bytes 20 (track_bytes (tracks_in bytes))
        (λ i less. bytes_back bytes low 20 64 i (omega (arith, length_tracks (tracks_in bytes), length_words bytes 20 64))))))))))))

  -- So an initialized record is there with all its bytes, whether it was stored or stood there.
  pub left_stored : (u : UnitRecord) → initialized u ≡ true → record_left bytes u ≡ written bytes 0 (record_bytes u)
  left_stored u init =
      by_cases (same_with_table? (record_in bytes) u)
      (λ same.
      left_as_it_came bytes u same ∙
      sym (stands (ap (λ (v : UnitRecord). initialized v) same ∙ init)) ∙ ap (λ (v : UnitRecord). written bytes 0 (record_bytes v)) same)
      (left_anew bytes u)

-- ---- left twice

-- What is stored over as many bytes is gone.
written_over : (l xs ys : List ℕ) → length xs ≡ length ys → length ys ≤ length l → written (written l 0 xs) 0 ys ≡ written l 0 ys
unfolding written
written_over l xs ys same fits =
    let long : length (written l 0 xs) ≡ length l = length-sets l 0 xs in
    at_the_head (written l 0 xs) ys (omega arith) ∙
    ap (λ (r : List ℕ). ys ++ r)
    (ext_get_or 0 (drop (length ys) (written l 0 xs)) (drop (length ys) l) (simp length-drop (omega arith))
    (λ i less.
    get_or-drop (length ys) (written l 0 xs) i 0 ∙ past_written l 0 xs (length ys + i) (omega arith) ∙ sym (get_or-drop (length ys) l i 0)))
    ∙ sym (at_the_head l ys fits)

module _ (bytes : List ℕ) (u v : UnitRecord) (fits : 276 ≤ length bytes) (u-long : length (table u) ≡ 64) (v-long : length (table v) ≡ 64) (narrow : Narrow u) where
  -- A record is left, and then the same again, or an initialized one: as if the first had not been.
  pub left_again :
      ((i : ℕ) → get_or bytes i 0 < 256) → (u ≡ v) ⊎ ((initialized v ≡ true) × ((i : ℕ) → get_or (record_left bytes u) i 0 < 256)) →
      record_left (record_left bytes u) v ≡ record_left bytes v
  left_again low (inl same) =
      let reads : record_in (record_left bytes u) ≡ v = left_reads_back u narrow u-long bytes fits ∙ same in
      left_as_it_came (record_left bytes u) v reads ∙ ap (record_left bytes) same
  left_again low (inr (init, low-then)) =
      left_stored (record_left bytes u) low-then v init ∙
      by_cases (same_with_table? (record_in bytes) u)
      (λ same. ap (λ (l : List ℕ). written l 0 (record_bytes v)) (left_as_it_came bytes u same))
      (λ other.
      ap (λ (l : List ℕ). written l 0 (record_bytes v)) (left_anew bytes u other) ∙
      written_over bytes (record_bytes u) (record_bytes v) (record_length_lem u u-long ∙ sym (record_length_lem v v-long)) (omega (arith, record_length_lem v v-long)))
      ∙ sym (left_stored bytes low v init)

-- ---- numbers that fit their bytes

-- A record that is read from bytes is narrow enough for them,
pub read_narrow : (bytes : List ℕ) → ((i : ℕ) → get_or bytes i 0 < 256) → Narrow (record_in bytes)
read_narrow bytes low =
    record {
      few_C = word_below 2 bytes 4 low;
      few_S = word_below 2 bytes 6 low;
      few_B = word_below 2 bytes 8 low;
      low_cylinder = word_below 2 bytes 14 low;
      few_pairs = word_below 2 bytes 18 low;
      low_tracks = λ i.
          by_cases (dec_lt i 64) (λ less. rw (word_at bytes 20 64 i less) (word_below 4 bytes (20 + 4 * i) low))
          (λ past. rw (get_or-eq_default (tracks_in bytes) 0 {n = i} (omega (arith, length_words bytes 20 64))) (omega arith));
    }

-- and so is one that counts as initialized, where its tracks are.
pub counts_narrow : (u : UnitRecord) → CountsAsInitialized u → ((i : ℕ) → get_or (table u) i 0 < 2 ^ 32) → Narrow u
counts_narrow u counts low =
    let within = counts.within in
    record {
      few_C = omega (arith, within.sizes.cylinders);
      few_S = omega (arith, within.sizes.sectors);
      few_B = omega (arith, within.sizes.bytes);
      low_cylinder = omega (arith, within.sizes.cylinders, counts.cylinder);
      few_pairs = omega (arith, counts.good.room);
      low_tracks = low;
    }
