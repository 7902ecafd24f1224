-- A record's bytes after a run, by whether it is the record that stands in them; and what is stored of it where some of its tracks were not read.
-- Both are cases of the definition; and to store tracks as they stand in the bytes stores nothing.
use Prim.Native.Nat.{ℕ, ◌+◌, ◌-◌, ◌*◌, ◌<◌}
use mathlib.Core.List.{List, ◌++◌, append_assoc}
use mathlib.Core.Logic.{if_neg, if_pos}
use mathlib.Core.Path.{◌≡◌, sym, ap, ◌∙◌}
use native.Mathlib.Omega.{arith}
use lib.ListN.{drop, get_or, length, length-append, length-drop, take, take-append-drop}
use lib.Seq.{ext_get_or, get_or-drop, get_or-take, length-take-le, take_at}
use Rattle.unit.specs.Standing.{UnitRecord, by_value, pairs, table, unit_of}
use Rattle.unit.proofs.Decided.{same_with_table?}
use Rattle.block.proofs.Entries.{written_row}
use Rattle.abi.specs.Calls.{record_left}
use Rattle.abi.specs.Layouts.{head_bytes, record_bytes, record_in, track_bytes, tracks_in, words_from}
use Rattle.abi.specs.Unread.{filled, filled_in, known}
use Rattle.abi.proofs.Tracks.{bytes_back, length_tracks, length_words, past_written, tracks_row, word_at, written_the_same}
use Rattle.abi.proofs.Unread.{known_in_room}
use Rattle.wire.specs.Storing.{written}
use Rattle.wire.specs.Words.{be32}

-- A record that no block changed comes back byte for byte.
pub left_as_it_came : (bytes : List ℕ) (u : UnitRecord) → record_in bytes ≡ u → record_left bytes u ≡ bytes
unfolding record_left
left_as_it_came bytes u stands = if_pos (same_with_table? (record_in bytes) u) stands _ _

pub left_anew : (bytes : List ℕ) (u : UnitRecord) → (record_in bytes ≡ u → ⊥) → record_left bytes u ≡ written bytes 0 (record_bytes u)
unfolding record_left
left_anew bytes u other = if_neg (same_with_table? (record_in bytes) u) other _ _

-- ---- where some tracks were not read

module _ (bytes : List ℕ) (u : UnitRecord) (long : length (table u) ≡ 64) where
  abbrev k : ℕ
  k = known (pairs u) (table u)

  abbrev stored : List ℕ
  stored = head_bytes u ++ track_bytes (take k (table u))

  stored_long : length stored ≡ 20 + 4 * k
  stored_long =
      omega (arith, length-append (head_bytes u) (track_bytes (take k (table u))), length_tracks (take k (table u)), length-take-le k (table u) (omega (arith, (known_in_room (pairs u) (table u)).1)))

  -- The tracks that are known and those past them, as words of the bytes.
  first_words : take k (tracks_in bytes) ≡ words_from bytes 20 k
  first_words =
      let few = (known_in_room (pairs u) (table u)).1 in
      let all = length-take-le k (tracks_in bytes) (omega (arith, length_words bytes 20 64)) in
      ext_get_or 0 (take k (tracks_in bytes)) (words_from bytes 20 k) (all ∙ sym (length_words bytes 20 k))
      (λ i less.
      let below : i < k = omega arith in
      get_or-take k (tracks_in bytes) i 0 below ∙ word_at bytes 20 64 i (omega arith) ∙ sym (word_at bytes 20 k i below))

  rest_is : drop k (tracks_in bytes) ≡ words_from bytes (20 + 4 * k) (64 - k)
  rest_is =
      ext_get_or 0 (drop k (tracks_in bytes)) (words_from bytes (20 + 4 * k) (64 - k))
      (length-drop k (tracks_in bytes) ∙ ap (λ (n : ℕ). n - k) (length_words bytes 20 64) ∙ sym (length_words bytes (20 + 4 * k) (64 - k)))
      (λ i less.
      let below : k + i < 64 = omega (arith, length-drop k (tracks_in bytes), length_words bytes 20 64) in
      get_or-drop k (tracks_in bytes) i 0 ∙ word_at bytes 20 64 (k + i) below
      ∙ sym (word_at bytes (20 + 4 * k) (64 - k) i (omega arith) ∙ ap (be32 bytes) (omega arith)))

  module _ (same : by_value u ≡ by_value (record_in bytes)) where
    -- Where the tracks that are known stand in the bytes the record does, and they do where it does.
    pub known_stands : words_from bytes 20 k ≡ take k (table u) → record_in bytes ≡ filled_in bytes u
    unfolding filled
    known_stands words =
        let whole : tracks_in bytes ≡ take k (table u) ++ drop k (tracks_in bytes) =
        sym (take-append-drop k (tracks_in bytes)) ∙ ap (λ (l : List ℕ). l ++ drop k (tracks_in bytes)) (first_words ∙ words) in
        λ i. unit_of (sym same i) (whole i)

    pub stands_known : record_in bytes ≡ filled_in bytes u → words_from bytes 20 k ≡ take k (table u)
    unfolding filled
    stands_known stands =
        sym first_words ∙ ap (λ (v : UnitRecord). take k (table v)) stands ∙
        take_at (take k (table u)) (drop k (tracks_in bytes)) k (length-take-le k (table u) (omega (arith, (known_in_room (pairs u) (table u)).1)))

  -- To store those that are known is to store the record.
  pub known_stored : ((i : ℕ) → get_or bytes i 0 < 256) → written bytes 0 stored ≡ written bytes 0 (record_bytes (filled_in bytes u))
  unfolding filled
  known_stored low =
      let rest = track_bytes (drop k (tracks_in bytes)) in
      let all : record_bytes (filled_in bytes u) ≡ stored ++ rest =
      ap (λ (l : List ℕ). head_bytes u ++ l) (tracks_row (take k (table u)) (drop k (tracks_in bytes))) ∙ sym (append_assoc (head_bytes u) (track_bytes (take k (table u))) rest) in
      let same : (i : ℕ) → i < length rest → get_or rest i 0 ≡ get_or (written bytes 0 stored) (0 + length stored + i) 0 = λ i less.
      let few : i < 4 * (64 - k) = omega (arith, length_tracks (drop k (tracks_in bytes)), length-drop k (tracks_in bytes), length_words bytes 20 64) in
      ap (λ (l : List ℕ). get_or (track_bytes l) i 0) rest_is ∙ bytes_back bytes low (20 + 4 * k) (64 - k) i few
      ∙ ap (λ (j : ℕ). get_or bytes j 0) (omega (arith, stored_long)) ∙ sym (past_written bytes 0 stored (0 + length stored + i) (omega arith)) in
      sym (ap (written bytes 0) all ∙ sym (written_row bytes 0 stored rest) ∙ written_the_same (written bytes 0 stored) (0 + length stored) rest same)
