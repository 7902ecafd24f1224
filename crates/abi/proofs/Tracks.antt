-- The tracks of a table, read word by word and stored four bytes each, and what stands in a table or in bytes once they are.
-- A word more is one element more at the end of the list, and stores in a row are one store of the lists in a row.
use Prim.Native.Nat.{ℕ, zero, suc, ◌+◌, ◌*◌, ◌^◌, ◌≤◌, ◌<◌}
use mathlib.Core.List.{List, [], ◌∷◌, ◌++◌}
use mathlib.Core.Path.{◌≡◌, refl, sym, ap, ◌∙◌}
use native.Mathlib.Nat.{add_assoc, add-zero, zero-add}
use native.Mathlib.Omega.{arith}
use lib.ListN.{drop, get_or, length, set, take}
use lib.Seq.{ext_get_or, get_or-append-add, get_or-set_other, get_or-take, length-take-le, set-get_or, sets-eq, take-suc}
use Rattle.wire.specs.Words.{be32, four_bytes, word}
use Rattle.wire.proofs.Laws.{word_same}
use Rattle.block.proofs.Entries.{with32_is, written_row}
use Rattle.abi.specs.Layouts.{track_bytes, words_from}
use Rattle.wire.specs.Storing.{with32, written}

-- ---- what stands once a list is stored

-- Stored from the first place on, a list stands at the head.
pub at_the_head : (l xs : List ℕ) → length xs ≤ length l → written l 0 xs ≡ xs ++ drop (length xs) l
unfolding written
at_the_head l xs fits = sets-eq xs l 0 (omega arith) ∙ rw zero-add

-- What lies past it stays.
pub past_written : (l : List ℕ) (at : ℕ) (xs : List ℕ) (i : ℕ) → at + length xs ≤ i → get_or (written l at xs) i 0 ≡ get_or l i 0
unfolding written
past_written l at [] i past = refl
past_written l at (x ∷ xs) i past =
    past_written (set l at x) (suc at) xs i (omega arith) ∙ get_or-set_other l at i x 0 (λ same. omega arith)

-- ---- words

-- So many are read, each from its own four bytes, and one more comes after them.
pub length_words : (bytes : List ℕ) (at n : ℕ) → length (words_from bytes at n) ≡ n
unfolding words_from
length_words bytes at zero = refl
length_words bytes at (suc n) = ap suc (length_words bytes (at + 4) n)

pub word_at : (bytes : List ℕ) (at n i : ℕ) → i < n → get_or (words_from bytes at n) i 0 ≡ be32 bytes (at + 4 * i)
unfolding words_from
word_at bytes at zero i less = absurd (omega arith)
word_at bytes at (suc n) zero less = rw add-zero
word_at bytes at (suc n) (suc i) less =
    let next : at + 4 + 4 * i ≡ at + 4 * suc i = omega arith in
    word_at bytes (at + 4) n i (omega arith) ∙ rw next

pub words_more : (bytes : List ℕ) (at n : ℕ) → words_from bytes at (suc n) ≡ words_from bytes at n ++ (be32 bytes (at + 4 * n) ∷ [])
unfolding words_from
words_more bytes at zero = rw add-zero
words_more bytes at (suc n) =
    let next : at + 4 + 4 * n ≡ at + 4 * suc n = omega arith in
    ap (λ (l : List ℕ). be32 bytes at ∷ l) (words_more bytes (at + 4) n ∙ rw next)

-- The words past some bytes are those of the rest.
pub words_past : (xs ys : List ℕ) (at n : ℕ) → words_from (xs ++ ys) (length xs + at) n ≡ words_from ys at n
unfolding words_from
words_past xs ys at zero = refl
words_past xs ys at (suc n) =
    let first : be32 (xs ++ ys) (length xs + at) ≡ be32 ys at =
    word_same 4 (xs ++ ys) ys (length xs + at) at (λ i less. rw add_assoc (get_or-append-add xs ys (at + i) 0)) in
    rw (first, add_assoc, words_past xs ys (at + 4) n)

-- ---- a table's tracks

-- The words in some bytes are the first tracks of a table where each of them is.
module _ (bytes ts : List ℕ) (m : ℕ) where
  pub each_is_there :
      m ≤ length ts → ((k : ℕ) → k < m → be32 bytes (20 + 4 * k) ≡ get_or ts k 0) → words_from bytes 20 m ≡ take m ts
  each_is_there room each =
      let many = length_words bytes 20 m in
      ext_get_or 0 (words_from bytes 20 m) (take m ts) (many ∙ sym (length-take-le m ts room))
      (λ k less. word_at bytes 20 m k (omega arith) ∙ each k (omega arith) ∙ sym (get_or-take m ts k 0 (omega arith)))

  pub there_is_each : words_from bytes 20 m ≡ take m ts → (k : ℕ) → k < m → be32 bytes (20 + 4 * k) ≡ get_or ts k 0
  there_is_each there k less =
      sym (word_at bytes 20 m k less) ∙ ap (λ (l : List ℕ). get_or l k 0) there ∙ get_or-take m ts k 0 less

-- One track more is read into a table.
pub one_more_read :
    (table bytes : List ℕ) (i : ℕ) →
    set (written table 0 (words_from bytes 20 i)) i (be32 bytes (20 + 4 * i)) ≡ written table 0 (words_from bytes 20 (suc i))
unfolding written
one_more_read table bytes i =
    let row = written_row table 0 (words_from bytes 20 i) (be32 bytes (20 + 4 * i) ∷ []) in
    rw (words_more bytes 20 i) (rw (zero-add, length_words) at row)

-- What is stored of a table: four bytes for each track, those of more tracks after those of the first.
pub length_tracks : (ts : List ℕ) → length (track_bytes ts) ≡ 4 * length ts
unfolding track_bytes
length_tracks [] = refl
length_tracks (t ∷ ts) = omega (arith, length_tracks ts)

pub tracks_row : (ts us : List ℕ) → track_bytes (ts ++ us) ≡ track_bytes ts ++ track_bytes us
unfolding track_bytes
tracks_row [] us = refl
tracks_row (t ∷ ts) us = rw (tracks_row ts us)

word_in_a_row : (bytes : List ℕ) (at v : ℕ) → with32 bytes at v ≡ written bytes at (four_bytes v)
unfolding written
word_in_a_row bytes at v = with32_is bytes at v

-- One track more is stored.
pub one_more_stored :
    (bytes table : List ℕ) (i : ℕ) → i < length table →
    with32 (written bytes 20 (track_bytes (take i table))) (20 + 4 * i) (get_or table i 0) ≡ written bytes 20 (track_bytes (take (suc i) table))
unfolding track_bytes
one_more_stored bytes table i less =
    let before = track_bytes (take i table) in
    let place : 20 + length before ≡ 20 + 4 * i = omega (arith, length_tracks (take i table), length-take-le i table (omega arith)) in
    word_in_a_row (written bytes 20 before) (20 + 4 * i) (get_or table i 0) ∙
    rw place at (written_row bytes 20 before (four_bytes (get_or table i 0))) ∙
    rw (take-suc table i 0, tracks_row)

-- Tracks that were stored are read back.
pub tracks_back :
    (ts rest : List ℕ) → ((i : ℕ) → i < length ts → get_or ts i 0 < 2 ^ 32) → words_from (track_bytes ts ++ rest) 0 (length ts) ≡ ts
unfolding words_from track_bytes word
tracks_back [] rest low = refl
tracks_back (t ∷ ts) rest low =
    let first : be32 (four_bytes t ++ (track_bytes ts ++ rest)) 0 ≡ t = omega (arith, low 0 (omega arith)) in
    let others = words_past (four_bytes t) (track_bytes ts ++ rest) 0 (length ts) ∙ tracks_back ts rest (λ i less. low (suc i) (omega arith)) in
    cc

-- ---- bytes that stand there already

-- A list stored where it stands changes nothing.
pub written_the_same : (l : List ℕ) (at : ℕ) (xs : List ℕ) → ((i : ℕ) → i < length xs → get_or xs i 0 ≡ get_or l (at + i) 0) → written l at xs ≡ l
unfolding written
written_the_same l at [] same = refl
written_the_same l at (x ∷ xs) same =
    let first : set l at x ≡ l = ap (set l at) (same 0 (omega arith) ∙ ap (λ (j : ℕ). get_or l j 0) (add-zero at)) ∙ set-get_or l at 0 in
    ap (λ (k : List ℕ). written k (suc at) xs) first ∙
    written_the_same l (suc at) xs
    (λ i less. same (suc i) (omega arith) ∙ ap (λ (j : ℕ). get_or l j 0) (omega arith))

-- Words that were read are stored as the bytes that they were read from.
pub bytes_back :
    (bytes : List ℕ) → ((i : ℕ) → get_or bytes i 0 < 256) → (at n i : ℕ) → i < 4 * n →
    get_or (track_bytes (words_from bytes at n)) i 0 ≡ get_or bytes (at + i) 0
unfolding words_from track_bytes word
bytes_back bytes low at zero i less = absurd (omega arith)
bytes_back bytes low at (suc n) zero less = omega (arith, low (at + 0), low (at + 1), low (at + 2), low (at + 3))
bytes_back bytes low at (suc n) (suc zero) less = omega (arith, low (at + 0), low (at + 1), low (at + 2), low (at + 3))
bytes_back bytes low at (suc n) (suc (suc zero)) less = omega (arith, low (at + 0), low (at + 1), low (at + 2), low (at + 3))
bytes_back bytes low at (suc n) (suc (suc (suc zero))) less = omega (arith, low (at + 0), low (at + 1), low (at + 2), low (at + 3))
bytes_back bytes low at (suc n) (suc (suc (suc (suc i)))) less =
    let next : at + 4 + i ≡ at + suc (suc (suc (suc i))) = omega arith in
    bytes_back bytes low (at + 4) n i (omega arith) ∙ ap (λ (j : ℕ). get_or bytes j 0) next
