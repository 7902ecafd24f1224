-- The laws of words and copies that the crates above cite, each at any width or length.
-- A word is taken apart byte by byte; a copy is read byte by byte, inside the run and beside it.
use Prim.Native.Nat.{ℕ, zero, suc, ◌+◌, ◌*◌, ◌/◌, ◌%◌, ◌^◌, ◌≤◌, ◌<◌}
use mathlib.Core.Path.{◌≡◌, refl, ◌∙◌}
use mathlib.Core.List.{List}
use native.Mathlib.Nat.{add-zero, add-suc, add_assoc, pow-suc}
use native.Mathlib.Omega.{arith}
use native.Mathlib.Numerals.{add-one}
use lib.ListN.{length, get_or, drop, set, length-drop, length-set}
use lib.Seq.{get_or-drop, get_or-set_same, get_or-set_other, paste-suc}
use Rattle.wire.specs.Copy.{copied}
use Rattle.wire.specs.Words.{word}
use Rattle.wire.specs.Storing.{stored}

-- A word of j + k bytes is the word of the first j, k bytes higher, and the word of the other k.
pub word_joins :
    (j k : ℕ) (bytes : List ℕ) (at : ℕ) →
    word (j + k) bytes at ≡ word j bytes at * 256 ^ k + word k bytes (at + j)
unfolding word
word_joins j zero bytes at = rw add-zero (omega arith)
word_joins j (suc k) bytes at = rw (add-suc, word_joins j k bytes at, add_assoc at j k, pow-suc) (omega arith)

-- A word of k bytes is below 256 ^ k.
pub word_below : (k : ℕ) (bytes : List ℕ) (at : ℕ) → ((i : ℕ) → get_or bytes i 0 < 256) → word k bytes at < 256 ^ k
unfolding word
word_below zero bytes at byte = omega arith
word_below (suc k) bytes at byte = omega (arith, word_below k bytes at byte, byte (at + k))

-- A store keeps the length.
pub length_stored : (k : ℕ) (bytes : List ℕ) (at v : ℕ) → length (stored k bytes at v) ≡ length bytes
unfolding stored
length_stored zero bytes at v = refl
length_stored (suc k) bytes at v = length-set (stored k bytes at (v / 256)) (at + k) (v % 256) ∙ length_stored k bytes at (v / 256)

-- A byte beside the stored word stays.
pub get_d_stored :
    (k : ℕ) (bytes : List ℕ) (at v i : ℕ) → (at ≤ i → i < at + k → ⊥) → get_or (stored k bytes at v) i 0 ≡ get_or bytes i 0
unfolding stored
get_d_stored zero bytes at v i beside = refl
get_d_stored (suc k) bytes at v i beside =
    get_or-set_other (stored k bytes at (v / 256)) (at + k) i (v % 256) 0 (λ e. beside (omega arith) (omega arith))
    ∙ get_d_stored k bytes at (v / 256) i (λ from below. beside from (omega arith))

-- A word whose bytes are the same in two lists is the same.
pub word_same :
    (k : ℕ) (a b : List ℕ) (at to : ℕ) → ((i : ℕ) → i < k → get_or a (at + i) 0 ≡ get_or b (to + i) 0) → word k a at ≡ word k b to
unfolding word
word_same zero a b at to same = refl
word_same (suc k) a b at to same =
    rw (word_same k a b at to (λ i h. same i (omega arith)), same k (omega arith))

-- What was stored is read back.
pub word_stored :
    (k : ℕ) (bytes : List ℕ) (at v : ℕ) → at + k ≤ length bytes → v < 256 ^ k → word k (stored k bytes at v) at ≡ v
unfolding word stored
word_stored zero bytes at v fits small = omega arith
word_stored (suc k) bytes at v fits small =
    let rest : List ℕ = stored k bytes at (v / 256) in
    let high : word k (set rest (at + k) (v % 256)) at ≡ v / 256 =
    word_same k (set rest (at + k) (v % 256)) rest at at
    (λ i h. get_or-set_other rest (at + k) (at + i) (v % 256) 0 (λ e. omega arith))
    ∙ word_stored k bytes at (v / 256) (omega arith) (omega (arith, pow-suc 256 k)) in
    let low : get_or (set rest (at + k) (v % 256)) (at + k) 0 ≡ v % 256 =
    get_or-set_same rest (at + k) (v % 256) 0 (omega (arith, length_stored k bytes at (v / 256))) in
    rw (high, low) (omega arith)

-- One more byte of a copy.
pub copied_more :
    (bytes into : List ℕ) (from to i : ℕ) →
    from + i < length bytes →
    to + i < length into →
    set (copied bytes from into to i) (to + i) (get_or bytes (from + i) 0) ≡ copied bytes from into to (i + 1)
copied_more bytes into from to i h k =
    rw (← get_or-drop from bytes i 0, add-one)
    (paste-suc into to (drop from bytes) i 0 k (simp length-drop (omega arith)))
