-- An entry that is stored byte by byte is the buffer with the entry's 8 bytes stored in a row.
-- A word of 32 bits is four stores in a row, and these follow the four before them.
use Prim.Native.Nat.{ℕ, suc, ◌+◌, ◌≤◌}
use mathlib.Core.List.{List, [], ◌∷◌, ◌++◌}
use mathlib.Core.Path.{◌≡◌, sym, ◌∙◌}
use native.Mathlib.Nat.{add-zero}
use native.Mathlib.Numerals.{add-one}
use native.Mathlib.Omega.{arith}
use lib.IntN.{ℤ}
use lib.ListN.{length, set}
use lib.Seq.{sets, sets-eq, take-length}
use Rattle.wire.specs.Copy.{copied}
use Rattle.answers.specs.Numbers.{BlockAnswer, status_of}
use Rattle.iopb.specs.declared.Block.{Block}
use Rattle.iopb.specs.Errors.{error_byte}
use Rattle.wire.specs.Words.{four_bytes}
use Rattle.block.specs.Events.{entry, level_of, twos_complement, vector_of}
use Rattle.wire.specs.Storing.{stored, with32, written}

two : (n : ℕ) → n + 2 ≡ suc (suc n)
two n = omega arith

three : (n : ℕ) → n + 3 ≡ suc (suc (suc n))
three n = omega arith

four : (n : ℕ) → n + 4 ≡ suc (suc (suc (suc n)))
four n = omega arith

pub with32_is : (bytes : List ℕ) (at v : ℕ) → with32 bytes at v ≡ sets bytes at (four_bytes v)
unfolding stored
with32_is bytes at v = simp (add-zero, add-one, two, three)

in_a_row :
    (bytes : List ℕ) (at status error level vector travel : ℕ) →
    with32 (set (set (set (set bytes at status) (at + 1) error) (at + 2) level) (at + 3) vector) (at + 4) travel
    ≡ sets bytes at (status ∷ error ∷ level ∷ vector ∷ four_bytes travel)
in_a_row bytes at status error level vector travel = simp (with32_is, add-one, two, three, four)

-- What stands in the buffer once the code has stored what its functions answered.
pub entry_stored :
    (bytes : List ℕ) (at : ℕ) (b : Block) (answer : BlockAnswer) (travel : ℤ)
    {after : List ℕ} {status error level vector bits : ℕ} →
    status ≡ status_of answer →
    error ≡ error_byte answer →
    level ≡ level_of b →
    vector ≡ vector_of b answer →
    bits ≡ twos_complement travel →
    after ≡ with32 (set (set (set (set bytes at status) (at + 1) error) (at + 2) level) (at + 3) vector) (at + 4) bits →
    after ≡ written bytes at (entry b answer travel)
unfolding written
entry_stored bytes at b answer travel s e l v t is = is ∙ in_a_row bytes at _ _ _ _ _ ∙ rw (s, e, l, v, t)

-- Two lists stored one after the other are one.
pub written_row : (bytes : List ℕ) (at : ℕ) (xs ys : List ℕ) → written (written bytes at xs) (at + length xs) ys ≡ written bytes at (xs ++ ys)
unfolding written
written_row bytes at [] ys = rw add-zero
written_row bytes at (x ∷ xs) ys =
    let next : at + suc (length xs) ≡ suc at + length xs = omega arith in
    rw next (written_row (set bytes at x) (suc at) xs ys)

-- Two bytes stored one after the other.
pub two_written : (bytes : List ℕ) (at a b : ℕ) → set (set bytes (at + 2) a) (at + 3) b ≡ written bytes (at + 2) (a ∷ b ∷ [])
unfolding written
two_written bytes at a b = simp (two, three)

-- Three bytes stored one after the other.
pub three_written :
    (bytes : List ℕ) (at a b c : ℕ) → set (set (set bytes (at + 7) a) (at + 8) b) (at + 9) c ≡ written bytes (at + 7) (a ∷ b ∷ c ∷ [])
unfolding written
three_written bytes at a b c =
    let eight : at + 8 ≡ suc (at + 7) = omega arith in
    let nine : at + 9 ≡ suc (suc (at + 7)) = omega arith in
    rw (eight, nine)

-- A copy of a whole list is its numbers stored one after the other.
pub copy_written :
    (ns bytes : List ℕ) (at : ℕ) → at + length ns ≤ length bytes → copied ns 0 bytes at (length ns) ≡ written bytes at ns
unfolding written
copy_written ns bytes at fits = rw (take-length ns) (sym (sets-eq ns bytes at fits))
