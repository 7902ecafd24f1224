-- What stands in a text once bytes are put into it one part after the other, and how long a number is in decimal.
-- Stores in a row are one store; a decimal number goes by its last digit, and the bound on its digits is never met.
use Prim.Native.Nat.{ℕ, zero, suc, ◌+◌, ◌-◌, ◌*◌, ◌/◌, ◌%◌, ◌^◌, ◌≤◌, ◌<◌}
use mathlib.Core.List.{List, [], ◌∷◌, ◌++◌, append_assoc}
use mathlib.Core.Logic.{by_cases, if_neg, if_pos}
use mathlib.Core.Path.{◌≡◌, refl, sym, ap, ◌∙◌}
use native.Mathlib.Decide.{dec_lt}
use native.Mathlib.Nat.{pow-suc}
use native.Mathlib.Omega.{arith}
use lib.ListN.{length, set, length-append}
use Rattle.block.proofs.Entries.{written_row}
use Rattle.wire.specs.Words.{be32}
use Rattle.transcript.specs.Steps.{Appended}
use Rattle.transcript.specs.Text.{block_line, block_lines, decimal, digit, digits_within, letters, letters_from, refusal_line, run_line, signed}
use Rattle.wire.specs.Storing.{written}

-- ---- parts in a row

-- Nothing is put by doing nothing, and two parts in a row are one.
pub nothing_put : (text : List ℕ) (at : ℕ) → Appended text at [] text at
unfolding written
nothing_put text at = record { stored = refl; after = omega arith }

pub put_then :
    {text text' text'' : List ℕ} {at next end : ℕ} {xs ys : List ℕ} →
    Appended text at xs text' next → Appended text' next ys text'' end → Appended text at (xs ++ ys) text'' end
put_then {text} {text'} {text''} {at} {next} {end} {xs} {ys} a b =
    record {
      stored = b.stored ∙ rw (a.stored, a.after) (written_row text at xs ys);
      after = omega (arith, a.after, b.after, length-append xs ys);
    }

-- A second part that begins with a word of its own.
pub put_word :
    {text text' text'' : List ℕ} {at next end : ℕ} {xs : List ℕ} (word ys : List ℕ) →
    Appended text at xs text' next → Appended text' next (word ++ ys) text'' end → Appended text at (xs ++ word ++ ys) text'' end
put_word {xs = xs} word ys a b = rw append_assoc (put_then a b)

-- One byte is a store.
pub byte_put : (text : List ℕ) (at byte : ℕ) → Appended text at (byte ∷ []) (set text at byte) (at + 1)
unfolding written
byte_put text at byte = record { stored = refl; after = refl }

-- ---- decimal numbers

digits_few : (k n : ℕ) → n < 10 → digits_within (suc k) n ≡ digit n ∷ []
unfolding digits_within
digits_few k n few = if_pos (dec_lt n 10) few _ _

digits_more : (k n : ℕ) → 10 ≤ n → digits_within (suc k) n ≡ digits_within k (n / 10) ++ (digit (n % 10) ∷ [])
unfolding digits_within
digits_more k n more = if_neg (dec_lt n 10) (λ few. omega arith) _ _

-- Any bound above the number gives its digits.
digits_are : (j k n : ℕ) → n < j → n < k → digits_within j n ≡ digits_within k n
digits_are (suc j) (suc k) n below-j below-k =
    by_cases (dec_lt n 10) (λ few. digits_few j n few ∙ sym (digits_few k n few))
    (λ more.
    let least : 10 ≤ n = omega arith in
    rw (digits_more j n least, digits_more k n least, digits_are j k (n / 10) (omega arith) (omega arith)))
digits_are zero k n below-j below-k = absurd (omega arith)
digits_are (suc j) zero n below-j below-k = absurd (omega arith)

pub decimal_few : (n : ℕ) → n < 10 → decimal n ≡ digit (n % 10) ∷ []
unfolding decimal
decimal_few n few =
    let last : n % 10 ≡ n = omega arith in
    rw last (digits_are (n + 1) (suc n) n (omega arith) (omega arith) ∙ digits_few n n few)

pub decimal_more : (n : ℕ) → 10 ≤ n → decimal n ≡ decimal (n / 10) ++ (digit (n % 10) ∷ [])
unfolding decimal
decimal_more n more =
    digits_are (n + 1) (suc n) n (omega arith) (omega arith) ∙ digits_more n n more ∙
    rw (digits_are n (n / 10 + 1) (n / 10) (omega arith) (omega arith))

-- So it has one digit, or one more than without its last.
pub few_length : (n : ℕ) → n < 10 → length (decimal n) ≡ 1
few_length n few = ap length (decimal_few n few)

pub more_length : (n : ℕ) → 10 ≤ n → length (decimal n) ≡ length (decimal (n / 10)) + 1
more_length n more = ap length (decimal_more n more) ∙ length-append (decimal (n / 10)) (digit (n % 10) ∷ [])

-- A number has no more digits than the power of ten that it is below.
pub decimal_length : (k n : ℕ) → n < 10 ^ suc k → length (decimal n) ≤ suc k
decimal_length zero n below = omega (arith, few_length n (omega arith))
decimal_length (suc k) n below =
    by_cases (dec_lt n 10) (λ few. omega (arith, few_length n few))
    (λ more. omega (arith, more_length n (omega arith), decimal_length k (n / 10) (omega (arith, pow-suc 10 (suc k)))))

pub decimal_short : (n : ℕ) → n < 2 ^ 64 → length (decimal n) ≤ 20
decimal_short n below = decimal_length 19 n (omega arith)

-- ---- numbers in two's complement

pub signed_plain : (n : ℕ) → n < 2 ^ 31 → signed n ≡ decimal n
unfolding signed
signed_plain n plain = if_pos (dec_lt n (2 ^ 31)) plain _ _

pub signed_minus : (n : ℕ) → 2 ^ 31 ≤ n → signed n ≡ letters "-" ++ decimal (2 ^ 32 - n)
unfolding signed
signed_minus n minus = if_neg (dec_lt n (2 ^ 31)) (λ plain. omega arith) _ _

pub signed_short : (n : ℕ) → length (signed n) ≤ 21
unfolding letters letters_from
signed_short n =
    by_cases (dec_lt n (2 ^ 31)) (λ plain. rw (signed_plain n plain) (omega (arith, decimal_short n (omega arith))))
    (λ minus. rw (signed_minus n (omega arith)) (omega (arith, decimal_short (2 ^ 32 - n) (omega arith))))

-- ---- lines

pub block_line_short : (events : List ℕ) (k : ℕ) → k < 2 ^ 32 → length (block_line events k) ≤ 96
unfolding letters letters_from
block_line_short events k below =
    simp length-append
    (omega (arith, decimal_short k (omega arith), signed_short (be32 events (8 * (k - 1) + 4))))

-- The lines of no block, and of one more.
pub no_lines : (events : List ℕ) → block_lines events 0 ≡ []
unfolding block_lines
no_lines events = refl

pub one_line_more :
    {text text' text'' : List ℕ} {at next end : ℕ} (events : List ℕ) (k : ℕ) → 1 ≤ k →
    Appended text at (block_lines events (k - 1)) text' next → Appended text' next (block_line events k) text'' end →
    Appended text at (block_lines events k) text'' end
unfolding block_lines
one_line_more events zero least a b = absurd (omega arith)
one_line_more {at = at} events (suc k) least a b =
    let before : suc k - 1 ≡ k = omega arith in
    put_then (rw before at a) b

pub block_lines_short : (events : List ℕ) (k : ℕ) → k < 2 ^ 32 → length (block_lines events k) ≤ 96 * k
unfolding block_lines
block_lines_short events zero below = omega arith
block_lines_short events (suc k) below =
    omega (
      arith,
      length-append (block_lines events k) (block_line events (suc k)),
      block_lines_short events k (omega arith),
      block_line_short events (suc k) below,
    )

pub run_line_short :
    (answer blocks sectors : ℕ) → answer < 2 ^ 64 → blocks < 2 ^ 64 → sectors < 2 ^ 64 → length (run_line answer blocks sectors) ≤ 96
unfolding letters letters_from
run_line_short answer blocks sectors a b s =
    simp length-append (omega (arith, decimal_short answer a, decimal_short blocks b, decimal_short sectors s))

pub refusal_line_short : (at : ℕ) → at < 2 ^ 64 → length (refusal_line at) ≤ 96
unfolding letters letters_from
refusal_line_short at below = simp length-append (omega (arith, decimal_short at below))
