-- How many bytes a field wants, and that these are as good as all that is left of the input.
-- An opening and a field look at the first 3 bytes, at as many after them as these say, and at how many there are.
use Prim.Native.Nat.{ℕ, ◌+◌, ◌≤◌}
use mathlib.Core.List.{List}
use mathlib.Core.Logic.{by_cases, if_neg, if_pos}
use mathlib.Core.Path.{◌≡◌, ap, ◌∙◌}
use native.Mathlib.Omega.{arith}
use lib.ListN.{drop, length, take, length-take}
use lib.Seq.{drop_at, get_or-take, length-take-le, take-add, take-take}
use Rattle.wire.proofs.Laws.{word_same}
use Rattle.transcript.specs.Rows.{read_for}
use Rattle.transcript.specs.Session.{Field, Opening, bytes_in, long_of, opening?, tag_of}
use Rattle.transcript.specs.Steps.{wanted}

module _ (bytes : List ℕ) where
  pub wanted_good : Opening bytes → wanted bytes ≡ 3 + long_of bytes
  unfolding wanted
  wanted_good good = if_pos (opening? bytes) good _ _

  pub wanted_bad : (Opening bytes → ⊥) → wanted bytes ≡ 3
  unfolding wanted
  wanted_bad bad = if_neg (opening? bytes) bad _ _

  wanted_least : 3 ≤ wanted bytes
  wanted_least =
      by_cases (opening? bytes) (λ good. omega (arith, wanted_good good)) (λ bad. omega (arith, wanted_bad bad))

-- Some of the bytes, 3 at least.
module _ (n : ℕ) (rest : List ℕ) (three : 3 ≤ n) where
  same_tag : tag_of (take n rest) ≡ tag_of rest
  same_tag = get_or-take n rest 0 0 (omega arith)

  same_long : long_of (take n rest) ≡ long_of rest
  same_long = word_same 2 (take n rest) rest 1 1 (λ i below. get_or-take n rest (1 + i) 0 (omega arith))

  same_opening : 3 ≤ length (take n rest) → Opening rest → Opening (take n rest)
  same_opening long o =
      record {
        there = long;
        least = rw same_tag o.least;
        most = rw same_tag o.most;
        long = rw same_long o.long;
        five = rw (same_tag, same_long) o.five;
      }

  -- What is a field of them is one of all.
  field_of_all : Field (take n rest) → Field rest
  field_of_all f =
      let o = f.good in
      let within : length (take n rest) ≤ length rest = omega (arith, length-take n rest) in
      record {
        good =
            record {
              there = omega (arith, o.there);
              least = rw same_tag at o.least;
              most = rw same_tag at o.most;
              long = rw same_long at o.long;
              five = rw (same_tag, same_long) at o.five;
            };
        whole = omega (arith, f.whole, same_long);
      }

-- What is read for a field that is not there is none either, and something is read where something is left.
module _ (rest : List ℕ) where
  pub read_no_field : (Field rest → ⊥) → Field (read_for rest) → ⊥
  read_no_field none f = none (field_of_all (wanted (take 3 rest)) rest (wanted_least (take 3 rest)) f)

  pub read_some : 1 ≤ length rest → length (read_for rest) ≡ 0 → ⊥
  read_some some none = omega (arith, length-take (wanted (take 3 rest)) rest, wanted_least (take 3 rest))

-- What is read for a field is the field.
module _ (rest : List ℕ) (f : Field rest) where
  read_wanted : wanted (take 3 rest) ≡ 3 + long_of rest
  read_wanted =
      let three = length-take-le 3 rest f.good.there in
      wanted_good (take 3 rest) (same_opening 3 rest (omega arith) (omega arith) f.good) ∙
      ap (λ long. 3 + long) (same_long 3 rest (omega arith))

  -- It is all of the field,
  pub read_length : length (read_for rest) ≡ 3 + long_of rest
  read_length = rw read_wanted (length-take-le (3 + long_of rest) rest f.whole)

  pub read_tag : tag_of (read_for rest) ≡ tag_of rest
  read_tag = same_tag (wanted (take 3 rest)) rest (wanted_least (take 3 rest))

  pub read_long : long_of (read_for rest) ≡ long_of rest
  read_long = same_long (wanted (take 3 rest)) rest (wanted_least (take 3 rest))

  -- so that it is a field with the same bytes.
  pub read_field : Field (read_for rest)
  read_field =
      record {
        good =
            same_opening (wanted (take 3 rest)) rest (wanted_least (take 3 rest)) (omega (arith, read_length)) f.good;
        whole = omega (arith, read_length, read_long);
      }

  pub read_bytes : bytes_in (read_for rest) ≡ bytes_in rest
  read_bytes =
      let body : drop 3 (read_for rest) ≡ take (long_of rest) (drop 3 rest) =
      ap (λ n. drop 3 (take n rest)) read_wanted ∙ ap (λ (xs : List ℕ). drop 3 xs) (take-add 3 (long_of rest) rest) ∙
      drop_at (take 3 rest) (take (long_of rest) (drop 3 rest)) 3 (length-take-le 3 rest f.good.there) in
      rw (read_long, body) (take-take (long_of rest) (long_of rest) (drop 3 rest) (omega arith))
