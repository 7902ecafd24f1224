-- The host memory of the small drive: a list of elements that are all alike, and room behind it.
-- Each byte of an element is that of a list of one, so every element says 64 bytes at address 512.
use Prim.Native.Nat.{ℕ, zero, suc, ◌+◌, ◌*◌, ◌≤◌, ◌<◌}
use mathlib.Core.List.{List, ◌++◌}
use mathlib.Core.Path.{◌≡◌, refl, ◌∙◌}
use native.Mathlib.Omega.{arith}
use lib.ListN.{get_or-append, get_or, length, length-append, length-replicate, replicate}
use lib.Seq.{get_or-append-add}
use Rattle.memory.specs.Lists.{ListGood, Ranges, element_of, total}
use Rattle.wire.specs.Memory.{InMemory}
use Rattle.wire.specs.Words.{word}
use Rattle.wire.proofs.Laws.{word_same}
use Rattle.worked.specs.SmallDrive.{elements, host}

-- ---- any number of elements, whatever stands behind them

length_elements : (n : ℕ) → length (elements n) ≡ 8 * n
unfolding elements
length_elements zero = refl
length_elements (suc n) = omega (arith, length_elements n)

module _ (room : List ℕ) where
  abbrev memory : ℕ → List ℕ
  memory n = elements n ++ room

  byte_alike : (n i j at : ℕ) → i < n → j < 8 → at ≡ 8 * i + j → get_or (memory n) at 0 ≡ get_or (elements 1) j 0
  unfolding elements
  byte_alike zero i j at i< j< is = absurd (omega arith)
  byte_alike (suc n) zero j at i< j< is =
      let here : at ≡ j = omega arith in
      rw here (get_or-append (elements 1) (memory n) 0 j j<)
  byte_alike (suc n) (suc i) j at i< j< is =
      let further : at ≡ 8 + (8 * i + j) = omega arith in
      rw further (get_or-append-add (elements 1) (memory n) (8 * i + j) 0 ∙ byte_alike n i j _ (omega arith) j< refl)

  word_alike : (k n i j at : ℕ) → i < n → j + k ≤ 8 → at ≡ 8 * i + j → word k (memory n) at ≡ word k (elements 1) j
  word_alike k n i j at i< whole is =
      word_same k (memory n) (elements 1) at j
      (λ l l<. byte_alike n i (j + l) (at + l) i< (omega arith) (omega arith))

  element_is : (n i : ℕ) → i < n → ((element_of (memory n) 0 i).bytes ≡ 64) × ((element_of (memory n) 0 i).address ≡ 512)
  unfolding elements word
  element_is n i i< =
      (word_alike 2 n i 0 _ i< (omega arith) (omega arith), word_alike 4 n i 2 _ i< (omega arith) (omega arith))

  total_is : (n k : ℕ) → k ≤ n → total (memory n) 0 k ≡ 64 * k
  unfolding total
  total_is n zero k≤ = refl
  total_is n (suc k) k≤ = omega (arith, total_is n k (omega arith), element_is n k k≤)

-- ---- the host memory

abbrev behind : List ℕ
behind = replicate 5120 0

length_host : length host ≡ 5640
length_host =
    omega (arith, length-append (elements 65) behind, length_elements 65, length-replicate {A = ℕ} 5120 0)

pub piece_good : (bytes : ℕ) → bytes ≤ 5120 → InMemory host 512 bytes
piece_good bytes fits = omega (arith, length_host)

pub list_good : ListGood host 0 64 4096
list_good =
    record {
      some = omega arith;
      most = omega arith;
      place = omega (arith, length_host);
      counts = λ i i<. omega (arith, element_is behind 65 i (omega arith));
      sum = total_is behind 65 64 (omega arith);
    }

pub ranges_good : Ranges host 0 64
ranges_good i i< = omega (arith, element_is behind 65 i (omega arith), length_host)
