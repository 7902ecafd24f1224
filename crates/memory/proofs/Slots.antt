-- The slots of a list's pieces: each of the first n holds its element's byte count, or its address.
-- A slot is stored once and no later store reaches it.
use Prim.Native.Nat.{ℕ, zero, suc, ◌≤◌, ◌<◌}
use mathlib.Core.List.{List}
use mathlib.Core.Logic.{by_cases}
use mathlib.Core.Path.{◌≡◌, refl, ◌∙◌}
use native.Mathlib.Decide.{dec_lt}
use native.Mathlib.Omega.{arith}
use lib.ListN.{get_or, length, length-set, set}
use lib.Seq.{get_or-set_other, get_or-set_same}
use Rattle.memory.specs.Lists.{element_of}
use Rattle.memory.specs.Pieces.{addresses_of, lengths_of}

-- n slots filled one after the other, from 64 that hold 0.
module _ (slots : ℕ → List ℕ) (value : ℕ → ℕ) (none : length (slots 0) ≡ 64) (more : (n : ℕ) → slots (suc n) ≡ set (slots n) n (value n)) where
  long : (n : ℕ) → length (slots n) ≡ 64
  long zero = none
  long (suc n) = rw more (length-set (slots n) n (value n) ∙ long n)

  holds : (n i : ℕ) → i < n → n ≤ 64 → get_or (slots n) i 0 ≡ value i
  holds zero i less most = absurd (omega arith)
  holds (suc n) i less most =
      rw more
      (by_cases (dec_lt i n)
      (λ earlier. get_or-set_other (slots n) n i (value n) 0 (λ same. omega arith) ∙ holds n i earlier (omega arith))
      (λ last.
      let here : i ≡ n = omega arith in
      rw here (get_or-set_same (slots n) n (value n) 0 (omega (arith, long n)))))

module _ (host : List ℕ) (at : ℕ) where
  pub lengths_long : (n : ℕ) → length (lengths_of host at n) ≡ 64
  unfolding lengths_of
  lengths_long n = long (lengths_of host at) (λ i. (element_of host at i).bytes) refl (λ k. refl) n

  pub addresses_long : (n : ℕ) → length (addresses_of host at n) ≡ 64
  unfolding addresses_of
  addresses_long n = long (addresses_of host at) (λ i. (element_of host at i).address) refl (λ k. refl) n

  pub length_slot : (n i : ℕ) → i < n → n ≤ 64 → get_or (lengths_of host at n) i 0 ≡ (element_of host at i).bytes
  unfolding lengths_of
  length_slot n i less most = holds (lengths_of host at) (λ k. (element_of host at k).bytes) refl (λ k. refl) n i less most

  pub address_slot : (n i : ℕ) → i < n → n ≤ 64 → get_or (addresses_of host at n) i 0 ≡ (element_of host at i).address
  unfolding addresses_of
  address_slot n i less most = holds (addresses_of host at) (λ k. (element_of host at k).address) refl (λ k. refl) n i less most
