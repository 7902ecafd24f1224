-- Pieces joined: a byte between where a piece begins and where it ends lies in that piece.
-- The pieces before it are passed over one by one, each taking its bytes off.
use Prim.Native.Nat.{ℕ, zero, suc, ◌+◌, ◌-◌, ◌≤◌, ◌<◌}
use mathlib.Core.Logic.{if_neg, if_pos}
use mathlib.Core.Path.{◌≡◌, refl, sym, ◌∙◌}
use native.Mathlib.Decide.{dec_lt}
use native.Mathlib.Nat.{add-suc, add-zero, sub-add-eq, sub-zero, suc-add, zero-add}
use native.Mathlib.Omega.{arith}
use Rattle.transfer.specs.Runs.{sum}
use Rattle.transfer.specs.Pieces.{joined}

module _ (bytes : ℕ → ℕ) where
  -- The bytes of t pieces from the i-th on.
  from : ℕ → ℕ → ℕ
  from i zero = 0
  from i (suc t) = bytes i + from (suc i) t

  from_more : (i t : ℕ) → from i (suc t) ≡ from i t + bytes (i + t)
  unfolding from
  from_more i zero = rw (add-zero i) (omega arith)
  from_more i (suc t) = rw (add-suc, ← suc-add i t) (omega (arith, from_more (suc i) t))

  sum_is_from : (n : ℕ) → sum bytes n ≡ from 0 n
  unfolding sum from
  sum_is_from zero = refl
  sum_is_from (suc n) = rw (sum_is_from n) (sym (rw zero-add at (from_more 0 n)))

  module _ (address : ℕ → ℕ) where
    joined_from :
        (t n i k : ℕ) → t < n → from i t ≤ k → k < from i t + bytes (i + t) →
        joined bytes address n i k ≡ address (i + t) + (k - from i t)
    unfolding joined from
    joined_from t zero i k t<n low high = absurd (omega arith)
    joined_from zero (suc n) i k t<n low high =
        if_pos (dec_lt k (bytes i)) (rw (← add-zero i) (omega arith)) _ _ ∙ rw (add-zero i, sub-zero)
    joined_from (suc t) (suc n) i k t<n low high =
        if_neg (dec_lt k (bytes i)) (λ h. omega arith) _ _
        ∙ rw (add-suc, ← suc-add i t, sub-add-eq)
        (joined_from t n (suc i) (k - bytes i) (omega arith) (omega arith) (rw (suc-add i t, ← add-suc i t) (omega arith)))

    -- Byte j of piece i, of n.
    pub joined_at :
        (n i j : ℕ) → i < n → j < bytes i → joined bytes address n 0 (sum bytes i + j) ≡ address i + j
    joined_at n i j i<n j< =
        let is = sum_is_from i in
        let there : sum bytes i + j - from 0 i ≡ j = omega arith in
        rw (zero-add, there) at
        (joined_from i n 0 (sum bytes i + j) i<n (omega arith) (rw zero-add (omega arith)))

-- Pieces that agree in bytes and addresses.
pub joined_same :
    (f g a b : ℕ → ℕ) (n i k : ℕ) → ((t : ℕ) → t < n → (f (i + t) ≡ g (i + t)) × (a (i + t) ≡ b (i + t))) →
    joined f a n i k ≡ joined g b n i k
unfolding joined
joined_same f g a b zero i k same = refl
joined_same f g a b (suc n) i k same =
    let here : (f i ≡ g i) × (a i ≡ b i) = rw add-zero at (same 0 (omega arith)) in
    rw (here.0, here.1, joined_same f g a b n (suc i) (k - g i) (λ t h. rw (suc-add i t, ← add-suc i t) (same (suc t) (omega arith))))

-- One piece.
pub joined_one : (f a : ℕ → ℕ) (k : ℕ) → k < f 0 → joined f a 1 0 k ≡ a 0 + k
unfolding joined
joined_one f a k inside = if_pos (dec_lt k (f 0)) inside _ _

pub sum_same : (f g : ℕ → ℕ) (n : ℕ) → ((t : ℕ) → t < n → f t ≡ g t) → sum f n ≡ sum g n
unfolding sum
sum_same f g zero same = refl
sum_same f g (suc n) same = rw (sum_same f g n (λ t h. same t (omega arith)), same n (omega arith))
