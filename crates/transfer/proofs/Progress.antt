-- How far a transfer comes: sectors that are moved are passed over together, and the first that stops it ends it.
-- Each law goes along the count, which falls as the sector goes up.
use Rattle.std.proofs.Common.{Err, Ok}
use Prim.Native.Nat.{ℕ, zero, suc, ◌+◌, ◌-◌, ◌≤◌, ◌<◌}
use mathlib.Core.Bool.{Bool, true, false, cond}
use mathlib.Core.Logic.{by_cases}
use mathlib.Core.Path.{◌≡◌, refl, ◌∙◌}
use native.Mathlib.Decide.{dec_lt}
use native.Mathlib.Nat.{add-suc, add-zero, suc-add, zero-add}
use native.Mathlib.Omega.{arith}
use Rattle.answers.specs.Numbers.{BlockAnswer}
use Rattle.transfer.specs.Runs.{stopped}
use Rattle.transfer.specs.Progress.{Progress, progress}

-- k sectors that are all moved are passed over.
pub progress_passes :
    (stops : ℕ → Bool) (k j n : ℕ) → ((i : ℕ) → i < k → stops (j + i) ≡ false) → progress stops j (k + n) ≡ progress stops (j + k) n
unfolding progress
progress_passes stops zero j n all = rw (add-zero, zero-add)
progress_passes stops (suc k) j n all =
    let here : stops j ≡ false = rw add-zero at (all 0 (omega arith)) in
    rw (suc-add k n, here, add-suc, ← suc-add j k)
    (progress_passes stops k (suc j) n (λ i h. rw (suc-add j i, ← add-suc j i) (all (suc i) (omega arith))))

-- A sector that stops the transfer ends it.
pub progress_stops :
    (stops : ℕ → Bool) (j n : ℕ) → stops j ≡ true → progress stops j (suc n) ≡ stopped j
unfolding progress
progress_stops stops j n is = rw is

-- Stops that agree from sector j on.
pub progress_same :
    (f g : ℕ → Bool) (j n : ℕ) → ((i : ℕ) → i < n → f (j + i) ≡ g (j + i)) → progress f j n ≡ progress g j n
unfolding progress
progress_same f g j zero same = refl
progress_same f g j (suc n) same =
    let here : f j ≡ g j = rw add-zero at (same 0 (omega arith)) in
    rw (here, progress_same f g (suc j) n (λ i h. rw (suc-add j i, ← add-suc j i) (same (suc i) (omega arith))))

-- The same sectors, counted from j on.
pub progress_shift :
    (stops : ℕ → Bool) (j k n : ℕ) →
    progress stops (j + k) n ≡
    record { sectors = j + (progress (λ i. stops (j + i)) k n).sectors; answer = (progress (λ i. stops (j + i)) k n).answer }
unfolding progress
progress_shift stops j k zero = refl
progress_shift stops j k (suc n) = by_value (stops (j + k)) (rw add-suc at (progress_shift stops j (suc k) n))
  where
    by_value :
        (f : Bool) →
        progress stops (suc (j + k)) n ≡
        record {
          sectors = j + (progress (λ i. stops (j + i)) (suc k) n).sectors;
          answer = (progress (λ i. stops (j + i)) (suc k) n).answer;
        } →
        cond f (stopped (j + k)) (progress stops (suc (j + k)) n) ≡
        record {
          sectors = j + (cond f (stopped k) (progress (λ i. stops (j + i)) (suc k) n)).sectors;
          answer = (cond f (stopped k) (progress (λ i. stops (j + i)) (suc k) n)).answer;
        }
    by_value false rest = rest
    by_value true rest = refl

-- Sectors that are all moved lead on; what stops them stops the whole.
abbrev pub leads_on : BlockAnswer → Progress → Progress → Progress
leads_on (Ok _) p rest = rest
leads_on (Err r) p rest = p

pub progress_then :
    (stops : ℕ → Bool) (j n m : ℕ) →
    progress stops j (n + m) ≡ leads_on (progress stops j n).answer (progress stops j n) (progress stops (j + n) m)
unfolding progress
progress_then stops j zero m = rw (zero-add, add-zero)
progress_then stops j (suc n) m =
    rw (suc-add n m) (by_value (stops j) (rw (add-suc j n, ← suc-add j n) (progress_then stops (suc j) n m)))
  where
    by_value :
        (f : Bool) →
        progress stops (suc j) (n + m) ≡
        leads_on (progress stops (suc j) n).answer (progress stops (suc j) n) (progress stops (j + suc n) m) →
        cond f (stopped j) (progress stops (suc j) (n + m)) ≡
        leads_on (cond f (stopped j) (progress stops (suc j) n)).answer (cond f (stopped j) (progress stops (suc j) n)) (progress stops (j + suc n) m)
    by_value false rest = rest
    by_value true rest = refl

-- Sectors that came to their end are all moved, and those that were stopped are not.
abbrev pub Counts : BlockAnswer → ℕ → ℕ → Type 0
Counts (Ok _) moved all = moved ≡ all
Counts (Err r) moved all = moved < all

pub progress_counts :
    (stops : ℕ → Bool) (j n : ℕ) → (j ≤ (progress stops j n).sectors) × Counts (progress stops j n).answer (progress stops j n).sectors (j + n)
unfolding progress
progress_counts stops j zero = (omega arith, omega arith)
progress_counts stops j (suc n) =
    let rest = progress_counts stops (suc j) n in
    by_value (stops j) (omega (arith, rest.0)) (rw (add-suc j n, ← suc-add j n) rest.1)
  where
    by_value :
        (f : Bool) →
        j ≤ (progress stops (suc j) n).sectors →
        Counts (progress stops (suc j) n).answer (progress stops (suc j) n).sectors (j + suc n) →
        (j ≤ (cond f (stopped j) (progress stops (suc j) n)).sectors) ×
        Counts (cond f (stopped j) (progress stops (suc j) n)).answer (cond f (stopped j) (progress stops (suc j) n)).sectors (j + suc n)
    by_value false from rest = (from, rest)
    by_value true from rest = (omega arith, omega arith)

pub progress_most : (stops : ℕ → Bool) (j n : ℕ) → (progress stops j n).sectors ≤ j + n
progress_most stops j n = by_answer (progress stops j n).answer (progress_counts stops j n).1
  where
    by_answer : (x : BlockAnswer) → Counts x (progress stops j n).sectors (j + n) → (progress stops j n).sectors ≤ j + n
    by_answer (Ok _) is = omega arith
    by_answer (Err r) is = omega arith

-- Every sector that was moved is one that no stop met.
pub progress_moved :
    (stops : ℕ → Bool) (j n i : ℕ) → j ≤ i → i < (progress stops j n).sectors → stops i ≡ false
unfolding progress
progress_moved stops j zero i from below = absurd (omega arith)
progress_moved stops j (suc n) i from below =
    by_value (stops j) refl below (λ later less. progress_moved stops (suc j) n i later less)
  where
    by_value :
        (f : Bool) → stops j ≡ f → i < (cond f (stopped j) (progress stops (suc j) n)).sectors →
        (suc j ≤ i → i < (progress stops (suc j) n).sectors → stops i ≡ false) → stops i ≡ false
    by_value false is less rest =
        by_cases (dec_lt j i) (λ later. rest later less)
        (λ same. let here : i ≡ j = omega arith in rw here is)
    by_value true is less rest = absurd (omega arith)

-- From sector j on, r sectors are moved and the next stops the transfer, or all n are moved.
pub stops_at_lem :
    (stops : ℕ → Bool) (j r n : ℕ) → r < n → ((i : ℕ) → i < r → stops (j + i) ≡ false) → stops (j + r) ≡ true →
    progress stops j n ≡ stopped (j + r)
stops_at_lem stops j r n less all is =
    let rest : n ≡ r + suc (n - r - 1) = omega arith in
    rw rest (progress_passes stops r j (suc (n - r - 1)) all ∙ progress_stops stops (j + r) (n - r - 1) is)

pub all_move :
    (stops : ℕ → Bool) (j n : ℕ) → ((i : ℕ) → i < n → stops (j + i) ≡ false) →
    progress stops j n ≡ record { sectors = j + n; answer = Ok tt }
unfolding progress
all_move stops j n all = rw add-zero at (progress_passes stops n j 0 all)
