-- Stores in a row: what comes after what, and that bytes which go up by one on both sides are one copy.
-- A sequence is taken apart at its last store; a copy grows by one byte with each.
use Prim.Native.Nat.{ℕ, zero, suc, ◌+◌, ◌≤◌, ◌<◌}
use mathlib.Core.Bool.{Bool, true, false, cond}
use mathlib.Core.List.{List, [], ◌∷◌, ◌++◌}
use mathlib.Core.Path.{◌≡◌, refl, ap, ◌∙◌}
use native.Mathlib.Nat.{add-suc, add-zero}
use native.Mathlib.Numerals.{add-one}
use native.Mathlib.Omega.{arith}
use lib.ListN.{drop, length}
use lib.Seq.{paste-zero}
use Rattle.wire.specs.Copy.{copied}
use Rattle.wire.proofs.Laws.{copied_more}
use Rattle.transfer.specs.Data.{move}
use Rattle.transfer.specs.Stores.{Buffers, Store, after, up_to, with, worth}

-- One list of stores, and then another.
pub after_append : (xs ys : List Store) (m : Buffers) → after (xs ++ ys) m ≡ after ys (after xs m)
unfolding after
after_append [] ys m = refl
after_append (x ∷ xs) ys m = after_append xs ys (with m x.to (worth m x.value))

-- One store more.
pub after_more :
    (n : ℕ) (s : ℕ → Store) (m : Buffers) →
    after (up_to (suc n) s) m ≡ with (after (up_to n s) m) (s n).to (worth (after (up_to n s) m) (s n).value)
unfolding after up_to
after_more n s m = after_append (up_to n s) (s n ∷ []) m

-- The first k stores, and then the n that follow.
pub after_add :
    (k n : ℕ) (s : ℕ → Store) (m : Buffers) → after (up_to (k + n) s) m ≡ after (up_to n (λ i. s (k + i))) (after (up_to k s) m)
unfolding after up_to
after_add k zero s m = rw add-zero
after_add k (suc n) s m =
    rw (add-suc, after_more (k + n) s m, after_more n (λ i. s (k + i)) (after (up_to k s) m), after_add k n s m)

-- Sequences that agree so far.
pub up_to_same : (n : ℕ) (s t : ℕ → Store) → ((i : ℕ) → i < n → s i ≡ t i) → up_to n s ≡ up_to n t
unfolding up_to
up_to_same zero s t same = refl
up_to_same (suc n) s t same = rw (up_to_same n s t (λ i h. same i (omega arith)), same n (omega arith))

-- Bytes moved from one index on, on both sides, are a copy of a part.
abbrev pub copied_run : Bool → Buffers → ℕ → ℕ → ℕ → Buffers
copied_run to_host m disk at n =
    record {
      host = cond to_host (copied m.image disk m.host at n) m.host;
      image = cond to_host m.image (copied m.host at m.image disk n);
      events = m.events;
    }

pub run_is_copy :
    (n : ℕ) (to_host : Bool) (m : Buffers) (disk at : ℕ) → disk + n ≤ length m.image → at + n ≤ length m.host →
    after (up_to n (λ i. move to_host (disk + i) (at + i))) m ≡ copied_run to_host m disk at n
unfolding after up_to
run_is_copy zero true m disk at d h =
    λ i. record { host = paste-zero m.host at (drop disk m.image) i; image = m.image; events = m.events }
run_is_copy zero false m disk at d h =
    λ i. record { host = m.host; image = paste-zero m.image disk (drop at m.host) i; events = m.events }
run_is_copy (suc n) true m disk at d h =
    after_more n (λ i. move true (disk + i) (at + i)) m
    ∙ rw (run_is_copy n true m disk at (omega arith) (omega arith))
    (ap (λ (x : List ℕ). record { host = x; image = m.image; events = m.events })
    (rw (← add-one) (copied_more m.image m.host disk at n (omega arith) (omega arith))))
run_is_copy (suc n) false m disk at d h =
    after_more n (λ i. move false (disk + i) (at + i)) m
    ∙ rw (run_is_copy n false m disk at (omega arith) (omega arith))
    (ap (λ (x : List ℕ). record { host = m.host; image = x; events = m.events })
    (rw (← add-one) (copied_more m.host m.image at disk n (omega arith) (omega arith))))
