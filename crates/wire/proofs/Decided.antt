-- What definitions elsewhere go by cases on is decided: a test, what it is to lie in host memory, and a statement about every number below a bound.
-- The last is decided where it is decided at each: one number more is one decision more.
use Prim.Native.Nat.{ℕ, zero, suc, ◌+◌, ◌%◌, ◌<◌}
use mathlib.Core.Bool.{Bool, true, false}
use mathlib.Core.List.{List}
use mathlib.Core.Logic.Dec
use mathlib.Core.Logic.{⊎_elim}
use mathlib.Core.Path.{subst, sym}
use native.Mathlib.Decide.{dec_le, map_dec, ℕ_discrete}
use lib.Dec.{T}
use lib.ListN.{length}
use Rattle.wire.specs.Memory.{InMemory}
use native.Mathlib.Nat.{eq-or-lt_of_le, le_of_suc-le-suc}
use native.Mathlib.Omega.{arith}

pub all_more : (P : ℕ → Type 0) (n : ℕ) → ((i : ℕ) → i < n → P i) → P n → (i : ℕ) → i < suc n → P i
all_more P n each last i h =
    ⊎_elim (λ same. subst P (sym same) last) (λ less. each i less) (eq-or-lt_of_le (le_of_suc-le-suc h))

pub all? : (P : ℕ → Type 0) → ((i : ℕ) → Dec (P i)) → (n : ℕ) → Dec ((i : ℕ) → i < n → P i)
all? P p? zero = yes (λ i h. absurd (omega arith))
all? P p? (suc n) =
    map_dec (λ d. all_more P n d.0 d.1) (λ each. (λ i h. each i (omega arith), each n (omega arith)))
    (Dec.and (all? P p? n) (p? n))

pub test? : (b : Bool) → Dec (T b)
test? true = yes tt
test? false = no (λ x. x)

pub in_memory? : (host : List ℕ) (at bytes : ℕ) → Dec (InMemory host at bytes)
in_memory? host at bytes =
    map_dec (λ d. record { even = d.0; inside = d.1 }) (λ i. (i.even, i.inside))
    (Dec.and (ℕ_discrete (at % 2) 0) (dec_le (at + bytes) (length host)))
