-- How a yes or no that was computed comes to speak of a statement.
-- Each law takes the answer's two values apart.
use Prim.Native.Nat.{ℕ, suc, ◌<◌}
use mathlib.Core.Bool.{Bool, beq, true, false, not, ◌&&◌, false≢true, true≢false}
use mathlib.Core.Logic.{ite}
use mathlib.Core.Path.{◌≡◌, refl}
use native.Mathlib.Omega.{arith}
use borrow.Author.Tests.{eqb-false, eqb-true}
use lib.Dec.{eqb}
use Rattle.wire.proofs.Decided.{all_more}
use Rattle.wire.specs.Promise.{Says}

-- What `cc` makes of an equation between two different answers, which no answer meets.
pub never : ◌≡◌ {A = ℕ} 0 1 → ⊥
never e = omega arith

-- A comparison says what follows from each of its outcomes.
pub says_eqb : (a b : ℕ) (P : Type 0) → (a ≡ b → P) → ((a ≡ b → ⊥) → P → ⊥) → Says (eqb a b) P
says_eqb a b P yes-is no-is = by_value (eqb a b) refl
  where
    by_value : (t : Bool) → eqb a b ≡ t → Says t P
    by_value true e = yes-is (eqb-true a b e)
    by_value false e = no-is (eqb-false a b e)

pub says_beq : (s t : Bool) → Says (beq s t) (s ≡ t)
says_beq true true = refl
says_beq true false = true≢false
says_beq false true = false≢true
says_beq false false = refl

-- Two answers, about what holds below a bound and at it, make one about what holds up to it.
pub says_all_more :
    (s t : Bool) (P : ℕ → Type 0) (n : ℕ) →
    Says s ((i : ℕ) → i < n → P i) → Says t (P n) → Says (s && t) ((i : ℕ) → i < suc n → P i)
says_all_more true true P n each last = all_more P n each last
says_all_more true false P n each last = λ all. last (all n (omega arith))
says_all_more false t P n each last = λ all. each (λ i h. all i (omega arith))

-- An answer about one statement is an answer about another that holds in the same cases.
pub says_same : (t : Bool) (P Q : Type 0) → (P → Q) → (Q → P) → Says t P → Says t Q
says_same true P Q to from s = to s
says_same false P Q to from s = λ q. s (from q)

-- What a branch on an answer knows, and one on the negated answer.
pub says_yes : (t : Bool) (P : Type 0) → t ≡ true → Says t P → P
says_yes true P e s = s
says_yes false P e s = absurd (false≢true e)

pub says_no : (t : Bool) (P : Type 0) → t ≡ false → Says t P → P → ⊥
says_no true P e s = absurd (true≢false e)
says_no false P e s = s

pub granted : (t : Bool) (P : Type 0) → not t ≡ false → Says t P → P
granted true P e s = s
granted false P e s = absurd (true≢false e)

pub denied : (t : Bool) (P : Type 0) → not t ≡ true → Says t P → P → ⊥
denied true P e s = absurd (false≢true e)
denied false P e s = s

-- A flag says of itself that it is set.
pub says_set : (t : Bool) → Says t (t ≡ true)
says_set true = refl
says_set false = false≢true

-- Two answers about one statement are equal.
pub says_once : (t u : Bool) (P : Type 0) → Says t P → Says u P → t ≡ u
says_once true true P s r = refl
says_once true false P s r = absurd (r s)
says_once false true P s r = absurd (s r)
says_once false false P s r = refl

-- An answer about a statement is the one that its decision gives.
pub says_decided : {P : Type 0} (d : Dec P) (t : Bool) → Says t P → t ≡ ite d true false
says_decided (yes p) true s = refl
says_decided (yes p) false s = absurd (s p)
says_decided (no n) true s = absurd (n s)
says_decided (no n) false s = refl

pub decided_says : {P : Type 0} (d : Dec P) → Says (ite d true false) P
decided_says (yes p) = p
decided_says (no n) = n
