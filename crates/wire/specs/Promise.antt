-- What promises are made of: a yes or no that speaks of a statement, and the claim that a promise leaves one outcome.
use Rattle.std.specs.Prelude.{Bool, true, false, ◌≡◌}

-- The answer true says that the statement holds, the answer false that it does not.
abbrev pub Says : Bool → Type 0 → Type 0
Says true P = P
Says false P = P → ⊥

-- A function's promise is a statement about one call of it: about its arguments, what it returned, and the parameters as they are at exit, where the
-- lent bytes are. (Lifetimes come first, because the types of the rest name them.) The promise leaves one result: whatever was asked, if it allows that
-- the call returned the one and it allows that it returned the other, the two are the same (01, How tightly each call is described: "Two results
-- allowed by one promise are proved equal").
abbrev pub OneResult {ℓ₀ ℓ₁ ℓ₂ ℓ₃} :
    {Lifetimes : Type ℓ₀} {Arguments : Lifetimes → Type ℓ₁} {Result : Lifetimes → Type ℓ₂} {AtExit : Lifetimes → Type ℓ₃} →
    ((l : Lifetimes) → Arguments l → Result l → AtExit l → Type 0) →
    Type (ℓ₀ ⊔ ℓ₁ ⊔ ℓ₂ ⊔ ℓ₃)
OneResult {Lifetimes} {Arguments} {Result} {AtExit} Promise =
    (l : Lifetimes) (asked : Arguments l) (one other : Result l) (left left' : AtExit l) →
    Promise l asked one left → Promise l asked other left' → one ≡ other

-- It leaves one outcome: the same of all that a caller can see, its lent bytes among it. `seen` says what that is, of a result and of what is left.
abbrev pub OneOutcome {ℓ₀ ℓ₁ ℓ₂ ℓ₃} :
    {Lifetimes : Type ℓ₀} {Arguments : Lifetimes → Type ℓ₁} {Result : Lifetimes → Type ℓ₂} {AtExit : Lifetimes → Type ℓ₃} {Seen : Type 0} →
    ((l : Lifetimes) → Arguments l → Result l → AtExit l → Type 0) →
    ((l : Lifetimes) → Result l → AtExit l → Seen) →
    Type (ℓ₀ ⊔ ℓ₁ ⊔ ℓ₂ ⊔ ℓ₃)
OneOutcome {Lifetimes} {Arguments} {Result} {AtExit} Promise seen =
    (l : Lifetimes) (asked : Arguments l) (one other : Result l) (left left' : AtExit l) →
    Promise l asked one left → Promise l asked other left' → seen l one left ≡ seen l other left'
