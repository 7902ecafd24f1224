-- Demand 3 of what runs (00; 02, K10): said of a promise as the source states it (wire, Promise), whatever program meets it. `given` says what its
-- arguments ask for and lend, `seen` what a caller sees of an outcome.
use Rattle.std.specs.Prelude.{ℕ, ◌≡◌}
use Rattle.board.specs.declared.chain.Outcome.{Outcome}
use Rattle.board.specs.World.{World}
use Rattle.independence.specs.Chains.{Both, Chain, First, Second, Which, leaving, world_for}
use Rattle.independence.specs.Demand3.{Independent}
use Rattle.two_chains.specs.declared.Order.{Order}
use Rattle.two_chains.specs.Orders.{RanBoth}

-- ---- of a call that runs both

-- What it is asked for: the order, the two chains, and what they are lent.
pub record BothAsked : Type 0 where
  pub order : Order
  pub one : Chain
  pub two : Chain
  pub lent : Both

-- Two calls with the same chains on the same state, each in either order: where the chains are independent, what they came to and all that is left
-- is the same.
abbrev pub OrdersAlike {ℓ₀ ℓ₁ ℓ₂ ℓ₃} :
    {K : Type ℓ₀} {A : K → Type ℓ₁} {R : K → Type ℓ₂} {E : K → Type ℓ₃} →
    ((κ : K) → A κ → R κ → E κ → Type 0) → ((κ : K) → A κ → BothAsked) → ((κ : K) → R κ → E κ → RanBoth) → Type (ℓ₀ ⊔ ℓ₁ ⊔ ℓ₂ ⊔ ℓ₃)
OrdersAlike {K} {A} {R} {E} Post given seen =
    (one two : Chain) (s : Both) → Independent one two s →
    (κ κ' : K) (a : A κ) (b : A κ') (x : R κ) (y : R κ') (e : E κ) (f : E κ') (o p : Order) →
    given κ a ≡ record { order = o; one = one; two = two; lent = s } → given κ' b ≡ record { order = p; one = one; two = two; lent = s } →
    Post κ a x e → Post κ' b y f → seen κ x e ≡ seen κ' y f

-- ---- of two calls that run one each, "which is what firmware makes"

-- What a call is asked for: a first block, an allowance, and the world that it is lent.
pub record RunAsked : Type 0 where
  pub first : ℕ
  pub allowance : ℕ
  pub lent : World

-- What a caller sees: what the chain came to, and the world that is left.
pub record RunSeen : Type 0 where
  pub came : Outcome
  pub left : World

-- A chain, as one of two, asks to be run on what it finds; and all that is there once its call has left its world.
abbrev pub asks_on : Which → Chain → Both → RunAsked
asks_on t k s = record { first = k.first; allowance = k.allowance; lent = world_for t k.controller s }

abbrev pub after_call : Which → Chain → Both → RunSeen → Both
after_call t k s r = leaving t k.controller s r.left

-- What four calls come to: the first chain's with the second's after it, and the second's with the first's after it.
pub record CallsAlike (one two : Chain) (s : Both) (first then_second second then_first : RunSeen) : Type 0 where
  pub of_first : first.came ≡ then_first.came
  pub of_second : then_second.came ≡ second.came
  pub left : after_call Second two (after_call First one s first) then_second ≡ after_call First one (after_call Second two s second) then_first

abbrev pub TwoCallsAlike {ℓ₀ ℓ₁ ℓ₂ ℓ₃} :
    {K : Type ℓ₀} {A : K → Type ℓ₁} {R : K → Type ℓ₂} {E : K → Type ℓ₃} →
    ((κ : K) → A κ → R κ → E κ → Type 0) → ((κ : K) → A κ → RunAsked) → ((κ : K) → A κ → R κ → E κ → RunSeen) → Type (ℓ₀ ⊔ ℓ₁ ⊔ ℓ₂ ⊔ ℓ₃)
TwoCallsAlike {K} {A} {R} {E} Post given seen =
    (one two : Chain) (s : Both) → Independent one two s →
    (κ₁ κ₂ κ₃ κ₄ : K) (a₁ : A κ₁) (a₂ : A κ₂) (a₃ : A κ₃) (a₄ : A κ₄) →
    (x₁ : R κ₁) (x₂ : R κ₂) (x₃ : R κ₃) (x₄ : R κ₄) (e₁ : E κ₁) (e₂ : E κ₂) (e₃ : E κ₃) (e₄ : E κ₄) →
    given κ₁ a₁ ≡ asks_on First one s → given κ₂ a₂ ≡ asks_on Second two (after_call First one s (seen κ₁ a₁ x₁ e₁)) →
    given κ₃ a₃ ≡ asks_on Second two s → given κ₄ a₄ ≡ asks_on First one (after_call Second two s (seen κ₃ a₃ x₃ e₃)) →
    Post κ₁ a₁ x₁ e₁ → Post κ₂ a₂ x₂ e₂ → Post κ₃ a₃ x₃ e₃ → Post κ₄ a₄ x₄ e₄ →
    CallsAlike one two s (seen κ₁ a₁ x₁ e₁) (seen κ₂ a₂ x₂ e₂) (seen κ₃ a₃ x₃ e₃) (seen κ₄ a₄ x₄ e₄)
