-- Two machines on two drives, by the exported call (02, K10): "Each has its own host memory"; the drives' images and records are shared.
use Rattle.std.specs.Prelude.{ℕ, List, ◌≡◌}
use Rattle.unit.specs.declared.Controller.{Controller}
use Rattle.unit.specs.declared.Controller.TheVariants.{First, Second}
use Rattle.abi.specs.Calls.{Called, CallLent, lent_of}

-- What a machine has for itself: its host memory, its event buffer, and where it has outcomes put.
pub record Own : Type 0 where
  pub host : List ℕ
  pub events : List ℕ
  pub outcome : List ℕ

-- Two of them, and the drives, holders and all.
pub record Machines : Type 0 where
  pub one : Own
  pub two : Own
  pub image0 : List ℕ
  pub image1 : List ℕ
  pub record0 : List ℕ
  pub record1 : List ℕ

abbrev pub own_of : Machines → Controller → Own
own_of m First = m.one
own_of m Second = m.two

-- What a call of a controller is lent: what is its own, and the drives.
abbrev pub lent_by : Machines → Controller → CallLent
lent_by m c =
    let own = own_of m c in
    lent_of own.host m.image0 m.image1 own.events m.record0 m.record1 own.outcome

-- What is there once the call has left that so.
abbrev pub own_in : CallLent → Own
own_in l = record { host = l.host; events = l.events; outcome = l.outcome }

abbrev pub drives_left : (one two : Own) → CallLent → Machines
drives_left one two l = record { one = one; two = two; image0 = l.image0; image1 = l.image1; record0 = l.record0; record1 = l.record1 }

abbrev pub after_call : Machines → Controller → CallLent → Machines
after_call m First l = drives_left (own_in l) m.two l
after_call m Second l = drives_left m.one (own_in l) l

-- What a call is asked for: the controller's number, the first block, the allowance, and what it is lent.
pub record Asking : Type 0 where
  pub controller : ℕ
  pub first : ℕ
  pub allowance : ℕ
  pub lent : CallLent

abbrev pub asking : (controller first allowance : ℕ) → CallLent → Asking
asking controller first allowance l = record { controller = controller; first = first; allowance = allowance; lent = l }

abbrev pub controller_number : Controller → ℕ
controller_number First = 0
controller_number Second = 1

-- "Answers of one controller depend on nothing else of the other than what is shared and the holder": two calls of a controller, asked for the same at two
-- sites that agree on what is its own and on the drives, come to the same, in the number returned and in every byte. What is the other's is not lent, and stays.
pub record AnswersForItself (m : Machines) (c : Controller) (here there : Called) : Type 0 where
  pub same : here ≡ there
  pub other : (d : Controller) → (c ≡ d → ⊥) → own_of (after_call m c here.lent) d ≡ own_of m d

-- The same of a call's promise, as the source states it (wire, Promise): `given` says what its arguments ask for, `seen` what a caller sees of its outcome.
abbrev pub EachForItself {ℓ₀ ℓ₁ ℓ₂ ℓ₃} :
    {K : Type ℓ₀} {A : K → Type ℓ₁} {R : K → Type ℓ₂} {E : K → Type ℓ₃} →
    ((κ : K) → A κ → R κ → E κ → Type 0) →
    ((κ : K) → A κ → Asking) →
    ((κ : K) → R κ → E κ → Called) →
    Type (ℓ₀ ⊔ ℓ₁ ⊔ ℓ₂ ⊔ ℓ₃)
EachForItself {K} {A} {R} {E} Post given seen =
    (κ κ' : K) (a : A κ) (b : A κ') (x : R κ) (y : R κ') (e : E κ) (f : E κ') (c : Controller) (first allowance : ℕ) (m n : Machines) →
    given κ a ≡ asking (controller_number c) first allowance (lent_by m c) →
    given κ' b ≡ asking (controller_number c) first allowance (lent_by n c) →
    lent_by m c ≡ lent_by n c →
    Post κ a x e → Post κ' b y f → AnswersForItself m c (seen κ x e) (seen κ' y f)
