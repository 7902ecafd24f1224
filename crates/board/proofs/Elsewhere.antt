-- A part that lies elsewhere does not meet the promise of an inspection, whatever bytes it has: not in the other unit's image, where there may be the same
-- bytes, and not, where there is nothing to inspect, at any byte but the first of unit 0's image.
-- The promise says where the part lies, and there is one such place.
use Prim.Native.Nat.{ℕ, ◌<◌}
use mathlib.Core.Path.{◌≡◌, ◌∙◌, ap, sym}
use native.Mathlib.Omega.{arith}
use lib.ListN.{length}
use Rattle.unit.specs.declared.UnitNumber.TheVariants.{One}
use Rattle.board.specs.Inspection.{Inspectable, lies_at}
use Rattle.board.proofs.Parts.{of_no_unit, of_unit_one, sector_there}
use Rattle.board.proofs.inspection.inspect.Reads as inspect

-- No result that is wrong in a way is allowed by a promise.
abbrev Refuted {ℓ₀ ℓ₁ ℓ₂ ℓ₃} :
    {K : Type ℓ₀} {A : K → Type ℓ₁} {R : K → Type ℓ₂} {E : K → Type ℓ₃} →
    ((κ : K) → A κ → R κ → E κ → Type 0) → ((κ : K) → A κ → R κ → Type 0) → Type (ℓ₀ ⊔ ℓ₁ ⊔ ℓ₂ ⊔ ℓ₃)
Refuted {K} {A} {R} {E} Post wrong = (κ : K) (a : A κ) (x : R κ) (e : E κ) → wrong κ a x → Post κ a x e → ⊥

-- The arguments are, in their order, the two images, the units, the unit and the place. Of a unit over 1 the part is empty; an empty one of
-- image 0 from a later byte on is another.
empty_from_a_later_byte :
    Refuted inspect.Post (λ κ a x. (1 < a.1.1.1.0) × ((x.ref_ptr.0 ≡ a.0.ref_ptr.0) × (a.0.ref_ptr.1 < x.ref_ptr.1)))
empty_from_a_later_byte κ a x e (over, (memory, later)) p =
    let none =
    of_no_unit a.1.1.0.now.zero a.1.1.0.now.one (length a.0.now) (length a.1.0.now)
    a.1.1.1.1.0 a.1.1.1.0 (λ z. omega arith) (λ z. omega arith) in
    let place = p.1 ∙ ap (lies_at a.0.ref_ptr a.1.0.ref_ptr) none in
    omega (arith, ap (λ (q : ℕ × ℕ). q.1) place)

-- Nor may it be taken from image 1.
empty_of_the_other :
    Refuted inspect.Post (λ κ a x. (1 < a.1.1.1.0) × ((a.0.ref_ptr.0 ≡ a.1.0.ref_ptr.0 → ⊥) × (x.ref_ptr.0 ≡ a.1.0.ref_ptr.0)))
empty_of_the_other κ a x e (over, (apart, there)) p =
    let none =
    of_no_unit a.1.1.0.now.zero a.1.1.0.now.one (length a.0.now) (length a.1.0.now)
    a.1.1.1.1.0 a.1.1.1.0 (λ z. omega arith) (λ z. omega arith) in
    let place = p.1 ∙ ap (lies_at a.0.ref_ptr a.1.0.ref_ptr) none in
    apart (sym (ap (λ (q : ℕ × ℕ). q.0) place) ∙ there)

-- A sector of unit 1 does not lie in image 0, also where that has the same bytes at the same place.
sector_of_the_other :
    Refuted inspect.Post
    (λ κ a x.
    (a.1.1.1.0 ≡ 1) ×
    (Inspectable a.1.1.0.now.one (length a.1.0.now) a.1.1.1.1.0 ×
    ((a.0.ref_ptr.0 ≡ a.1.0.ref_ptr.0 → ⊥) × (x.ref_ptr.0 ≡ a.0.ref_ptr.0))))
sector_of_the_other κ a x e (one, (there, (apart, here))) p =
    let u0 = a.1.1.0.now.zero in
    let u1 = a.1.1.0.now.one in
    let long0 = length a.0.now in
    let long1 = length a.1.0.now in
    let place = a.1.1.1.1.0 in
    let its = of_unit_one u0 u1 long0 long1 place ∙ sector_there One u1 long1 place there in
    let lies = rw one at p.1 in
    apart (sym here ∙ ap (λ (q : ℕ × ℕ). q.0) (lies ∙ ap (lies_at a.0.ref_ptr a.1.0.ref_ptr) its))
