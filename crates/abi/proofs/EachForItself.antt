-- Each controller answers for itself, read off the contract of the call as the source states it.
-- A call is lent nothing of the other's, and its contract is an equation with a definition of what it is lent.
use mathlib.Core.Path.{◌≡◌, refl, sym, ap, ◌∙◌}
use Rattle.unit.specs.declared.Controller.{Controller}
use Rattle.unit.specs.declared.Controller.TheVariants.{First, Second}
use Rattle.abi.specs.Calls.{CallLent, called_as, called_of, lent_in}
use Rattle.abi.specs.Machines.{Asking, EachForItself, Machines, after_call, asking, controller_number, own_of}
use Rattle.abi.proofs.vsmd_run_as.Reads as run-as

-- What is the other's is not lent, so it stays.
other_stays : (m : Machines) (l : CallLent) (c d : Controller) → (c ≡ d → ⊥) → own_of (after_call m c l) d ≡ own_of m d
other_stays m l First First apart = absurd (apart refl)
other_stays m l First Second apart = refl
other_stays m l Second First apart = refl
other_stays m l Second Second apart = absurd (apart refl)

vsmd_run_as_for_itself :
    EachForItself run-as.Post
    (λ κ a.
    asking a.1.1.1.1.1.1.1.1.1.0 a.1.1.1.1.1.1.1.0 a.1.1.1.1.1.1.1.1.0
    (lent_in a))
    (λ κ x e. called_of x (lent_in e))
vsmd_run_as_for_itself κ κ' a b x y e f c first allowance m n here there agree p q =
    record {
      same =
          p ∙
          ap (λ (k : Asking). called_as k.controller k.first k.allowance k.lent)
          (here ∙ ap (asking (controller_number c) first allowance) agree ∙ sym there) ∙
          sym q;
      other = other_stays m _ c;
    }
