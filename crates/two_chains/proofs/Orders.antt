-- What two calls of the run, one after the other, come to is the definition of that order; and for independent chains both orders are one.
-- A call is its step on what it was lent, so two of them are two steps.
use Prim.Native.Nat.{ℕ}
use mathlib.Core.Path.{◌≡◌, refl, sym, ◌∙◌, ap}
use Rattle.board.specs.declared.chain.Outcome.{Outcome}
use Rattle.two_chains.specs.declared.Order.{Order}
use Rattle.two_chains.specs.declared.Order.TheVariants.{FirstThenSecond, SecondThenFirst}
use Rattle.two_chains.specs.declared.Twice.{Twice}
use Rattle.unit.specs.declared.Controller.{Controller}
use Rattle.unit.specs.declared.Controller.TheVariants.{First as FirstController, Second as SecondController}
use Rattle.independence.specs.Chains.{Both, Chain, First, Second, run_of}
use Rattle.independence.specs.Demand3.{EitherWay, Independent}
use Rattle.two_chains.specs.Orders.{RanBoth, RanOne, ran_both, ran_both_of, ran_one, ran_one_of}
use Rattle.independence.proofs.Demand3.{either_way, first_same, left_same, second_same}

-- Two of them in a row are the first order.
pub first_then_second_lem :
    (one two : Chain) (s between after : Both) (r q : Outcome) {x y : Outcome} →
    ran_one_of r between ≡ ran_one First one s → ran_one_of q after ≡ ran_one Second two between → x ≡ r → y ≡ q →
    ran_both_of (record { first = x; second = y }) after ≡ ran_both FirstThenSecond one two s
first_then_second_lem one two s between after r q ran-one ran-two is_x is_y =
    let step = ap (λ (o : RanOne). o.left) ran-one in
    λ i.
    record {
      first = (is_x ∙ ap (λ (o : RanOne). o.came) ran-one) i;
      second = (is_y ∙ ap (λ (o : RanOne). o.came) ran-two ∙ ap (run_of Second two).out step) i;
      left = (ap (λ (o : RanOne). o.left) ran-two ∙ ap (run_of Second two).left step) i;
    }

-- The other order is this one with the chains and their event buffers exchanged.
abbrev mirrored : Both → Both
mirrored s =
    record { host1 = s.host1; host2 = s.host2; drive0 = s.drive0; drive1 = s.drive1; events1 = s.events2; events2 = s.events1 }

abbrev turned : RanBoth → RanBoth
turned r = record { first = r.second; second = r.first; left = mirrored r.left }

other_order :
    (c d : Controller) (first allowance first' allowance' : ℕ) (s : Both) →
    let one : Chain = record { controller = c; first = first; allowance = allowance } in
    let two : Chain = record { controller = d; first = first'; allowance = allowance' } in
    turned (ran_both FirstThenSecond two one (mirrored s)) ≡ ran_both SecondThenFirst one two s
other_order FirstController FirstController first allowance first' allowance' s = refl
other_order FirstController SecondController first allowance first' allowance' s = refl
other_order SecondController FirstController first allowance first' allowance' s = refl
other_order SecondController SecondController first allowance first' allowance' s = refl

pub exchanged :
    (one two : Chain) (s : Both) (x : Twice) (left : Both) →
    ran_both_of x (mirrored left) ≡ ran_both FirstThenSecond two one (mirrored s) →
    ran_both_of (record { first = x.second; second = x.first }) left ≡ ran_both SecondThenFirst one two s
exchanged one two s x left is =
    ap turned is ∙ other_order one.controller two.controller one.first one.allowance two.first two.allowance s

-- Of independent chains the order does not matter, whichever it is.
pub orders_are_one :
    (c d : Chain) (s : Both) → Independent c d s → (o p : Order) →
    ran_both o c d s ≡ ran_both p c d s
orders_are_one c d s apart o p = to_first o ∙ sym (to_first p)
  where
    either : EitherWay c d s
    either = either_way c d s apart

    to_first : (o : Order) → ran_both o c d s ≡ ran_both FirstThenSecond c d s
    to_first FirstThenSecond = refl
    to_first SecondThenFirst =
        λ i. record { first = sym (first_same c d s either) i; second = sym (second_same c d s either) i; left = sym (left_same c d s either) i }
