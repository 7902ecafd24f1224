-- Each controller answers for itself.
-- A run sees its own world alone and puts back what it leaves of that, so that two states with one world there lead it to the same.
use mathlib.Core.Path.{◌≡◌, refl, sym, ap, ◌∙◌}
use Rattle.unit.specs.declared.Controller.{Controller}
use Rattle.unit.specs.declared.Controller.TheVariants.{First as FirstController, Second as SecondController}
use Rattle.board.specs.Ends.{end_of}
use Rattle.board.specs.Chain.{ran}
use Rattle.demands.specs.Visits.{fetched_by}
use Rattle.demands.proofs.HeldDrives.{block_keeps_controller}
use Rattle.demands.proofs.Keeps.{run_keeps, some_none}
use Rattle.independence.specs.Chains.{Both, Chain, First, Second, Which, events_of, host_of, leaving, run_of, world_for}
use Rattle.independence.specs.Controllers.{EachForItself}
use Rattle.board.specs.World.{World}

-- What is put back is found, and what is another's stays.
found_again : (t : Which) (c : Controller) (s : Both) (w : World) → w.controller ≡ c → world_for t c (leaving t c s w) ≡ w
found_again First FirstController s w is = λ i. record { controller = sym is i; host = w.host; drive0 = w.drive0; drive1 = w.drive1; events = w.events }
found_again First SecondController s w is = λ i. record { controller = sym is i; host = w.host; drive0 = w.drive0; drive1 = w.drive1; events = w.events }
found_again Second FirstController s w is = λ i. record { controller = sym is i; host = w.host; drive0 = w.drive0; drive1 = w.drive1; events = w.events }
found_again Second SecondController s w is = λ i. record { controller = sym is i; host = w.host; drive0 = w.drive0; drive1 = w.drive1; events = w.events }

other_memory : (t : Which) (c d : Controller) (s : Both) (w : World) → (c ≡ d → ⊥) → host_of (leaving t c s w) d ≡ host_of s d
other_memory t FirstController FirstController s w apart = absurd (apart refl)
other_memory First FirstController SecondController s w apart = refl
other_memory Second FirstController SecondController s w apart = refl
other_memory First SecondController FirstController s w apart = refl
other_memory Second SecondController FirstController s w apart = refl
other_memory t SecondController SecondController s w apart = absurd (apart refl)

other_events : (t u : Which) (c : Controller) (s : Both) (w : World) → (t ≡ u → ⊥) → events_of (leaving t c s w) u ≡ events_of s u
other_events First First c s w apart = absurd (apart refl)
other_events First Second FirstController s w apart = refl
other_events First Second SecondController s w apart = refl
other_events Second First FirstController s w apart = refl
other_events Second First SecondController s w apart = refl
other_events Second Second c s w apart = absurd (apart refl)

module _ (t : Which) (k : Chain) where
  abbrev left : Both → World
  left s = (ran k.first k.allowance (world_for t k.controller s)).world

  -- A run leaves its controller, so its own world afterwards is what it left.
  own_world : (s : Both) → world_for t k.controller ((run_of t k).left s) ≡ left s
  own_world s =
      let w = world_for t k.controller s in
      found_again t k.controller s (left s)
      (run_keeps (λ x. x.controller) k.first k.allowance w (λ v. ⊥) (λ v out. block_keeps_controller v) (some_none (fetched_by k.first k.allowance w)))

pub each_for_itself : EachForItself
each_for_itself t k s = (
  record {
    answers = refl;
    own = own_world t k s;
    memory = λ c apart. other_memory t k.controller c s (left t k s) apart;
    events = λ u apart. other_events t u k.controller s (left t k s) apart;
  },
  λ s' agree.
      record {
        answers = ap (λ (w : World). end_of (ran k.first k.allowance w)) agree;
        own = own_world t k s ∙ ap (λ (w : World). (ran k.first k.allowance w).world) agree ∙ sym (own_world t k s');
      },
)
