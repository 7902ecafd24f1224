-- Two chains run one after the other, in each order, as the code hands them back.
use Rattle.std.specs.Prelude.{ℕ, List, ◌≡◌}
use Rattle.board.specs.declared.chain.Outcome.{Outcome}
use Rattle.board.specs.declared.Units.{Units}
use Rattle.two_chains.specs.declared.Chain.{Chain as Asked}
use Rattle.two_chains.specs.declared.Order.{Order}
use Rattle.two_chains.specs.declared.Order.TheVariants.{FirstThenSecond, SecondThenFirst}
use Rattle.two_chains.specs.declared.Twice.{Twice}
use Rattle.independence.specs.Chains.{Both, Chain, First, Second, Which, run_of}

-- What a caller lends: the memory of each controller, the two drives that they share, and an event buffer for each chain.
abbrev pub both_of : (host1 host2 image0 image1 events1 events2 : List ℕ) → Units → Both
both_of host1 host2 image0 image1 events1 events2 units =
    record {
      host1 = host1;
      host2 = host2;
      drive0 = record { unit = units.zero; image = image0 };
      drive1 = record { unit = units.one; image = image1 };
      events1 = events1;
      events2 = events2;
    }

abbrev pub chain_of : Asked → Chain
chain_of k = record { controller = k.controller; first = k.first; allowance = k.allowance }

-- What the first chain came to, what the second came to, and all that is left.
pub record RanBoth : Type 0 where
  pub first : Outcome
  pub second : Outcome
  pub left : Both

abbrev pub ran_both_of : Twice → Both → RanBoth
ran_both_of r s = record { first = r.first; second = r.second; left = s }

abbrev pub ran_both : Order → (one two : Chain) → Both → RanBoth
ran_both FirstThenSecond one two s =
    let first = run_of First one in
    let second = run_of Second two in
    record { first = first.out s; second = second.out (first.left s); left = second.left (first.left s) }
ran_both SecondThenFirst one two s =
    let first = run_of First one in
    let second = run_of Second two in
    record { first = first.out (second.left s); second = second.out s; left = first.left (second.left s) }

-- ---- one of the two

-- What is lent to one of two chains, whichever it is, and beside it the event buffer of the other.
abbrev pub lent_to : (host1 host2 image0 image1 events : List ℕ) → Units → Which → (other : List ℕ) → Both
lent_to host1 host2 image0 image1 events units First other =
    both_of host1 host2 image0 image1 events other units
lent_to host1 host2 image0 image1 events units Second other =
    both_of host1 host2 image0 image1 other events units

pub record RanOne : Type 0 where
  pub came : Outcome
  pub left : Both

abbrev pub ran_one_of : Outcome → Both → RanOne
ran_one_of r s = record { came = r; left = s }

abbrev pub ran_one : Which → Chain → Both → RanOne
ran_one t k s = record { came = (run_of t k).out s; left = (run_of t k).left s }

-- A call is the run of its chain, whichever of two it is and whatever the event buffer of the other.
abbrev pub IsRunOf : Chain → (before after : Which → List ℕ → Both) → Outcome → Type 0
IsRunOf k before after r = (t : Which) (other : List ℕ) → ran_one_of r (after t other) ≡ ran_one t k (before t other)
