-- "Answers of one controller depend on nothing else of the other than what is shared and the holder" (02, K10), over the state of two chains, each run
-- by either controller: the memories of both, an event buffer for each chain, and the drives, holders and all.
use Rattle.std.specs.Prelude.{◌≡◌}
use Rattle.unit.specs.declared.Controller.{Controller}
use Rattle.board.specs.Ends.{end_of}
use Rattle.board.specs.Chain.{ran}
use Rattle.independence.specs.Chains.{Both, Chain, Which, events_of, host_of, run_of, world_for}

-- A run is that of its controller on its own memory and event buffer and on the drives: what it answers and counts, and what it leaves of these; and
-- of the other's it leaves the memory and the events as they were.
pub record ForItself (t : Which) (k : Chain) (s : Both) : Type 0 where
  pub answers : (run_of t k).out s ≡ end_of (ran k.first k.allowance (world_for t k.controller s))
  pub own : world_for t k.controller ((run_of t k).left s) ≡ (ran k.first k.allowance (world_for t k.controller s)).world
  pub memory : (c : Controller) → (k.controller ≡ c → ⊥) → host_of ((run_of t k).left s) c ≡ host_of s c
  pub events : (u : Which) → (t ≡ u → ⊥) → events_of ((run_of t k).left s) u ≡ events_of s u

-- So two states that agree on its own memory and event buffer and on the drives lead it to the same, whatever else they hold.
pub record LedAlike (t : Which) (k : Chain) (s s' : Both) : Type 0 where
  pub answers : (run_of t k).out s ≡ (run_of t k).out s'
  pub own : world_for t k.controller ((run_of t k).left s) ≡ world_for t k.controller ((run_of t k).left s')

abbrev pub EachForItself : Type 0
EachForItself =
    (t : Which) (k : Chain) (s : Both) →
    ForItself t k s × ((s' : Both) → world_for t k.controller s ≡ world_for t k.controller s' → LedAlike t k s s')
