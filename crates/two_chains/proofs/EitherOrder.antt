-- Of independent chains, what the promises of `run_both` and of two calls of board's `run` allow is the same in both orders.
-- Each promise is an equation with the definition of a run, of which demand 3 says it.
use mathlib.Core.Path.{◌≡◌, sym, ap, ◌∙◌}
use Rattle.board.specs.declared.chain.Outcome.{Outcome}
use Rattle.board.specs.Chain.{Ending, ran}
use Rattle.board.specs.World.{World}
use Rattle.board.proofs.run.Reads as run
use Rattle.independence.specs.Chains.{Both, Chain, First, Second, Which, leaving, run_of, world_for}
use Rattle.independence.proofs.Demand3.{either_way, first_same, left_same, second_same}
use Rattle.two_chains.specs.EitherOrder.{BothAsked, OrdersAlike, RunAsked, TwoCallsAlike, asks_on}
use Rattle.two_chains.specs.Orders.{both_of, chain_of, ran_both, ran_both_of}
use Rattle.two_chains.proofs.Orders.{orders_are_one}
use Rattle.two_chains.proofs.run_both.Reads as run-both
use Rattle.board.specs.Run.{CameTo, outcome_of, world_of}

run_both_in_either_order :
    OrdersAlike run-both.Post
    (λ κ a.
    record {
      order = a.1.1.1.1.1.1.1.0;
      one = chain_of a.1.1.1.1.1.1.1.1.0;
      two = chain_of a.1.1.1.1.1.1.1.1.1.0;
      lent = both_of a.0.now a.1.0.now a.1.1.0.now a.1.1.1.0.now a.1.1.1.1.0.now a.1.1.1.1.1.0.now a.1.1.1.1.1.1.0.now;
    })
    (λ κ x e.
    ran_both_of x
    (both_of e.0.now e.1.0.now e.1.1.0.now e.1.1.1.0.now e.1.1.1.1.0.now e.1.1.1.1.1.0.now e.1.1.1.1.1.1.0.now))
run_both_in_either_order one two s apart κ κ' a b x y e f o p here there first second =
    first
    ∙ ap (λ (k : BothAsked). ran_both k.order k.one k.two k.lent) here
    ∙ orders_are_one one two s apart o p
    ∙ sym (ap (λ (k : BothAsked). ran_both k.order k.one k.two k.lent) there)
    ∙ sym second

-- ---- two calls of the run

-- A call that is asked for a chain comes to what the chain does, and leaves what it leaves.
module _
    (t : Which) (k : Chain) (s : Both) (asked : RunAsked) (is : asked ≡ asks_on t k s) (r : Outcome) (w : World)
    (came : CameTo (ran asked.first asked.allowance asked.lent) w r) where
  ends : ran asked.first asked.allowance asked.lent ≡ ran k.first k.allowance (world_for t k.controller s)
  ends = ap (λ (q : RunAsked). ran q.first q.allowance q.lent) is

  comes_so : r ≡ (run_of t k).out s
  comes_so = came.result ∙ ap outcome_of ends

  leaves_so : leaving t k.controller s w ≡ (run_of t k).left s
  leaves_so = ap (leaving t k.controller s) (came.world ∙ ap (λ (e : Ending). e.world) ends)

two_runs_in_either_order :
    TwoCallsAlike run.Post
    (λ κ a.
    record {
      first = a.1.1.1.1.1.1.0;
      allowance = a.1.1.1.1.1.1.1.0;
      lent = world_of a.1.1.1.1.1.0 a.0.now a.1.0.now a.1.1.0.now a.1.1.1.0.now a.1.1.1.1.0.now;
    })
    (λ κ a x e.
    record {
      came = x;
      left = world_of a.1.1.1.1.1.0 e.0.now e.1.0.now e.1.1.0.now e.1.1.1.0.now e.1.1.1.1.0.now;
    })
two_runs_in_either_order one two s apart κ₁ κ₂ κ₃ κ₄ a₁ a₂ a₃ a₄ x₁ x₂ x₃ x₄ e₁ e₂ e₃ e₄ g₁ g₂ g₃ g₄ p₁ p₂ p₃ p₄ =
    let either = either_way one two s apart in
    let after-first = leaving First one.controller s (world_of a₁.1.1.1.1.1.0 e₁.0.now e₁.1.0.now e₁.1.1.0.now e₁.1.1.1.0.now e₁.1.1.1.1.0.now) in
    let after-second = leaving Second two.controller s (world_of a₃.1.1.1.1.1.0 e₃.0.now e₃.1.0.now e₃.1.1.0.now e₃.1.1.1.0.now e₃.1.1.1.1.0.now) in
    let first-left = leaves_so First one s _ g₁ x₁ _ p₁ in
    let second-left = leaves_so Second two s _ g₃ x₃ _ p₃ in
    record {
      of_first =
          comes_so First one s _ g₁ x₁ _ p₁ ∙ first_same one two s either ∙ sym (ap (run_of First one).out second-left) ∙ sym (comes_so First one after-second _ g₄ x₄ _ p₄);
      of_second =
          comes_so Second two after-first _ g₂ x₂ _ p₂ ∙ ap (run_of Second two).out first-left ∙ second_same one two s either ∙ sym (comes_so Second two s _ g₃ x₃ _ p₃);
      left =
          leaves_so Second two after-first _ g₂ x₂ _ p₂
          ∙ ap (run_of Second two).left first-left
          ∙ left_same one two s either
          ∙ sym (ap (run_of First one).left second-left)
          ∙ sym (leaves_so First one after-second _ g₄ x₄ _ p₄);
    }
