-- One order is the two calls in turn, and the other is the same with the chains exchanged.
-- The order that was asked for is the arm's, and is put into the definition last, so that what differs is told by the chains and not by all that they come to.
use mathlib.Core.Path.{sym, ap, ◌∙◌}
use Rattle.two_chains.proofs.Orders.{exchanged}
use Rattle.two_chains.specs.Orders.{both_of, chain_of, ran_both}
use Rattle.two_chains.specs.declared.Order.{Order}
use Rattle.two_chains.proofs.run_both.Goals as goal

pub returns-in-FirstThenSecond : goal.returns-in-FirstThenSecond
returns-in-FirstThenSecond c = rw c.in-FirstThenSecond.is c.in_turn.ensures

pub returns-in-SecondThenFirst : goal.returns-in-SecondThenFirst
returns-in-SecondThenFirst c =
    let a = c.args in
    let y = c.in_turn-exchanged in
    let l = y.new in
    let lent = both_of a.host1.now a.host2.now a.image0.now a.image1.now a.events1.now a.events2.now a.units.now in
    exchanged (chain_of a.one) (chain_of a.two) lent y.result
    (both_of l.host1 l.host2 l.image0 l.image1 l.events2 l.events1 l.units)
    y.ensures
    ∙ ap (λ (o : Order). ran_both o (chain_of a.one) (chain_of a.two) lent) (sym c.in-SecondThenFirst.is)
