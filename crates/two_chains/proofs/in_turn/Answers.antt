-- Two calls in a row, each on what the one before it left.
-- Each is its chain's step, with the event buffer of the other beside it.
use mathlib.Core.Path.{refl}
use Rattle.independence.specs.Chains.{First, Second}
use Rattle.two_chains.proofs.Orders.{first_then_second_lem}
use Rattle.two_chains.specs.Orders.{both_of, chain_of}
use Rattle.two_chains.proofs.in_turn.Goals as goal

pub returns : goal.returns
returns c =
    let a = c.args in
    let l = c.run_on_its_own-first.new in
    let m = c.run_on_its_own-second.new in
    first_then_second_lem (chain_of a.one) (chain_of a.two)
    (both_of a.host1.now a.host2.now a.image0.now a.image1.now a.events1.now a.events2.now a.units.now)
    (both_of l.host1 l.host2 l.image0 l.image1 l.events a.events2.now l.units)
    (both_of m.host1 m.host2 m.image0 m.image1 l.events m.events m.units)
    c.run_on_its_own-first.result c.run_on_its_own-second.result
    (c.run_on_its_own-first.ensures First a.events2.now) (c.run_on_its_own-second.ensures Second l.events)
    refl refl
