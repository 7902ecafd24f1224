-- A chain in legs. Between two legs the chain comes to what it comes to from where the last one stopped, with what is left and counted by then.
-- Each way out and the next turn is the law of a leg of that name; a leg's allowance is taken from what is left, so that this falls.
use mathlib.Core.Path.{◌∙◌, refl}
use native.Mathlib.Omega.{arith}
use Rattle.wire.proofs.Promises.{says_no, says_yes}
use Rattle.board.specs.Run.{world_of}
use Rattle.board.proofs.Legs.{between_last, between_on, spare_fewer}
use Rattle.board.proofs.Chains.{ended_the_same}
use Rattle.board.proofs.chain.legs.Goals as goal

pub loop-rest-init : goal.loop-rest-init
loop-rest-init c =
    let pre = c.requires in
    (record { comes = refl; spare = pre.0; knows = pre.1 }, refl, refl, refl, refl)

pub fetch-leg-requires : goal.fetch-leg-requires
fetch-leg-requires c =
    let n = c.loop-rest in
    (spare_fewer n.events 8 n.rest n.tally (omega (arith, c.loop-rest-test.true)) n.invariant.0.spare, n.invariant.0.knows)

pub returns-then-not-is_spent : goal.returns-then-not-is_spent
returns-then-not-is_spent c =
    let n = c.loop-rest in
    let a = c.args in
    let f = c.fetch-leg in
    let w = world_of a.c n.host n.image0 n.image1 n.events n.units in
    let w' = world_of a.c f.new.host f.new.image0 f.new.image1 f.new.events f.new.units in
    between_last 8 _ w n.known n.from n.rest n.tally (omega (arith, c.loop-rest-test.true)) n.invariant.0 w' f.result f.ensures
    (says_no c.is_spent.result _ c.if-not-is_spent.true c.is_spent.ensures)

pub overflow_sub-rest : goal.overflow_sub-rest
overflow_sub-rest c = omega (arith, c.loop-rest-test.true)

pub loop-rest-smaller : goal.loop-rest-smaller
loop-rest-smaller c = omega (arith, c.loop-rest-test.true)

pub loop-rest-preserved : goal.loop-rest-preserved
loop-rest-preserved c =
    let n = c.loop-rest in
    let a = c.args in
    let f = c.fetch-leg in
    let w = world_of a.c n.host n.image0 n.image1 n.events n.units in
    let w' = world_of a.c f.new.host f.new.image0 f.new.image1 f.new.events f.new.units in (
      between_on 8 _ w n.known n.from n.rest n.tally (omega (arith, c.loop-rest-test.true)) n.invariant.0 w' f.result f.ensures
          (says_yes c.is_spent.result _ c.if-not-is_spent.false c.is_spent.ensures) f.auto.events,
      f.auto.host ∙ n.invariant.1,
      f.auto.image0 ∙ n.invariant.2,
      f.auto.image1 ∙ n.invariant.3,
      f.auto.events ∙ n.invariant.4,
    )

pub fetch-leg-requires-2 : goal.fetch-leg-requires-2
fetch-leg-requires-2 c =
    let inv = c.loop-rest.invariant.0 in
    (inv.spare, inv.knows)

pub returns : goal.returns
returns c =
    let f = c.fetch-leg-2 in
    ended_the_same _ _ _ f.result.end c.loop-rest.invariant.0.comes f.ensures.ended
