-- Turn by turn what will have been written stays the same; it has been written where no turn comes.
use Rattle.std.proofs.Common.{arith, refl, sym, subst, ◌+◌, ◌-◌, inl, inr}
use Rattle.session.proofs.Sessions.{all_turns, played_from_zeros}
use Rattle.session.proofs.Turns.{turn_by_turn}
use Rattle.session.specs.Told.{IsLast}
use Rattle.transcript.specs.declared.Next.TheVariants.{On}
use Rattle.session.proofs.play.Goals as goal

pub loop-turn-preserved : goal.loop-turn-preserved
loop-turn-preserved g c =
    turn_by_turn _ all_turns c.loop-turn.turn (On c.loop-turn.s) _ (On c.in-On.later) _ _ _ _ _ _ c.loop-turn-test.true c.loop-turn.invariant
    c.in_ok-next.ensures c.in-On.is

pub returns-in-Over : goal.returns-in-Over
returns-in-Over g c =
    let turn = c.loop-turn.turn in
    let came = c.in_ok-next.next in
    played_from_zeros c.start-s.result c.units-units.result _ _ _ _ (all_turns - (turn + 1)) came _ c.start-s.ensures c.units-units.ensures
    (turn_by_turn _ all_turns turn (On c.loop-turn.s) came came _ _ _ _ _ _ c.loop-turn-test.true c.loop-turn.invariant c.in_ok-next.ensures refl)
    (inr (elim c.in-Over.is [
      | inl over ↦ subst IsLast (sym over) tt
      | inr no_room ↦ subst IsLast (sym no_room) tt
    ]))

pub returns : goal.returns
returns g c =
    played_from_zeros c.start-s.result c.units-units.result _ _ _ _ (all_turns - c.loop-turn.turn) (On c.loop-turn.s) _ c.start-s.ensures c.units-units.ensures c.loop-turn.invariant
    (inl (omega (arith, c.loop-turn-test.false)))
