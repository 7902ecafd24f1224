-- The records that stand in the bytes go in, and board's step comes out as bytes again.
-- Where the block cannot be fetched nothing was touched, since there is room for its entry.
use Rattle.abi.specs.Calls.{lent_of}
use Rattle.abi.proofs.Stepping.{none_is, once_is}
use Rattle.abi.proofs.step.step.Goals as goal

pub unit_in-requires : goal.unit_in-requires
unit_in-requires c = (c.requires.0, c.unread_units-units.ensures.0)

pub unit_in-requires-2 : goal.unit_in-requires-2
unit_in-requires-2 c = (c.requires.1.0, c.unread_units-units.ensures.1)

pub leave-requires : goal.leave-requires
leave-requires c =
    let pre = c.requires in
    (pre.0, (pre.1.0, pre.1.1.0))

pub returns-in-Some : goal.returns-in-Some
returns-in-Some c =
    let a = c.args in
    once_is a.c a.at a.i
    (lent_of a.host.now a.image0.now a.image1.now a.events.now a.record0.now a.record1.now a.stepped.now)
    (record { zero = c.unit_in.new.u; one = c.unit_in-2.new.u }) _ _ c.run_one-done.new.units c.unit_in.ensures c.unit_in-2.ensures
    c.in-Some.is c.run_one-done.ensures c.leave.ensures.zero c.leave.ensures.one c.leave.ensures.told

pub returns-in-None : goal.returns-in-None
returns-in-None c =
    let a = c.args in
    rw (c.from.ensures, c.number.ensures) (
    none_is a.c a.at a.i
    (lent_of a.host.now a.image0.now a.image1.now a.events.now a.record0.now a.record1.now a.stepped.now)
    (record { zero = c.unit_in.new.u; one = c.unit_in-2.new.u }) _ c.run_one-done.new.units c.requires.1.1.1 c.in-None.is c.run_one-done.ensures)
