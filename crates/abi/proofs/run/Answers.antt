-- The records that stand in the bytes go in, and board's run comes out as bytes again.
-- What each function stored is the part of the definition that bears its name.
use Rattle.abi.proofs.Called.{made_is}
use Rattle.abi.specs.Calls.{lent_of}
use Rattle.abi.proofs.run.Goals as goal

pub unit_in-requires : goal.unit_in-requires
unit_in-requires c = (c.requires.0, c.unread_units-units.ensures.0)

pub unit_in-requires-2 : goal.unit_in-requires-2
unit_in-requires-2 c = (c.requires.1.0, c.unread_units-units.ensures.1)

pub leave_record-requires : goal.leave_record-requires
leave_record-requires c = c.requires.0

pub leave_record-requires-2 : goal.leave_record-requires-2
leave_record-requires-2 c = c.requires.1.0

pub put_outcome-requires : goal.put_outcome-requires
put_outcome-requires c = c.requires.1.1

pub returns : goal.returns
returns c =
    let a = c.args in
    rw c.from.ensures (
    made_is a.c a.first a.allowance
    (lent_of a.host.now a.image0.now a.image1.now a.events.now a.record0.now a.record1.now a.outcome.now)
    (record { zero = c.unit_in.new.u; one = c.unit_in-2.new.u }) c.unit_in.ensures c.unit_in-2.ensures c.run-done.ensures c.leave_record.ensures c.leave_record-2.ensures
    c.number-number.ensures c.put_outcome.ensures)
