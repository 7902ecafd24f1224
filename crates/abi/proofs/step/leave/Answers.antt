-- Two records and sixteen bytes are left, each by its own function.
-- What these bytes tell is what the step told, as numbers.
use Rattle.abi.proofs.step.leave.Goals as goal

pub put_outcome-requires : goal.put_outcome-requires
put_outcome-requires c = c.requires.1.1

pub returns : goal.returns
returns c =
    record { zero = c.leave_record.ensures; one = c.leave_record-2.ensures; told = rw (c.put_outcome.ensures, c.from.ensures, c.block_number.ensures, c.flag-follow.ensures, c.goes_on.ensures) }
