-- What was read decides: a refusal is handed on, and of a unit that counts the geometry says what its image needs.
-- Both are cases of what the call comes to by a reading.
use native.Mathlib.Omega.{arith}
use Rattle.abi.proofs.Readings.{needed_read, read_short}
use Rattle.abi.proofs.places.vsmd_image_need.Goals as goal

pub returns-then-not-holds_record : goal.returns-then-not-holds_record
returns-then-not-holds_record c = rw c.code.ensures (needed_read _ _ (read_short _ (omega arith)))

pub read-requires : goal.read-requires
read-requires c = (omega arith, c.unread-u.ensures)

pub returns-in-Ok : goal.returns-in-Ok
returns-in-Ok c = rw (c.need.ensures, c.geometry.ensures) (needed_read _ _ (rw c.in-Ok.is at c.read.ensures))

pub returns-in-Err : goal.returns-in-Err
returns-in-Err c = rw c.code-in-Err.ensures (needed_read _ _ (rw c.in-Err.is at c.read.ensures))
