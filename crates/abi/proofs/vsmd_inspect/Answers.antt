-- A record that is too short is met before anything is stored.
-- Past both tests the part is board's, of the records that stand in the bytes.
use Rattle.abi.proofs.Called.{inspection_made, inspection_refused_0, inspection_refused_1}
use Rattle.abi.proofs.AsRead.{part_as_read}
use native.Mathlib.Omega.{arith}
use mathlib.Core.Path.{sym}
use Rattle.abi.proofs.vsmd_inspect.Goals as goal

pub returns-then-record0-lt-RECORD_LEN : goal.returns-then-record0-lt-RECORD_LEN
returns-then-record0-lt-RECORD_LEN c =
    let a = c.args in
    rw c.code.ensures (sym (inspection_refused_0 a.record0.now a.record1.now a.long0 a.long1 a.unit a.place _ _ _ (omega arith)))

pub returns-then-record1-lt-RECORD_LEN : goal.returns-then-record1-lt-RECORD_LEN
returns-then-record1-lt-RECORD_LEN c =
    let a = c.args in
    rw c.code-then-record1-lt-RECORD_LEN.ensures (sym (inspection_refused_1 a.record0.now a.record1.now a.long0 a.long1 a.unit a.place _ _ _ (omega arith) (omega arith)))

pub unit_in-requires : goal.unit_in-requires
unit_in-requires c = (omega arith, c.unread_units-units.ensures.0)

pub unit_in-requires-2 : goal.unit_in-requires-2
unit_in-requires-2 c = (omega arith, c.unread_units-units.ensures.1)

pub returns : goal.returns
returns c =
    let a = c.args in
    let part = part_as_read a.record0.now a.record1.now a.long0 a.long1 a.unit a.place in
    rw (
      inspection_made a.record0.now a.record1.now a.long0 a.long1 a.unit a.place a.image.now a.at.now a.bytes.now (omega arith) (omega arith),
      c.image_number.ensures,
      c.part_of-part.ensures,
      c.unit_in.ensures,
      c.unit_in-2.ensures,
      part,
    )
