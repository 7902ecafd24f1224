-- The opening and what it wants after it are read one after the other; less is read only where less is there.
-- The buffer has room for both, and no opening wants less than itself.
use Rattle.std.proofs.Common.{arith, ◌≡◌, ◌-◌, ◌++◌, length, length-take, length-append, length-drop, drop}
use Rattle.std.proofs.lemmas.Result.{on_ok_weaker}
use Rattle.session.proofs.Fields.{both_read, cut_read, whole_read}
use Rattle.session.proofs.read_field.Goals as goal

pub returns-then-opening-lt3-clause-field : goal.returns-then-opening-lt3-clause-field
returns-then-opening-lt3-clause-field g c =
    let three : length c.read_full-opening.new.buffer ≡ 3 = omega (arith, c.read_full-opening.auto.buffer, length-take 3 c.args.field.now) in
    on_ok_weaker _ (cut_read _ _ c.read_full-opening.result.bytes c.read_full-opening.new.buffer _ c.if-opening-lt3.true three)
    c.read_full-opening.ensures.full

pub returns-clause-bytes : goal.returns-clause-bytes
returns-clause-bytes g c =
    let three : length c.read_full-opening.new.buffer ≡ 3 = omega (arith, c.read_full-opening.auto.buffer, length-take 3 c.args.field.now) in
    both_read _ _ _ c.read_full-opening.result.bytes c.read_full-rest.result.bytes c.wanted-wanted.result c.read_full-opening.new.buffer _
    c.read_full-rest.new.buffer c.if-opening-lt3.false three c.read_full-rest.ensures.within
    (omega (arith, length-append c.read_full-opening.new.buffer (drop 3 c.args.field.now))) c.read_full-opening.ensures.bytes c.read_full-rest.ensures.bytes

pub returns-clause-field : goal.returns-clause-field
returns-clause-field g c =
    let three : length c.read_full-opening.new.buffer ≡ 3 = omega (arith, c.read_full-opening.auto.buffer, length-take 3 c.args.field.now) in
    let opened = c.read_full-opening.new.buffer ++ drop 3 c.args.field.now in
    on_ok_weaker _
    (whole_read _ _ _ c.read_full-opening.result.bytes c.read_full-rest.result.bytes c.wanted-wanted.result c.read_full-opening.new.buffer _
    c.read_full-rest.new.buffer c.if-opening-lt3.false three c.read_full-rest.ensures.within
    (omega (arith, length-append c.read_full-opening.new.buffer (drop 3 c.args.field.now))) c.wanted-wanted.ensures
    (omega (arith, c.read_full-rest.auto.buffer, length-take (c.wanted-wanted.result - 3) (drop 3 opened), length-drop 3 opened))
    c.read_full-opening.ensures.bytes)
    c.read_full-rest.ensures.full
