-- What was read decides: a refusal is handed on, and of a unit that counts the sector is looked for.
-- The unit lands it as the one that stands in the bytes does, on whose drive every landing is.
use Rattle.std.proofs.Common.{Ok}
use mathlib.Core.Path.{ap, sym, ◌∙◌}
use native.Mathlib.Omega.{arith}
use Rattle.unit.specs.Standing.{UnitRecord}
use Rattle.abi.specs.Places.{located_of}
use Rattle.abi.specs.Readings.{lands_as}
use Rattle.abi.proofs.AsRead.{lands_as_read}
use Rattle.abi.proofs.Readings.{lands_on_drive, located_read, read_short, read_so}
use Rattle.abi.proofs.places.locate.Goals as goal

pub returns-then-not-holds_record : goal.returns-then-not-holds_record
returns-then-not-holds_record c = rw c.code.ensures (located_read _ _ _ (read_short _ (omega arith)))

pub read-requires : goal.read-requires
read-requires c = (omega arith, c.unread-u.ensures)

pub stand-requires : goal.stand-requires
stand-requires c =
    λ s is.
    let wanted = c.args.wanted in
    rw c.geometry.ensures (lands_on_drive _ s wanted (sym c.lands.ensures ∙ is))

pub returns-in-Ok : goal.returns-in-Ok
returns-in-Ok c =
    let a = c.args in
    let held = located_of 0 a.place.now a.first.now a.mark.now in
    let so = sym (rw c.in-Ok.is at c.read.ensures) in
    let is = read_so a.record.now so in
    c.stand.ensures ∙ rw (c.geometry.ensures, c.lands.ensures, is, lands_as_read a.record.now a.wanted)
    (located_read a.record.now (lands_as a.wanted) held (sym (so ∙ ap (λ (u : UnitRecord). Ok u) is)))

pub returns-in-Err : goal.returns-in-Err
returns-in-Err c = rw c.code-in-Err.ensures (located_read _ _ _ (rw c.in-Err.is at c.read.ensures))
