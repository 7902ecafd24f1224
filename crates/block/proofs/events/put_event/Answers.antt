-- The bytes that were stored are those that the functions called answered, and they stand in a row.
-- The travel is stored as the 32 bits that hold it, and those are its complement.
use Prim.Native.Nat.{◌*◌}
use mathlib.Core.Path.{◌∙◌, ap, sym}
use mir.Syntax.{w32}
use mir.Val.{of_z}
use mir.ValLaws.{to_z-of_z}
use Rattle.block.proofs.Complement.{complement_held}
use Rattle.block.proofs.Entries.{entry_stored}
use Rattle.block.proofs.events.put_event.Goals as goal

pub returns : goal.returns
returns c =
    let a = c.args in
    entry_stored a.events.now (8 * a.i) a.b a.answer a.travel
    c.status-status.ensures c.error_byte-error.ensures c.level.ensures c.vector.ensures
    (c.cast_unsigned.ensures ∙ ap (of_z w32) (to_z-of_z w32 a.travel c.ranges.travel) ∙ sym (complement_held a.travel))
    c.put32.ensures
