-- The number's three cases are the definition's.
-- Each is a law of Parts, met at the number that the code's match has found.
use mathlib.Core.Path.{sym, ◌∙◌}
use Rattle.board.proofs.Parts.{of_no_unit, of_unit_one, of_unit_zero}
use Rattle.board.proofs.inspection.part_of.Goals as goal

pub returns-in-0 : goal.returns-in-0
returns-in-0 c =
    let a = c.args in
    rw c.in-0.is
    (c.sector_part.ensures ∙ sym (of_unit_zero a.units.now.zero a.units.now.one a.long0 a.long1 a.place))

pub returns-in-1 : goal.returns-in-1
returns-in-1 c =
    let a = c.args in
    rw c.in-1.is
    (c.sector_part-in-1.ensures ∙ sym (of_unit_one a.units.now.zero a.units.now.one a.long0 a.long1 a.place))

pub returns-in_default : goal.returns-in_default
returns-in_default c =
    let none = c.in_default.in_default-own.rest in
    c.no_part.ensures ∙ sym (of_no_unit _ _ _ _ _ _ none.0.1 none.1)
