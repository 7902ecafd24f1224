-- A start that the volume does not have, and a number past its end, are refused by 16.
-- Where the unit has a landing the number is in the volume, and the heads go to its cylinder.
use mathlib.Core.Path.{sym, ◌∙◌}
use native.Mathlib.Omega.{arith}
use Rattle.unit.proofs.Answers.{at_landing, no_landing}
use Rattle.judge.proofs.Passing.{passed_on, stops_there}
use Rattle.judge.proofs.Tasks.{address_done, address_nowhere, address_past}
use Rattle.judge.proofs.judge_address.Goals as goal

pub returns-in_err-n : goal.returns-in_err-n
returns-in_err-n c host =
    stops_there _ _ c.ok_or.ensures.value c.in_err-n.was c.from_residual.ensures.1
    (λ none. address_nowhere _ _ _ host _ (sym c.number.ensures ∙ none))

pub returns-in_err-spot : goal.returns-in_err-spot
returns-in_err-spot c host =
    let begins = sym c.number.ensures ∙ passed_on _ _ c.ok_or.ensures.value c.in_ok-n.was in
    stops_there _ _ c.ok_or-2.ensures.value c.in_err-spot.was c.from_residual-in_err-spot.ensures.1
    (λ none. address_past _ _ _ host _ _ begins (no_landing _ _ _ (sym c.land.ensures ∙ none)))

pub returns : goal.returns
returns c host =
    let begins = sym c.number.ensures ∙ passed_on _ _ c.ok_or.ensures.value c.in_ok-n.was in
    let landed = at_landing _ _ _ _ (sym c.land.ensures ∙ passed_on _ _ c.ok_or-2.ensures.value c.in_ok-spot.was) in
    (rw landed.1 at c.only.ensures)
    ∙ sym (address_done _ _ _ host _ _ begins (omega (arith, landed)))
