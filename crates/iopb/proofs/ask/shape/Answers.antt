-- The test answers whether the UIB's 18 bytes lie in host memory, and on that the definition goes by cases.
-- Denied, the UIB is misplaced; granted, the bytes may be read, and what is read is the definition's.
use Rattle.std.proofs.Common.{Some}
use mathlib.Core.Path.{◌∙◌, ap, sym}
use native.Mathlib.Omega.{arith}
use Rattle.wire.specs.Memory.{InMemory}
use Rattle.wire.proofs.Promises.{says_no, says_yes}
use Rattle.iopb.proofs.Answers.{shape_at_inside, shape_at_outside}
use Rattle.iopb.proofs.ask.shape.Goals as goal

pub returns-then-not-holds_uib : goal.returns-then-not-holds_uib
returns-then-not-holds_uib c =
    let h = c.holds_uib in
    sym (shape_at_outside _ _ (says_no h.result _ c.if-not-holds_uib.true h.ensures))

pub uib-requires : goal.uib-requires
uib-requires c =
    let h = c.holds_uib in
    let place = says_yes h.result (InMemory _ _ _) c.if-not-holds_uib.false h.ensures in
    omega (arith, place.inside)

pub returns : goal.returns
returns c =
    let h = c.holds_uib in
    ap Some c.uib.ensures ∙ sym (shape_at_inside _ _ (says_yes h.result _ c.if-not-holds_uib.false h.ensures))
