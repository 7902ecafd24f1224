-- The record to leave stands in the bytes, or it does not: the test says which, and that picks the side of the definition.
-- That each of the bytes is one was known when they were compared.
use Rattle.abi.specs.Unread.{filled_in}
use Rattle.abi.proofs.Left.{left_anew, left_as_it_came}
use Rattle.wire.proofs.Promises.{says_no, says_yes}
use mathlib.Core.Path.{sym, ◌∙◌}
use borrow.Author.Rules.{rules}
use Rattle.abi.proofs.layouts.leave_record.Goals as goal

pub put_record-requires : goal.put_record-requires
put_record-requires c = (search rules, c.stands_in.ensures.bytes)

pub returns-then-not-stands_in : goal.returns-then-not-stands_in
returns-then-not-stands_in c =
    let a = c.args in
    let asked = c.stands_in in
    let bytes = a.bytes.now in
    c.put_record.ensures ∙
    sym (left_anew bytes (filled_in bytes a.u.now) (says_no asked.result _ c.if-not-stands_in.true asked.ensures.fact))

pub returns-else-not-stands_in : goal.returns-else-not-stands_in
returns-else-not-stands_in c =
    let a = c.args in
    let asked = c.stands_in in
    let bytes = a.bytes.now in
    sym (left_as_it_came bytes (filled_in bytes a.u.now) (says_yes asked.result _ c.if-not-stands_in.false asked.ensures.fact))
