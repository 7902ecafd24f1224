-- Checks 22 and 23, the first passed before the second is asked.
-- Both go by the numbers of the two tracks, and what they leave is the plan.
use mathlib.Core.Path.{sym, ◌∙◌}
use Rattle.spares.specs.Table.{Free}
use Rattle.unit.specs.Standing.{pairs, table}
use Rattle.wire.specs.Promise.{Says}
use Rattle.wire.proofs.Promises.{says_no, says_yes}
use Rattle.judge.specs.Given.{bad_number, spare_number}
use Rattle.judge.proofs.Tasks.{table_22, table_23, table_done}
use Rattle.judge.proofs.judge_pair.Goals as goal

pub returns-then-not-are_free : goal.returns-then-not-are_free
returns-then-not-are_free c host =
    let Untaken : Type 0 = let u = c.args.standing.unit.now in
    Free (pairs u) (table u) (bad_number c.args.k) (spare_number c.args.k) in
    let free : Says c.are_free.result Untaken = rw (c.pairs.ensures, c.number-bad.ensures, c.number-spare.ensures) at c.are_free.ensures in
    sym (table_22 _ _ _ host _ (says_no c.are_free.result _ c.if-not-are_free.true free))

pub returns-then-pairs-ge32 : goal.returns-then-pairs-ge32
returns-then-pairs-ge32 c host =
    let Untaken : Type 0 = let u = c.args.standing.unit.now in
    Free (pairs u) (table u) (bad_number c.args.k) (spare_number c.args.k) in
    let free : Says c.are_free.result Untaken = rw (c.pairs.ensures, c.number-bad.ensures, c.number-spare.ensures) at c.are_free.ensures in
    let untaken : Untaken = says_yes c.are_free.result _ c.if-not-are_free.false free in
    sym
    (table_23 _ _ _ host _ untaken
    (rw c.pairs-2.ensures at c.if-pairs-ge32.true))

pub returns : goal.returns
returns c host =
    let Untaken : Type 0 = let u = c.args.standing.unit.now in
    Free (pairs u) (table u) (bad_number c.args.k) (spare_number c.args.k) in
    let free : Says c.are_free.result Untaken = rw (c.pairs.ensures, c.number-bad.ensures, c.number-spare.ensures) at c.are_free.ensures in
    let untaken : Untaken = says_yes c.are_free.result _ c.if-not-are_free.false free in
    (cc) ∙ sym (table_done _ _ _ host _ untaken (rw c.pairs-2.ensures at c.if-pairs-ge32.false))
