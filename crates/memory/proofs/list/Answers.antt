-- The list's number and place are tested first, so that the pass over it reads no byte outside memory.
-- A number or a place that is not good is no good list's; the pass says the rest.
use Rattle.wire.specs.Memory.{InMemory}
use Rattle.wire.proofs.Promises.{says_no, says_yes}
use Rattle.memory.proofs.list.Goals as goal

pub returns-then-not-number_is_good : goal.returns-then-not-number_is_good
returns-then-not-number_is_good c =
    let n = c.number_is_good in
    λ l. says_no n.result _ c.if-not-number_is_good.true n.ensures (l.some, l.most)

pub returns-then-not-holds : goal.returns-then-not-holds
returns-then-not-holds c =
    let h = c.holds in
    λ l. says_no h.result _ c.if-not-holds.true h.ensures l.place

pub pass_over-requires : goal.pass_over-requires
pass_over-requires c =
    let n = c.number_is_good in
    let h = c.holds in
    let number = says_yes n.result _ c.if-not-number_is_good.false n.ensures in
    (number.0, number.1, says_yes h.result (InMemory _ _ _) c.if-not-holds.false h.ensures)
