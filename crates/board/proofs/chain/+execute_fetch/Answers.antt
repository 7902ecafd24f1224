-- The cycle of fetch and execute. A fetch has one more of the allowance than the block that it leads to, so the measure falls.
-- Each way out is the chain's law of that name; the world is carried along by the block's own promise.
use mathlib.Core.Path.{◌≡◌, ap}
use native.Mathlib.Omega.{arith}
use Prim.Native.Nat.{ℕ, ◌+◌, ◌-◌}
use Rattle.answers.specs.declared.RunAnswer.{RunAnswer}
use Rattle.wire.proofs.Promises.{says_no, says_yes}
use Rattle.board.specs.Chain.{fetched}
use Rattle.board.specs.Run.{world_of}
use Rattle.board.specs.Steps.{next_at}
use Rattle.board.proofs.Chains.{executed_on, fetched_bad, fetched_on, fetched_spent}
use Rattle.board.proofs.Legs.{bad_unspent, next_spent, next_stepped, went_in, went_the_same}
use Rattle.board.proofs.chain.+execute_fetch.Goals as goal

pub execute-returns-then-s : goal.execute-returns-then-s
execute-returns-then-s t c =
    let a = c.args in
    let s = c.step-step in
    let n = s.new in
    let w = (world_of a.c a.host.now a.image0.now a.image1.now a.events.now a.units.now) in
    let w' = (world_of a.c n.host n.image0 n.image1 n.events n.units) in
    went_the_same _ _ _ _ _ c.fetch.result
    (executed_on (fetched a.left) a.count a.at w w' _ s.ensures.to c.in-Ok.is c.if-s.true)
    (next_stepped a.left a.count a.at w w' _ s.ensures.to)
    (rw c.counted-count.ensures at c.fetch.ensures)

pub fetch-returns-then-left-eq0 : goal.fetch-returns-then-left-eq0
fetch-returns-then-left-eq0 t c =
    let a = c.args in
    let w = (world_of a.c a.host.now a.image0.now a.image1.now a.events.now a.units.now) in
    rw c.stopped.ensures
    (went_in RunAnswer.AllowanceSpent 0 a.count a.at a.learnt w _ _
    (fetched_spent a.left a.count a.at w c.if-left-eq0.true)
    (λ spent. next_spent a.left a.count a.at w c.if-left-eq0.true) c.requires.1 c.requires.0.sectors)

pub fetch-returns-then-not-holds_block : goal.fetch-returns-then-not-holds_block
fetch-returns-then-not-holds_block t c =
    let a = c.args in
    let w = (world_of a.c a.host.now a.image0.now a.image1.now a.events.now a.units.now) in
    let held = c.holds_block in
    rw c.stopped-then-not-holds_block.ensures
    (went_in RunAnswer.LinkBad 0 a.count a.at a.learnt w _ _
    (fetched_bad a.left a.count a.at w (omega arith) (says_no held.result _ c.if-not-holds_block.true held.ensures))
    (λ spent. absurd (bad_unspent spent)) c.requires.1 c.requires.0.sectors)

pub fetch-returns : goal.fetch-returns
fetch-returns t c =
    let a = c.args in
    let w = (world_of a.c a.host.now a.image0.now a.image1.now a.events.now a.units.now) in
    let held = c.holds_block in
    let one : a.left ≡ a.left - 1 + 1 = omega arith in
    went_the_same _ _ _ _ _ c.execute.result
    (fetched_on a.left a.count a.at w (omega (arith, c.if-left-eq0.false)) (says_yes held.result _ c.if-not-holds_block.false held.ensures))
    (ap (λ (n : ℕ). next_at n a.count a.at w) one)
    c.execute.ensures
