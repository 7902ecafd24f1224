-- Where the block can be fetched and has room for its entry, it is the step.
-- Elsewhere nothing is touched.
use mathlib.Core.Path.{refl}
use native.Mathlib.Omega.{arith}
use Rattle.wire.proofs.Promises.{says_no, says_yes}
use Rattle.board.proofs.chain.run_one.Goals as goal

pub returns-then-not-holds_block : goal.returns-then-not-holds_block
returns-then-not-holds_block c =
    let held = c.holds_block in
    (λ f. says_no held.result _ c.if-not-holds_block.true held.ensures f.place, refl)

pub step-went-requires : goal.step-went-requires
step-went-requires c =
    let held = c.holds_block in
    let place = says_yes held.result _ c.if-not-holds_block.false held.ensures in
    (record { block = place.inside; entry = omega arith }, rw c.unasked.ensures (tt, tt))

pub returns : goal.returns
returns c =
    let held = c.holds_block in
    rw c.stepped_with.ensures (
      record { place = says_yes held.result _ c.if-not-holds_block.false held.ensures; entry = omega (arith, c.if-events-i.false) },
      c.step-went.ensures.to,
    )
