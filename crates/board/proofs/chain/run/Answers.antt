-- The checks in their order, each by its law; then the chain.
-- What the chain ends with is what the run came to.
use native.Mathlib.Omega.{arith}
use Rattle.answers.specs.declared.RunAnswer.{RunAnswer}
use Rattle.wire.proofs.Promises.{says_no, says_yes}
use Rattle.board.proofs.Chains.{came_refused, came_to, ended_the_same}
use Rattle.board.proofs.Runs.{ran_allowance_bad, ran_chain, ran_events_short, ran_first_bad}
use Rattle.board.specs.Run.{world_of}
use Rattle.board.proofs.chain.run.Goals as goal

pub returns-then-not-holds_entries : goal.returns-then-not-holds_entries
returns-then-not-holds_entries c =
    let a = c.args in
    let w = (world_of a.c a.host.now a.image0.now a.image1.now a.events.now a.units.now) in
    let room = c.holds_entries in
    let none = says_no room.result _ c.if-not-holds_entries.true room.ensures in
    rw c.refused.ensures
    (came_refused RunAnswer.EventsShort w _ (ran_events_short a.first a.allowance w (omega arith)))

pub returns-then-not-is_allowance : goal.returns-then-not-is_allowance
returns-then-not-is_allowance c =
    let a = c.args in
    let w = (world_of a.c a.host.now a.image0.now a.image1.now a.events.now a.units.now) in
    let room = c.holds_entries in
    let allowed = c.is_allowance in
    rw c.refused-then-not-is_allowance.ensures
    (came_refused RunAnswer.AllowanceBad w _
    (ran_allowance_bad a.first a.allowance w (says_yes room.result _ c.if-not-holds_entries.false room.ensures) (says_no allowed.result _ c.if-not-is_allowance.true allowed.ensures)))

pub returns-then-not-holds_block : goal.returns-then-not-holds_block
returns-then-not-holds_block c =
    let a = c.args in
    let w = (world_of a.c a.host.now a.image0.now a.image1.now a.events.now a.units.now) in
    let room = c.holds_entries in
    let allowed = c.is_allowance in
    let held = c.holds_block in
    rw c.refused-then-not-holds_block.ensures
    (came_refused RunAnswer.FirstBad w _
    (ran_first_bad a.first a.allowance w
    (says_yes room.result _ c.if-not-holds_entries.false room.ensures)
    (says_yes allowed.result _ c.if-not-is_allowance.false allowed.ensures)
    (says_no held.result _ c.if-not-holds_block.true held.ensures)))

pub legs-requires : goal.legs-requires
legs-requires c =
    let room = c.holds_entries in
    let allowed = c.is_allowance in
    let long = says_yes room.result _ c.if-not-holds_entries.false room.ensures in
    let few = says_yes allowed.result _ c.if-not-is_allowance.false allowed.ensures in
    rw (c.unasked.ensures, c.nothing.ensures) (record { entries = omega arith; blocks = omega arith; sectors = omega arith }, (tt, tt))

pub returns : goal.returns
returns c =
    let a = c.args in
    let w = (world_of a.c a.host.now a.image0.now a.image1.now a.events.now a.units.now) in
    let room = c.holds_entries in
    let allowed = c.is_allowance in
    let held = c.holds_block in
    let f = c.legs in
    (came_to _ _ f.result
    (ended_the_same _ _ _ f.result
    (ran_chain a.first a.allowance w
    (says_yes room.result _ c.if-not-holds_entries.false room.ensures)
    (says_yes allowed.result _ c.if-not-is_allowance.false allowed.ensures)
    (says_yes held.result _ c.if-not-holds_block.false held.ensures))
    (rw c.nothing.ensures at f.ensures)))
