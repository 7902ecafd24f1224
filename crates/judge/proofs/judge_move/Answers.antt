-- Checks 11, 14 and 15, each passed before the next is asked.
-- What is left is judged from its sectors on.
use mathlib.Core.Path.{sym, ◌∙◌}
use Rattle.unit.specs.Standing.{CountsAsInitialized}
use Rattle.wire.proofs.Promises.{says_no, says_yes}
use Rattle.judge.proofs.Tasks.{move_11, move_14, move_15, move_on}
use Rattle.judge.proofs.judge_move.Goals as goal

pub returns-then-not-standing : goal.returns-then-not-standing
returns-then-not-standing c = sym (move_11 _ _ _ _ _ (says_no c.args.standing.counts _ c.if-not-standing.true c.requires))

pub returns-then-not-has_volume : goal.returns-then-not-has_volume
returns-then-not-has_volume c =
    let counts : let a = c.args in CountsAsInitialized a.standing.unit.now = says_yes c.args.standing.counts _ c.if-not-standing.false c.requires in
    let v = c.has_volume in
    sym (move_14 _ _ _ _ _ counts (says_no v.result _ c.if-not-has_volume.true v.ensures))

pub returns-then-m-eq0 : goal.returns-then-m-eq0
returns-then-m-eq0 c =
    let counts : let a = c.args in CountsAsInitialized a.standing.unit.now = says_yes c.args.standing.counts _ c.if-not-standing.false c.requires in
    let v = c.has_volume in
    sym (move_15 _ _ _ _ _ counts (says_yes v.result _ c.if-not-has_volume.false v.ensures) c.if-m-eq0.true)

pub returns : goal.returns
returns c =
    let counts : let a = c.args in CountsAsInitialized a.standing.unit.now = says_yes c.args.standing.counts _ c.if-not-standing.false c.requires in
    let v = c.has_volume in
    c.judge_start.ensures
    ∙ sym (move_on _ _ _ _ _ counts (says_yes v.result _ c.if-not-has_volume.false v.ensures) c.if-m-eq0.false)
