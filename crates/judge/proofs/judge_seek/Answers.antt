-- Checks 11 and 14, the first passed before the second is asked.
-- What is left is judged by its address.
use mathlib.Core.Path.{sym, ◌∙◌}
use Rattle.unit.specs.Standing.{CountsAsInitialized}
use Rattle.wire.proofs.Promises.{says_no, says_yes}
use Rattle.judge.proofs.Tasks.{seek_11, seek_14, seek_on}
use Rattle.judge.proofs.judge_seek.Goals as goal

pub returns-then-not-standing : goal.returns-then-not-standing
returns-then-not-standing c host = sym (seek_11 _ _ _ host _ (says_no c.args.standing.counts _ c.if-not-standing.true c.requires))

pub returns-then-not-has_volume : goal.returns-then-not-has_volume
returns-then-not-has_volume c host =
    let counts : let a = c.args in CountsAsInitialized a.standing.unit.now = says_yes c.args.standing.counts _ c.if-not-standing.false c.requires in
    let v = c.has_volume in
    sym (seek_14 _ _ _ host _ counts (says_no v.result _ c.if-not-has_volume.true v.ensures))

pub returns : goal.returns
returns c host =
    let counts : let a = c.args in CountsAsInitialized a.standing.unit.now = says_yes c.args.standing.counts _ c.if-not-standing.false c.requires in
    let v = c.has_volume in
    c.judge_address.ensures host
    ∙ sym (seek_on _ _ _ host _ counts (says_yes v.result _ c.if-not-has_volume.false v.ensures))
