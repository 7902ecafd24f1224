-- Checks 11 and 16, the first passed before the second is asked.
-- What is left is judged by the table.
use mathlib.Core.Path.{sym, ◌∙◌}
use Rattle.unit.specs.Standing.{CountsAsInitialized}
use Rattle.wire.proofs.Promises.{says_no, says_yes}
use Rattle.judge.proofs.Tasks.{map_11, map_16, map_on}
use Rattle.judge.proofs.judge_map.Goals as goal

pub returns-then-not-standing : goal.returns-then-not-standing
returns-then-not-standing c host = sym (map_11 _ _ _ host _ (says_no c.args.standing.counts _ c.if-not-standing.true c.requires))

pub returns-then-not-has_tracks : goal.returns-then-not-has_tracks
returns-then-not-has_tracks c host =
    let counts : let a = c.args in CountsAsInitialized a.standing.unit.now = says_yes c.args.standing.counts _ c.if-not-standing.false c.requires in
    let has = c.has_tracks in
    sym (map_16 _ _ _ host _ counts (says_no has.result _ c.if-not-has_tracks.true has.ensures))

pub returns : goal.returns
returns c host =
    let counts : let a = c.args in CountsAsInitialized a.standing.unit.now = says_yes c.args.standing.counts _ c.if-not-standing.false c.requires in
    let has = c.has_tracks in
    c.judge_pair.ensures host
    ∙ sym (map_on _ _ _ host _ counts (says_yes has.result _ c.if-not-has_tracks.false has.ensures))
