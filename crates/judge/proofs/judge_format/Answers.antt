-- Checks 11, 16 and 17, each passed before the next is asked.
-- Where the unit has a landing the track is on the drive, and what is left is judged by its data.
use mathlib.Core.Path.{sym, ◌∙◌}
use native.Mathlib.Omega.{arith}
use Rattle.wire.proofs.Promises.{says_no, says_yes}
use Rattle.unit.proofs.Answers.{at_track, no_track}
use Rattle.judge.proofs.Passing.{passed_on, stops_there}
use Rattle.judge.proofs.Tasks.{format_11, format_16, format_17, format_on}
use Rattle.judge.proofs.judge_format.Goals as goal

pub returns-then-not-standing : goal.returns-then-not-standing
returns-then-not-standing c = sym (format_11 _ _ _ _ _ (says_no c.args.standing.counts _ c.if-not-standing.true c.requires))

pub returns-in_err-spot : goal.returns-in_err-spot
returns-in_err-spot c =
    let counts = says_yes c.args.standing.counts _ c.if-not-standing.false c.requires in
    stops_there _ _ c.ok_or.ensures.value c.in_err-spot.was c.from_residual.ensures.1
    (λ none. format_16 _ _ _ _ _ counts (no_track _ _ _ (sym c.land_track.ensures ∙ none)))

pub returns-then-is_short : goal.returns-then-is_short
returns-then-is_short c =
    let counts = says_yes c.args.standing.counts _ c.if-not-standing.false c.requires in
    let on = at_track _ _ _ _ (sym c.land_track.ensures ∙ passed_on _ _ c.ok_or.ensures.value c.in_ok-spot.was) in
    sym (format_17 _ _ _ _ _ counts on.0 (says_yes c.is_short.result _ c.if-is_short.true c.is_short.ensures))

pub judge_data-requires : goal.judge_data-requires
judge_data-requires c = (at_track _ _ _ _ (sym c.land_track.ensures ∙ passed_on _ _ c.ok_or.ensures.value c.in_ok-spot.was)).1

pub returns : goal.returns
returns c =
    let counts = says_yes c.args.standing.counts _ c.if-not-standing.false c.requires in
    let on = at_track _ _ _ _ (sym c.land_track.ensures ∙ passed_on _ _ c.ok_or.ensures.value c.in_ok-spot.was) in
    let long = says_no c.is_short.result _ c.if-is_short.false c.is_short.ensures in
    c.judge_data.ensures ∙ sym (format_on _ _ _ _ _ counts on.0 (omega arith))
