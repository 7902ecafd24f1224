-- The loop stands where Surveying says; a run that comes to its end leads to the next turn.
-- Each way out is the survey's law of that name.
use native.Mathlib.Omega.{arith}
use Rattle.transfer.proofs.Survey.{advanced_most, survey_begins, survey_ends, survey_grows, survey_on, survey_stopped}
use Rattle.transfer.proofs.reach.survey.Goals as goal

pub loop-done-init : goal.loop-done-init
loop-done-init c =
    let a = c.args in
    survey_begins a.image.now a.u.now a.span.volume a.span.first a.span.count a.heeds

pub advance-m-requires : goal.advance-m-requires
advance-m-requires c = (omega arith, (omega arith, c.requires.1))

pub overflow_add-done : goal.overflow_add-done
overflow_add-done c =
    let a = c.args in
    let now = c.loop-done in
    let m = c.advance-m in
    omega (arith, advanced_most a.image.now a.u.now a.span.volume a.span.first a.span.count a.heeds now.done now.invariant m.result (rw c.from.ensures at m.ensures))

pub returns-in-Err : goal.returns-in-Err
returns-in-Err c =
    let a = c.args in
    let now = c.loop-done in
    let m = c.advance-m in
    survey_stopped a.image.now a.u.now a.span.volume a.span.first a.span.count a.heeds now.done now.invariant m.result (rw c.from.ensures at m.ensures)
    c.in-Err.refusal c.in-Err.is

pub loop-done-smaller : goal.loop-done-smaller
loop-done-smaller c =
    let a = c.args in
    let now = c.loop-done in
    let m = c.advance-m in
    omega (arith, survey_grows a.image.now a.u.now a.span.volume a.span.first a.span.count a.heeds now.done now.invariant m.result (rw c.from.ensures at m.ensures) c.in_default.is)

pub loop-done-preserved : goal.loop-done-preserved
loop-done-preserved c =
    let a = c.args in
    let now = c.loop-done in
    let m = c.advance-m in
    survey_on a.image.now a.u.now a.span.volume a.span.first a.span.count a.heeds now.done now.invariant m.result (rw c.from.ensures at m.ensures) c.in_default.is

pub returns : goal.returns
returns c =
    let a = c.args in
    let now = c.loop-done in
    survey_ends a.image.now a.u.now a.span.volume a.span.first a.span.count a.heeds now.done now.invariant (omega arith)
