-- What was asked first decides: a refusal is what the call comes to. Then an entry without room is met before anything is stored.
-- Past that the call is the step.
use mathlib.Core.Logic.{ite}
use Rattle.abi.specs.Calls.{called_of, lent_of}
use Rattle.abi.specs.Stepping.{block_bad, stepped_once}
use Rattle.abi.proofs.Stepping.{stepped_is, stepped_made, stepped_no_entry}
use Rattle.wire.proofs.Decided.{in_memory?}
use native.Mathlib.Omega.{arith}
use mathlib.Core.Path.{sym, ◌∙◌, ap, refl}
use Rattle.abi.proofs.vsmd_step_as.Goals as goal

pub returns-in-Err : goal.returns-in-Err
returns-in-Err c =
    let a = c.args in
    let is = rw c.in-Err.is at c.asked.ensures in
    let lent =
    lent_of a.host.now a.image0.now a.image1.now a.events.now a.record0.now a.record1.now a.stepped.now in
    rw c.code.ensures (sym (stepped_is _ _ _ lent ∙ is lent _ refl refl refl))

pub returns-then-events-from : goal.returns-then-events-from
returns-then-events-from c =
    let so = rw c.in-Ok.is at c.asked.ensures in
    rw c.code-then-events-from.ensures (sym (stepped_no_entry _ _ _ _ so.1.0 so.1.1.0 so.1.1.1.0 so.1.1.1.1 (omega (arith, c.from.ensures))))

pub step-requires : goal.step-requires
step-requires c =
    let so = rw c.in-Ok.is at c.asked.ensures in
    (so.1.0, (so.1.1.0, (so.1.1.1.0, omega (arith, c.from.ensures))))

pub returns : goal.returns
returns c =
    let a = c.args in
    let lent =
    lent_of a.host.now a.image0.now a.image1.now a.events.now a.record0.now a.record1.now a.stepped.now in
    let so = rw c.in-Ok.is at c.asked.ensures in
    c.step.ensures ∙
    ap (λ k. ite (in_memory? a.host.now a.at 28) (stepped_once k a.at a.index lent) (called_of block_bad lent)) so.0 ∙
    sym (stepped_made a.controller a.at a.index lent so.1.0 so.1.1.0 so.1.1.1.0 so.1.1.1.1 (omega (arith, c.from.ensures)))
