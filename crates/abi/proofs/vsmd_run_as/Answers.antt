-- What was asked first decides: a refusal is what the call comes to, and where there is none the call is the run.
use Rattle.abi.specs.Calls.{lent_of}
use Rattle.abi.proofs.Called.{called_is, called_made}
use mathlib.Core.Path.{sym, ◌∙◌, refl}
use Rattle.abi.proofs.vsmd_run_as.Goals as goal

pub returns-in-Err : goal.returns-in-Err
returns-in-Err c =
    let a = c.args in
    let is = rw c.in-Err.is at c.asked.ensures in
    let lent =
    lent_of a.host.now a.image0.now a.image1.now a.events.now a.record0.now a.record1.now a.outcome.now in
    rw c.code.ensures (sym (called_is _ _ _ lent ∙ is lent _ refl refl refl))

pub returns-in-Ok : goal.returns-in-Ok
returns-in-Ok c =
    let a = c.args in
    let lent =
    lent_of a.host.now a.image0.now a.image1.now a.events.now a.record0.now a.record1.now a.outcome.now in
    let so = rw c.in-Ok.is at c.asked.ensures in
    (rw so.0 at c.run.ensures) ∙ sym (called_made a.controller a.first a.allowance lent so.1.0 so.1.1.0 so.1.1.1.0 so.1.1.1.1)
