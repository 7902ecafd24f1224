-- What an accepted request is known to be: none of its checks is given, and the plan is its task's own.
-- What each task's own plan is known to be, EachTask says.
use Rattle.std.proofs.Common.{Ok}
use Prim.Native.Nat.{ℕ, ◌*◌}
use mathlib.Core.Path.{◌≡◌, sym, ap, subst, ◌∙◌}
use Rattle.wire.specs.Among.{Among}
use Rattle.geometry.specs.Drive.{S}
use Rattle.request.specs.declared.Buffer.TheVariants.{List as Elements}
use Rattle.request.specs.declared.Task.{Task}
use Rattle.request.specs.declared.Task.TheVariants.{Handshake, Format}
use Rattle.request.specs.declared.Track.{Track}
use Rattle.unit.specs.Standing.{geometry}
use Rattle.judge.specs.declared.Job.{Job}
use Rattle.judge.specs.declared.Plan.{Plan}
use Rattle.judge.specs.declared.Leaving.{Leaving}
use Rattle.judge.specs.declared.Moving.{Moving}
use Rattle.judge.specs.declared.Moving.TheVariants.{Sectors}
use Rattle.judge.specs.declared.Report.{Report}
use Rattle.judge.specs.declared.Report.TheVariants.{Nothing, Formatted}
use Rattle.judge.specs.Passed.{checks}
use Rattle.judge.specs.Plans.{plan, plan_of}
use Rattle.judge.specs.Fits.{PlanFits}
use Rattle.judge.specs.Given.{Asked, on}
use Rattle.judge.specs.Reads.{InList}
use Rattle.judge.specs.Verdict.{verdict}
use Rattle.judge.proofs.Tasks.{handshake}
use Rattle.judge.proofs.Known.{Accepted, ListKnown, MoverKnown, Quiet, ReportKnown, all_passed}
use Rattle.judge.proofs.EachTask.{accepted}

let_through : (a : Asked) (p : Plan) → verdict a ≡ Ok p → Accepted a p
unfolding verdict
let_through a p e =
    let passed = all_passed (checks a) (plan_of a.unit a.task) p e in
    subst (Accepted a) passed.1 (accepted a.controller a.unit a.image a.host a.task passed.0)

-- It is its task's own.
pub own_plan : (a : Asked) (p : Plan) → verdict a ≡ Ok p → p ≡ plan_of a.unit a.task
unfolding verdict
own_plan a p e = sym (all_passed (checks a) (plan_of a.unit a.task) p e).1

-- It fits.
pub plan_fits : (a : Asked) (p : Plan) → verdict a ≡ Ok p → PlanFits a.unit a.image a.host p
plan_fits a p e = (let_through a p e).fits

-- It is of its task.
pub mover_let_through : (a : Asked) (p : Plan) → verdict a ≡ Ok p → MoverKnown a.task p.moving
mover_let_through a p e = (let_through a p e).mover

-- The list of a transfer that was let through is among what is read.
pub list_let_through :
    (a : Asked) (p : Plan) (j : Job) (at n x : ℕ) → verdict a ≡ Ok p → p.moving ≡ Sectors j → j.buffer ≡ Elements at n →
    Among at (8 * n) x → InList a x
list_let_through a p j at n x e moves is among =
    (subst (ListKnown a) moves (let_through a p e).list) at n x is among

-- One that moves sectors reports nothing.
pub quiet_let_through : (a : Asked) (p : Plan) (j : Job) → verdict a ≡ Ok p → p.moving ≡ Sectors j → p.report ≡ Nothing
quiet_let_through a p j e moves = subst (λ (m : Moving). Quiet m p.report) moves (let_through a p e).quiet

-- Only a handshake and a format report: a handshake always, and a format where it is let through.
pub report_let_through : (a : Asked) (p : Plan) → verdict a ≡ Ok p → ReportKnown a p.report
report_let_through a p e = (let_through a p e).report

pub handshake_reports :
    (a : Asked) → a.task ≡ Handshake → verdict a ≡ Ok (plan Moving.Nothing Report.Identity Leaving.AsItWas)
handshake_reports a is =
    subst (λ (t : Task). verdict (on a.controller a.unit a.image t a.host) ≡ Ok (plan Moving.Nothing Report.Identity Leaving.AsItWas)) (sym is)
    (handshake a.controller a.unit a.image a.host)

pub format_reports :
    (a : Asked) (k : Track) (p : Plan) → a.task ≡ Format k → verdict a ≡ Ok p → p.report ≡ Formatted (S (geometry a.unit))
format_reports a k p is e = ap (λ p. p.report) (own_plan a p e ∙ ap (plan_of a.unit) is)
