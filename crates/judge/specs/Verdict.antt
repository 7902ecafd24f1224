-- The verdict: the answer of the first check that is given, or what is to be done.
use Rattle.answers.specs.declared.Refusal.{Refusal}
use Rattle.judge.specs.declared.Plan.{Plan}
use Rattle.std.specs.Prelude.{Result}
use Rattle.judge.specs.Plans.{plan_of}
use Rattle.judge.specs.Asks.{checks_of}
use Rattle.judge.specs.Checks.{first}
use Rattle.judge.specs.Given.{Asked}

unfoldable pub verdict : Asked → Result Plan Refusal
verdict a = first (checks_of a a.task) (plan_of a.unit a.task)
