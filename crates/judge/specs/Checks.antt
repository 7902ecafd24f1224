-- A list of checks in order, and the first of them that is given (01, Answer numbers: "Block answers, in order").
use Rattle.std.specs.Prelude.{List, [], ◌∷◌, Err, Ok, Result}
use Rattle.std.proofs.Math.Logic.{ite}
use Rattle.answers.specs.declared.Refusal.{Refusal}
use Rattle.judge.specs.declared.Plan.{Plan}

-- A check: its answer, the case in which that answer is given, and the decision of the case. A check that is given refuses; one that is not
-- is passed.
pub record Check : Type 1 where
  pub answer : Refusal
  pub Given : Type 0
  pub given? : Dec Given

abbrev pub check : Refusal → (Given : Type 0) → Dec Given → Check
check answer Given given? = record { answer = answer; Given = Given; given? = given? }

-- One that is given wherever it is asked.
abbrev pub always : Refusal → Check
always answer = check answer (Unit {0}) (yes tt)

-- The answer of the first check that is given, or, where none is, what is to be done.
unfoldable pub first : List Check → Plan → Result Plan Refusal
first [] plan = Ok plan
first (k ∷ ks) plan = ite k.given? (Err k.answer) (first ks plan)
