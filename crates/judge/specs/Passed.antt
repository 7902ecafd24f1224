-- The checks of what is judged, those that are not given, and those before an answer.
use Rattle.std.specs.Prelude.{cond, List, [], ◌∷◌, eqb}
use Rattle.answers.specs.declared.Refusal.{Refusal}
use Rattle.answers.specs.Numbers.{refusal_number}
use Rattle.judge.specs.Asks.{checks_of}
use Rattle.judge.specs.Checks.{Check}
use Rattle.judge.specs.Given.{Asked}

-- The checks of what is judged.
abbrev pub checks : Asked → List Check
checks a = checks_of a a.task

-- None of the checks is given.
unfoldable pub NoneGiven : List Check → Type 0
NoneGiven [] = Unit {0}
NoneGiven (k ∷ ks) = (k.Given → ⊥) × NoneGiven ks

-- Those before the first with an answer, which is told by its number.
abbrev pub before : Refusal → List Check → List Check
before r [] = []
before r (k ∷ ks) = cond (eqb (refusal_number k.answer) (refusal_number r)) [] (k ∷ before r ks)
