-- A check that is asked by `?`: what is there is passed on, and what is missing is the refusal that was named.
use Rattle.std.proofs.Common.{Err, None, Ok, Option, Result, Some, is_some, ◌≡◌, ok_or}
use mathlib.Core.Path.{ap, refl, sym, ◌∙◌}
use Rattle.std.proofs.lemmas.Result.{err_from_is_err_and}
use Rattle.std.specs.Result.{IsErrAnd}
use Rattle.answers.specs.declared.Refusal.{Refusal}
use Rattle.judge.specs.declared.Plan.{Plan}
use Rattle.wire.proofs.Promises.{never}
use Rattle.wire.specs.Promise.{Says}

pub passed_on : {A : Type 0} (o : Option A) (r : Refusal) {x : A} {q : Result A Refusal} → q ≡ ok_or o r → q ≡ Ok x → o ≡ Some x
passed_on None r is ok = absurd (never cc)
passed_on (Some y) r is ok = cc

missing : {A : Type 0} (o : Option A) (r : Refusal) {d : Refusal} {q : Result A Refusal} → q ≡ ok_or o r → q ≡ Err d → (o ≡ None) × (d ≡ r)
missing None r is err = (refl, cc)
missing (Some y) r is err = absurd (never cc)

pub stops_there :
    {A : Type 0} (o : Option A) (r : Refusal) {d : Refusal} {q : Result A Refusal} {x s : Result Plan Refusal} →
    q ≡ ok_or o r → q ≡ Err d → IsErrAnd x (λ (e : Refusal). e ≡ d) → (o ≡ None → s ≡ Err r) → x ≡ s
stops_there o r is err left refused =
    let none = missing o r is err in
    let p = err_from_is_err_and _ left in
    p.1 ∙ ap Err (p.2 ∙ none.1) ∙ sym (refused none.0)

pub says_some : {A : Type 0} (o : Option A) (P : Type 0) → ((x : A) → o ≡ Some x → P) → (o ≡ None → P → ⊥) → Says (is_some o) P
says_some None P there not-there = not-there refl
says_some (Some x) P there not-there = there x refl
