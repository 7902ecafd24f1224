-- The first check that is given, of any list of checks: those before it are passed over one by one, and it gives the answer.
-- Checks of which one is given decide by themselves, whatever comes after them.
use Rattle.std.proofs.Common.{Err, Ok}
use Prim.Native.Nat.{ℕ}
use mathlib.Core.Bool.{Bool, true, false, ◌||◌}
use mathlib.Core.List.{List, [], ◌∷◌, ◌++◌}
use mathlib.Core.Logic.Dec
use mathlib.Core.Logic.{by_cases, if_neg, if_pos}
use mathlib.Core.Path.{◌≡◌, refl, sym, ap, ◌∙◌}
use borrow.Author.Tests.{eq-eqb}
use lib.Dec.{T, eqb}
use Rattle.answers.specs.declared.Refusal.{Refusal}
use Rattle.answers.specs.Numbers.{refusal_number}
use Rattle.wire.proofs.Promises.{never as impossible}
use Rattle.judge.specs.declared.Plan.{Plan}
use Rattle.judge.specs.Checks.{Check, first}
use Rattle.judge.specs.Table.{one_of}
use Rattle.judge.specs.Passed.{NoneGiven}

pub skip : (k : Check) (ks : List Check) (p : Plan) → (k.Given → ⊥) → first (k ∷ ks) p ≡ first ks p
unfolding first
skip k ks p out = if_neg k.given? out _ _

pub stop : (k : Check) (ks : List Check) (p : Plan) → k.Given → first (k ∷ ks) p ≡ Err k.answer
unfolding first
stop k ks p given = if_pos k.given? given _ _

pub done : (p : Plan) → first [] p ≡ Ok p
unfolding first
done p = refl

pub pass : (ks ls : List Check) (p : Plan) → NoneGiven ks → first (ks ++ ls) p ≡ first ls p
unfolding NoneGiven
pass [] ls p none = refl
pass (k ∷ ks) ls p none = skip k (ks ++ ls) p none.0 ∙ pass ks ls p none.1

pub none_of_parts : (ks ls : List Check) → NoneGiven (ks ++ ls) → NoneGiven ks × NoneGiven ls
unfolding NoneGiven
none_of_parts [] ls none = (tt, none)
none_of_parts (k ∷ ks) ls none = let rest = none_of_parts ks ls none.1 in ((none.0, rest.0), rest.1)

pub none_of_all : (ks ls : List Check) → NoneGiven ks → NoneGiven ls → NoneGiven (ks ++ ls)
unfolding NoneGiven
none_of_all [] ls none more = more
none_of_all (k ∷ ks) ls none more = (none.0, none_of_all ks ls none.1 more)

pub none? : (ks : List Check) → Dec (NoneGiven ks)
unfolding NoneGiven
none? [] = yes tt
none? (k ∷ ks) = Dec.and (Dec.not k.given?) (none? ks)

-- Where one of some checks is given, what follows them does not matter.
pub early : (ks ls ms : List Check) (p q : Plan) → (NoneGiven ks → ⊥) → first (ks ++ ls) p ≡ first (ks ++ ms) q
unfolding NoneGiven
early [] ls ms p q some = absurd (some tt)
early (k ∷ ks) ls ms p q some =
    by_cases k.given? (λ given. stop k _ p given ∙ sym (stop k _ q given))
    (λ out. skip k _ p out ∙ early ks ls ms p q (λ none. some (out, none)) ∙ sym (skip k _ q out))

-- ---- numbers

abbrev pub numbers_of : List Check → List ℕ
numbers_of [] = []
numbers_of (k ∷ ks) = refusal_number k.answer ∷ numbers_of ks

pub later : (this rest : Bool) → T rest → T (this || rest)
later true rest there = tt
later false rest there = there

-- A refusal has the number of one of the checks.
pub refused_among : (ks : List Check) (p : Plan) (r : Refusal) → first ks p ≡ Err r → T (one_of (refusal_number r) (numbers_of ks))
refused_among [] p r e = absurd (impossible (cc (done p)))
refused_among (k ∷ ks) p r e =
    by_cases k.given?
    (λ given.
    let same : r ≡ k.answer = cc (stop k ks p given) in
    rw (eq-eqb _ _ (ap refusal_number same)) tt)
    (λ out. later (eqb (refusal_number r) (refusal_number k.answer)) _ (refused_among ks p r (sym (skip k ks p out) ∙ e)))

pub no_more : ⊥ → ⊥
no_more x = x
