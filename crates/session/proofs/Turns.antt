-- A turn makes one step of those in a row, so that what will have been written stays what it was.
use Rattle.std.proofs.Common.{◌≡◌, ℕ, suc, ◌+◌, ◌-◌, ◌<◌, List, ◌++◌, arith, length, take, drop, ap, sym, subst, ◌∙◌, append_assoc}
use Rattle.std.specs.Io.KnownBytes.{Appends}
use Rattle.std.specs.Prelude.{Option, None, Some, IfSome}
use Rattle.transcript.specs.Rows.{in_a_row, onward, read_for}
use Rattle.transcript.specs.Steps.{SessionLent, Spoken, spoken, spoken_of}
use Rattle.transcript.specs.declared.Next.{Next}
use Rattle.transcript.specs.declared.Next.TheVariants.{On}
use Rattle.transcript.specs.declared.Said.{Said}
use Rattle.transcript.specs.declared.State.{State}
use Rattle.session.specs.Told.{Stays, TakesField, in_the_end}

-- What one step says, and what goes on after it.
one_step :
    (k : ℕ) (s : State) (l : SessionLent) (xs : List ℕ) (x : Spoken) → spoken (read_for xs) s l ≡ x →
    in_a_row (suc k) s l xs ≡
    take x.said.text x.lent.text ++ onward (λ s'. in_a_row k s' x.lent (drop (length (read_for xs)) xs)) x.said.next
unfolding in_a_row
one_step k s l xs x is =
    ap
    (λ (x : Spoken).
    take x.said.text x.lent.text ++ onward (λ s'. in_a_row k s' x.lent (drop (length (read_for xs)) xs)) x.said.next)
    is

-- A turn: a field read, a step made of it, and its text written.
pub one_turn :
    (k : ℕ) (s : State) (l l' : SessionLent) (said : Said) (got : List ℕ) (rest rest' told told' : Option (List ℕ)) →
    TakesField rest rest' got → spoken_of said l' ≡ spoken got s l → Appends told told' (take said.text l'.text) →
    Stays (in_the_end (suc k) (On s) l rest told) (in_the_end k said.next l' rest' told')
one_turn k s l l' said got None rest' told told' t is a = tt
one_turn k s l l' said got (Some xs) rest' None told' t is a = tt
one_turn k s l l' said got (Some xs) rest' (Some ys) None t is a = absurd a
one_turn k s l l' said got (Some xs) rest' (Some ys) (Some zs) t is a =
    let goes_on = λ (n : ℕ). onward (λ s'. in_a_row k s' l' (drop n xs)) said.next in
    let step : in_a_row (suc k) s l xs ≡ take said.text l'.text ++ goes_on (length (read_for xs)) =
    one_step k s l xs (spoken_of said l') (ap (λ (b : List ℕ). spoken b s l) (sym t.0) ∙ sym is) in
    let same : zs ++ goes_on (length got) ≡ ys ++ in_a_row (suc k) s l xs =
    ap (λ b. b ++ goes_on (length got)) a ∙ append_assoc ys (take said.text l'.text) (goes_on (length got)) ∙
    ap (λ (b : List ℕ). ys ++ (take said.text l'.text ++ goes_on (length b))) t.0 ∙ ap (λ b. ys ++ b) (sym step) in
    subst (λ r. in_the_end k said.next l' r (Some zs) ≡ Some (ys ++ in_a_row (suc k) s l xs)) (sym t.1) (ap Some same)

-- One turn after the other.
stays_on :
    (first second third : Option (List ℕ)) → Stays first second → Stays second third → Stays first third
stays_on None second third a b = tt
stays_on (Some e) second third a b = subst (λ o. IfSome o (λ e'. third ≡ Some e')) a b

pub turn_by_turn :
    (first : Option (List ℕ)) (all turn : ℕ) (next came next' : Next) (l l' : SessionLent) (rest rest' told told' : Option (List ℕ)) →
    turn < all → Stays first (in_the_end (all - turn) next l rest told) →
    ((k : ℕ) → Stays (in_the_end (k + 1) next l rest told) (in_the_end k came l' rest' told')) → came ≡ next' →
    Stays first (in_the_end (all - (turn + 1)) next' l' rest' told')
turn_by_turn first all turn next came next' l l' rest rest' told told' some stays step is =
    let left = all - (turn + 1) in
    let again : all - turn ≡ left + 1 = omega arith in
    subst (λ n. Stays first (in_the_end left n l' rest' told')) is
    (stays_on first (in_the_end (left + 1) next l rest told) (in_the_end left came l' rest' told')
    (subst (λ n. Stays first (in_the_end n next l rest told)) again stays) (step left))
