-- As many turns as no input uses up are as good as one turn more than the input has bytes, so that what was written is the session.
use Rattle.std.proofs.Common.{◌≡◌, ℕ, zero, suc, ◌+◌, ◌≤◌, ◌<◌, List, [], ◌∷◌, ◌++◌, arith, length, take, drop, ap, refl, sym, subst, ◌∙◌, length-drop, length-take, append-nil, ◌⊎◌, inl, inr}
use Rattle.std.proofs.lemmas.List.{length-replicate, take_all}
use Rattle.std.specs.Prelude.{◌^◌, Option, replicate, None, Some}
use Rattle.board.specs.declared.Units.{Units}
use Rattle.transcript.specs.Rows.{in_a_row, onward, read_for}
use Rattle.transcript.specs.Session.{begin, session}
use Rattle.transcript.specs.Steps.{SessionLent, most_bytes, most_field, lent_of, spoken, state_of, text_room, units_in, wanted}
use Rattle.transcript.specs.declared.Next.{Next}
use Rattle.transcript.specs.declared.Next.TheVariants.{On, Over, NoRoom}
use Rattle.transcript.specs.declared.State.{State}
use Rattle.transcript.proofs.Rows.{steps_in_a_row}
use Rattle.session.proofs.Ending.{last_at_the_end}
use Rattle.session.proofs.Fields.{wanted_least}
use Rattle.session.specs.Told.{IsLast, IsPlayed, Stays, in_the_end}

-- What goes on after an answer goes by what goes on after each state, and nothing goes on after the last.
onward_same : (f g : State → List ℕ) (next : Next) → ((s : State) → f s ≡ g s) → onward f next ≡ onward g next
onward_same f g (On s) same = same s
onward_same f g Over same = refl
onward_same f g NoRoom same = refl

onward_last : (f : State → List ℕ) (next : Next) → IsLast next → onward f next ≡ []
onward_last f (On s) last = absurd last
onward_last f Over last = refl
onward_last f NoRoom last = refl

-- More turns than there are bytes left say the same, however many: each step that another follows has read a byte at least.
enough :
    (k n : ℕ) (s : State) (l : SessionLent) (rest : List ℕ) → length rest < k → length rest < n →
    in_a_row k s l rest ≡ in_a_row n s l rest
unfolding in_a_row
enough zero n s l rest few also = absurd (omega arith)
enough (suc k) zero s l rest few also = absurd (omega arith)
enough (suc k) (suc n) s l [] few also =
    let none : read_for [] ≡ [] = take_all (wanted (take 3 [])) [] (omega arith) in
    let x = spoken (read_for []) s l in
    let left = drop (length (read_for [])) [] in
    let last : IsLast x.said.next = subst (λ (b : List ℕ). IsLast (spoken b s l).said.next) (sym none) (last_at_the_end s l) in
    ap (λ b. take x.said.text x.lent.text ++ b)
    (onward_last (λ s'. in_a_row k s' x.lent left) x.said.next last ∙ sym (onward_last (λ s'. in_a_row n s' x.lent left) x.said.next last))
enough (suc k) (suc n) s l (byte ∷ more) few also =
    let rest : List ℕ = byte ∷ more in
    let x = spoken (read_for rest) s l in
    let left = drop (length (read_for rest)) rest in
    let less : length left ≤ length more =
    omega (arith, length-drop (length (read_for rest)) rest, length-take (wanted (take 3 rest)) rest, wanted_least (take 3 rest)) in
    ap (λ b. take x.said.text x.lent.text ++ b)
    (onward_same (λ s'. in_a_row k s' x.lent left) (λ s'. in_a_row n s' x.lent left) x.said.next
    (λ s'. enough k n s' x.lent left (omega arith) (omega arith)))

-- The turns that the program has; no input that a session is said of uses them up.
abbrev pub all_turns : ℕ
all_turns = 18446744073709551615

-- So many steps in a row are the session.
whole :
    (xs : List ℕ) (l : SessionLent) → length xs + most_field < 2 ^ 64 →
    most_bytes ≤ length l.host → most_bytes ≤ length l.image0 → most_bytes ≤ length l.image1 → text_room ≤ length l.text →
    l.units ≡ units_in begin →
    in_a_row all_turns (state_of begin 0) l xs ≡ session xs
whole xs l early host image0 image1 text blank =
    enough all_turns (length xs + 1) (state_of begin 0) l xs (omega arith) (omega arith) ∙
    steps_in_a_row xs l early host image0 image1 text blank

-- No turn is left, or none comes.
none_left : (k : ℕ) (next : Next) (l : SessionLent) (xs : List ℕ) → (k ≡ 0) ⊎ IsLast next → onward (λ s. in_a_row k s l xs) next ≡ []
unfolding in_a_row
none_left k next l xs (inr last) = onward_last (λ s. in_a_row k s l xs) next last
none_left k (On s) l xs (inl none) = ap (λ n. in_a_row n s l xs) none
none_left k Over l xs (inl none) = refl
none_left k NoRoom l xs (inl none) = refl

-- What will have been written has been, where it stayed what it was at first.
played_out :
    (rest rest' told told' : Option (List ℕ)) (k : ℕ) (next : Next) (l l' : SessionLent) →
    most_bytes ≤ length l.host → most_bytes ≤ length l.image0 → most_bytes ≤ length l.image1 → text_room ≤ length l.text →
    l.units ≡ units_in begin →
    Stays (in_the_end all_turns (On (state_of begin 0)) l rest told) (in_the_end k next l' rest' told') → (k ≡ 0) ⊎ IsLast next →
    IsPlayed rest told told'
played_out None rest' told told' k next l l' host image0 image1 text blank stays done = tt
played_out (Some xs) rest' None told' k next l l' host image0 image1 text blank stays done = λ early. tt
played_out (Some xs) None (Some ys) told' k next l l' host image0 image1 text blank stays done = cc
played_out (Some xs) (Some xs') (Some ys) None k next l l' host image0 image1 text blank stays done = cc
played_out (Some xs) (Some xs') (Some ys) (Some zs) k next l l' host image0 image1 text blank stays done =
    λ early.
    let all = whole xs l early host image0 image1 text blank in
    let none = none_left k next l' xs' done in
    let same : zs ++ onward (λ s. in_a_row k s l' xs') next ≡ ys ++ in_a_row all_turns (state_of begin 0) l xs = cc in
    sym (append-nil zs) ∙ ap (λ b. zs ++ b) (sym none) ∙ same ∙ ap (λ b. ys ++ b) all

-- What is lent at first: zeros, and the units.
abbrev pub zeros : Units → SessionLent
zeros units =
    lent_of (replicate most_bytes 0) (replicate most_bytes 0) (replicate most_bytes 0) (replicate text_room 0) units

-- The same of the program, which begins with what a session begins with.
pub played_from_zeros :
    (first : State) (units : Units) (rest rest' told told' : Option (List ℕ)) (k : ℕ) (next : Next) (l' : SessionLent) → first ≡ state_of begin 0 → units ≡ units_in begin →
    Stays (in_the_end all_turns (On first) (zeros units) rest told) (in_the_end k next l' rest' told') → (k ≡ 0) ⊎ IsLast next →
    IsPlayed rest told told'
played_from_zeros first units rest rest' told told' k next l' is blank stays done =
    let long : (n : ℕ) → n ≤ length {A = ℕ} (replicate n 0) = λ n. omega (arith, length-replicate {A = ℕ} n 0) in
    played_out rest rest' told told' k next (zeros units) l' (long most_bytes) (long most_bytes) (long most_bytes) (long text_room) blank
    (subst (λ s. Stays (in_the_end all_turns (On s) (zeros units) rest told) (in_the_end k next l' rest' told')) is stays) done
