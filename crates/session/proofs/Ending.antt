-- After the input's end no step comes.
use Rattle.std.proofs.Common.{[], sym, subst}
use Rattle.std.proofs.Math.Logic.{by_cases, if_neg, if_pos}
use Rattle.transcript.specs.Steps.{SessionLent, Spoken, closed, room?, said_of, spoken, spoken_of}
use Rattle.transcript.specs.declared.Next.TheVariants.{NoRoom}
use Rattle.transcript.specs.declared.State.{State}
use Rattle.session.specs.Told.{IsLast}

pub last_at_the_end : (s : State) (l : SessionLent) → IsLast (spoken [] s l).said.next
unfolding spoken
last_at_the_end s l =
    let ended = closed [] l in
    let nothing = spoken_of (said_of NoRoom 0) l in
    by_cases (room? s l)
    (λ room. subst (λ (x : Spoken). IsLast x.said.next) (sym (if_pos (room? s l) room ended nothing)) tt)
    (λ none. subst (λ (x : Spoken). IsLast x.said.next) (sym (if_neg (room? s l) none ended nothing)) tt)
