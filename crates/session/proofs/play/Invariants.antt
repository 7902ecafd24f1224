-- What will have been written stays what it is when the session begins.
use Rattle.std.proofs.Common.{◌-◌}
use Rattle.session.proofs.Sessions.{all_turns}
use Rattle.session.specs.Told.{Stays, in_the_end}
use Rattle.transcript.specs.Steps.{lent_of}
use Rattle.transcript.specs.declared.Next.TheVariants.{On}
use Rattle.session.proofs.play.Given as goal

abbrev pub invariant-loop-turn : goal.invariant-loop-turn
invariant-loop-turn g l =
    let at_first = lent_of l.initial.host l.initial.image0 l.initial.image1 l.initial.text l.initial.units in
    let now = lent_of l.host l.image0 l.image1 l.text l.units in
    Stays (in_the_end all_turns (On l.initial.s) at_first (g.R.Read.remaining l.initial.input) (g.W.Write.contents l.initial.output))
    (in_the_end (all_turns - l.turn) (On l.s) now (g.R.Read.remaining l.input) (g.W.Write.contents l.output))
