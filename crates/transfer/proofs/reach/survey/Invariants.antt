-- The loop stands where Surveying says; a run that comes to its end leads to the next turn.
-- Each way out is the survey's law of that name.
use Prim.Native.Nat.{◌-◌}
use Rattle.transfer.proofs.Survey.{Surveying}
use Rattle.transfer.proofs.reach.survey.Given as goal

abbrev pub invariant-loop-done : goal.invariant-loop-done
invariant-loop-done l = Surveying l.image l.u l.span.volume l.span.first l.span.count l.heeds l.done

abbrev pub decreases-loop-done : goal.decreases-loop-done
decreases-loop-done l = l.span.count - l.done
