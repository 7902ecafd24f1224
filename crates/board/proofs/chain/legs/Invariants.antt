-- A chain in legs. Between two legs the chain comes to what it comes to from where the last one stopped, with what is left and counted by then.
-- Each way out and the next turn is the law of a leg of that name; a leg's allowance is taken from what is left, so that this falls.
use lib.ListN.{length}
use mathlib.Core.Path.{◌≡◌}
use Rattle.board.specs.Chain.{fetched}
use Rattle.board.specs.Run.{world_of}
use Rattle.board.proofs.Legs.{Between}
use Rattle.board.proofs.chain.legs.Given as goal

abbrev pub invariant-loop-rest : goal.invariant-loop-rest
invariant-loop-rest l = Between (fetched l.left l.initial.tally l.at (world_of l.c l.initial.host l.initial.image0 l.initial.image1 l.initial.events l.initial.units))
    (world_of l.c l.host l.image0 l.image1 l.events l.units) l.known l.from l.rest l.tally ×
    (length l.host ≡ length l.initial.host) × (length l.image0 ≡ length l.initial.image0) × (length l.image1 ≡ length l.initial.image1) × (length l.events ≡ length l.initial.events)

abbrev pub decreases-loop-rest : goal.decreases-loop-rest
decreases-loop-rest l = l.rest
