-- The loop stands before the i-th piece, as the law of that name says; a turn carries that piece.
-- It is left when all bytes are carried, and there are pieces enough for that.
use Rattle.transfer.proofs.AllPieces.{Before}
use Rattle.transfer.proofs.carry.carry.Given as goal

abbrev pub invariant-loop-i : goal.invariant-loop-i
invariant-loop-i l = Before l.u l.span l.to_host l.lengths l.addresses l.initial.host l.initial.image l.i l.done l.host l.image l.c
