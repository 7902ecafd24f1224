-- After each turn the bytes so far are carried, by the law of one run more; the buffers keep their lengths.
-- The cursor is ready before each copy, and its run lies in the image.
use Prim.Native.Nat.{◌-◌, ◌≤◌}
use mathlib.Core.Path.{◌≡◌}
use lib.ListN.{length}
use Rattle.transfer.specs.Runs.{Carried, behind, lent}
use Rattle.transfer.proofs.carry.carry_piece.Given as goal

abbrev pub invariant-loop-done : goal.invariant-loop-done
invariant-loop-done l = (l.done ≤ l.n) ×
    ((length l.host ≡ length l.initial.host) ×
    ((length l.image ≡ length l.initial.image) × Carried l.u l.span l.to_host (behind l.u l.initial.c) l.at l.done (lent l.initial.host l.initial.image) (lent l.host l.image) l.c))

abbrev pub decreases-loop-done : goal.decreases-loop-done
decreases-loop-done l = l.n - l.done
