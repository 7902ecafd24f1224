-- After i turns the first i sectors are filled, and the next one begins where they end.
-- A turn is one copy, by the law of one sector more.
use Prim.Native.Nat.{◌*◌}
use mathlib.Core.Path.{◌≡◌}
use Rattle.transfer.specs.Runs.{fill_store, lent}
use Rattle.transfer.specs.Stores.{after, up_to}
use Rattle.transfer.proofs.carry.fill.Given as goal

abbrev pub invariant-loop-i : goal.invariant-loop-i
invariant-loop-i l = lent l.host l.image ≡ after (up_to (l.i * l.bytes) (fill_store l.first l.at l.bytes)) (lent l.host l.initial.image)
