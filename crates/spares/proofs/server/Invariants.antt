-- No pair before the i-th serves the track, so that what serves it is what does of the pairs from there on.
use Prim.Native.Nat.{◌-◌}
use mathlib.Core.Path.{◌≡◌}
use Rattle.spares.specs.Lands.{served}
use Rattle.spares.specs.Table.{served_from}
use Rattle.spares.proofs.server.Given as goal

abbrev pub invariant-loop-i : goal.invariant-loop-i
invariant-loop-i l = served_from l.g l.table l.i (l.i-end - l.i) l.t ≡ served l.g l.pairs l.table l.t
