-- After i turns the first i tracks are read and the rest of the table is as it was.
use mathlib.Core.Path.{◌≡◌}
use Rattle.abi.specs.Layouts.{words_from}
use Rattle.wire.specs.Storing.{written}
use Rattle.abi.proofs.layouts.read_tracks.Given as goal

abbrev pub invariant-loop-i : goal.invariant-loop-i
invariant-loop-i l = l.table ≡ written l.initial.table 0 (words_from l.bytes 20 l.i)
