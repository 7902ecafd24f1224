-- After i turns the first i tracks are stored, and nothing else has changed.
use mathlib.Core.Path.{◌≡◌}
use lib.ListN.{take}
use Rattle.abi.specs.Layouts.{track_bytes}
use Rattle.wire.specs.Storing.{written}
use Rattle.abi.proofs.layouts.put_tracks.Given as goal

abbrev pub invariant-loop-i : goal.invariant-loop-i
invariant-loop-i l = l.bytes ≡ written l.initial.bytes 20 (track_bytes (take l.i l.table))
