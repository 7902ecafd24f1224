-- After i turns the first i slots are filled and the others are 0.
-- A turn fills one slot more.
use mathlib.Core.Path.{◌≡◌}
use Rattle.memory.specs.Pieces.{addresses_of, lengths_of}
use Rattle.memory.proofs.copied.Given as goal

abbrev pub invariant-loop-i : goal.invariant-loop-i
invariant-loop-i l = (l.lengths ≡ lengths_of l.host l.at l.i) × (l.addresses ≡ addresses_of l.host l.at l.i)
