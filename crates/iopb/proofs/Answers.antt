-- What is found at a UIB's address, by cases: where it can be read, its geometry; elsewhere, that it is misplaced.
-- The definition picks by a decision, and a decision that is known picks its side.
use Rattle.std.proofs.Common.{None, Some}
use Prim.Native.Nat.{ℕ}
use mathlib.Core.List.{List}
use mathlib.Core.Logic.{if_neg, if_pos}
use mathlib.Core.Path.{◌≡◌}
use Rattle.wire.proofs.Decided.{in_memory?}
use Rattle.wire.specs.Memory.{InMemory}
use Rattle.iopb.specs.Ask.{shape_at}
use Rattle.iopb.specs.Layout.{uib_at}

pub shape_at_inside : (host : List ℕ) (at : ℕ) → InMemory host at 18 → shape_at host at ≡ Some (uib_at host at)
unfolding shape_at
shape_at_inside host at place = if_pos (in_memory? host at 18) place _ _

pub shape_at_outside : (host : List ℕ) (at : ℕ) → (InMemory host at 18 → ⊥) → shape_at host at ≡ None
unfolding shape_at
shape_at_outside host at out = if_neg (in_memory? host at 18) out _ _
