-- A list that cannot be read fails one of the two tests, and has no pieces.
-- One that passes both is filled slot by slot.
use mathlib.Core.Path.{sym, ◌∙◌}
use native.Mathlib.Omega.{arith}
use Rattle.memory.specs.Readable.{ListPlace}
use Rattle.memory.proofs.Lists.{pieces_inside, pieces_outside}
use Rattle.memory.proofs.copy_out.Goals as goal
use Rattle.memory.proofs.copy_out.Goals.{then-n-gt64-via-then-n-gt64, then-n-gt64-via-else-n-gt64+then-not-holds}

pub returns-then-n-gt64 : goal.returns-then-n-gt64
returns-then-n-gt64 c =
    let a = c.args in
    let out : ListPlace a.host.now a.at a.elements → ⊥ =
    λ list. elim c.then-n-gt64.branch [
      | then-n-gt64-via-then-n-gt64 w ↦ omega arith
      | then-n-gt64-via-else-n-gt64+then-not-holds w ↦ w.if-not-holds.ensures (rw w.from.ensures list.place)
    ] in
    c.copied.ensures ∙ sym (pieces_outside _ _ _ out)

pub returns : goal.returns
returns c =
    let place = rw c.from.ensures at c.if-not-holds.ensures in
    c.copied-2.ensures
    ∙ rw c.from-n.ensures (sym (pieces_inside _ _ _ (record { most = omega arith; place = place })))
