-- The words are copied as one run.
use Prim.Native.Nat.{◌+◌}
use mathlib.Core.Path.{◌∙◌}
use native.Mathlib.Omega.{arith}
use Rattle.iopb.specs.Identity.{identity_bytes}
use Rattle.block.proofs.Entries.{copy_written}
use Rattle.block.proofs.put_identity.Goals as goal

pub returns : goal.returns
returns c =
    let a = c.args in
    rw c.identity-words.ensures at c.copy.ensures
    ∙ copy_written identity_bytes a.host.now (a.at + 4) (omega arith)
