-- Two pairs of bytes in a row.
-- The second byte is what was made of the flag.
use Rattle.abi.proofs.Stored.{opening_stored}
use mathlib.Core.Bool.{cond}
use Rattle.abi.proofs.layouts.put_opening.Goals as goal

pub returns : goal.returns
returns c =
    let a = c.args in
    let stored = opening_stored a.bytes.now (cond a.initialized 0x01 0x00) in
    cc
