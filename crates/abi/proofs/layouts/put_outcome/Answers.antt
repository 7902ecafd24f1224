-- Five stores, one after the other, are the sixteen bytes of an outcome in a row.
-- At fixed places they are the layout's bytes.
use Rattle.abi.proofs.Stored.{outcome_stored}
use Rattle.abi.proofs.layouts.put_outcome.Goals as goal

pub returns : goal.returns
returns c =
    let a = c.args in
    let stored = outcome_stored a.bytes.now a.answer a.failed a.blocks a.sectors in
    cc
