-- Two bytes in a row.
-- The second is stored beside the first.
use Rattle.abi.proofs.Stored.{two_stored}
use lib.ListN.{length-set}
use native.Mathlib.Omega.{arith}
use Rattle.abi.proofs.layouts.put_two.Goals as goal

pub bounds-bytes-at-2 : goal.bounds-bytes-at-2
bounds-bytes-at-2 c = simp length-set (omega arith)

pub returns : goal.returns
returns c = two_stored c.args.bytes.now c.args.at c.args.first c.args.second
