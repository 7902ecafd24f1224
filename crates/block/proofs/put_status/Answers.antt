-- Two bytes are stored, one after the other.
use native.Mathlib.Omega.{arith}
use lib.ListN.{length-set}
use Rattle.block.proofs.Entries.{two_written}
use Rattle.block.proofs.put_status.Goals as goal

pub bounds-host-at-2 : goal.bounds-host-at-2
bounds-host-at-2 c = simp length-set (omega arith)

pub returns : goal.returns
returns c = two_written c.args.host.now c.args.at c.args.status c.args.error
