-- Three bytes are stored, one after the other.
-- What is reported fits its bytes, so that no cast loses a bit.
use Prim.Native.Nat.{◌-◌}
use native.Mathlib.Omega.{arith}
use lib.ListN.{length-set}
use Rattle.block.proofs.Entries.{three_written}
use Rattle.block.proofs.put_formatted.Goals as goal

pub bounds-host-at-2 : goal.bounds-host-at-2
bounds-host-at-2 c = simp length-set (omega arith)

pub bounds-host-at-3 : goal.bounds-host-at-3
bounds-host-at-3 c = simp length-set (omega arith)

pub returns : goal.returns
returns c = three_written c.args.host.now c.args.at (c.args.sectors - 1) 0 c.args.sectors
