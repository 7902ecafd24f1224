-- The record's own number of pairs says how many tracks are read, over a table of which nothing was read.
-- So the two are the record as it is read from the bytes.
use Rattle.unit.specs.Made.{bare}
use Rattle.abi.proofs.Unread.{read_is}
use Rattle.abi.proofs.layouts.unit_in.Goals as goal

pub returns : goal.returns
returns c =
    read_is c.args.bytes.now (bare c.record-u.result) c.record-u.ensures c.pairs.ensures (rw c.requires.1 at c.read_tracks.ensures)
