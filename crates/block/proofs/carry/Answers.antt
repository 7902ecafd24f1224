-- What is moved has its own way; nothing, and a track, need no pieces.
use lib.ListN.{length}
use Rattle.block.proofs.Gathered.{track_fits}
use Rattle.block.proofs.carry.Goals as goal

pub without_pieces-requires : goal.without_pieces-requires
without_pieces-requires c = (c.requires.0, rw c.in-Nothing.is tt)

pub carry_job-requires : goal.carry_job-requires
carry_job-requires c = (c.requires.0, rw c.in-Sectors.is at c.requires.1)

pub without_pieces-requires-in-Track : goal.without_pieces-requires-in-Track
without_pieces-requires-in-Track c =
    let a = c.args in
    (c.requires.0, rw c.in-Track.is (track_fits a.host.now (length a.image.now) a.u.now _ _ (rw c.in-Track.is at c.requires.1)))

pub returns-in-Nothing : goal.returns-in-Nothing
returns-in-Nothing c = rw c.in-Nothing.is (rw c.in-Nothing.is at c.without_pieces.ensures)

pub returns-in-Sectors : goal.returns-in-Sectors
returns-in-Sectors c = rw c.in-Sectors.is c.carry_job.ensures

pub returns-in-Track : goal.returns-in-Track
returns-in-Track c = rw c.in-Track.is (rw c.in-Track.is at c.without_pieces-in-Track.ensures)
