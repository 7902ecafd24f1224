-- A track lands where its sector 0 does.
-- That is its definition.
use Rattle.unit.proofs.Answers.{track_landing_is}
use Rattle.unit.proofs.Unit.land_track.Goals as goal

pub returns : goal.returns
returns c = rw track_landing_is cc
