-- Two bytes in a row: what the volume answered.
-- Its start head comes first.
use Rattle.abi.proofs.layouts.put_volume.Goals as goal

pub returns : goal.returns
returns c = cc
