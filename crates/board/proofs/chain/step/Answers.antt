-- The unit of the block's request chooses the drive.
-- What the block does there is its effect on the world, and what it tells of its unit is known from then on.
use Rattle.unit.specs.declared.UnitNumber.{UnitNumber}
use Rattle.block.specs.Steps.{three}
use Rattle.board.proofs.Chains.{step_by, told_then}
use Rattle.board.specs.Run.{world_of}
use Rattle.board.proofs.chain.step.Goals as goal

pub returns-in-Zero : goal.returns-in-Zero
returns-in-Zero c =
    let a = c.args in
    let w = (world_of a.c a.host.now a.image0.now a.image1.now a.events.now a.units.now) in
    let block = c.run_block-told in
    let told = told_then _ _ _ _ _ _ block.ensures in
    record {
      to =
          step_by w a.at a.i _ UnitNumber.Zero c.unit_at.ensures c.in-Zero.is
          (three block.new.host block.new.image block.new.events) block.new.unit block.result block.ensures;
      knows = (told, c.requires.1.1);
    }

pub returns-in-One : goal.returns-in-One
returns-in-One c =
    let a = c.args in
    let w = (world_of a.c a.host.now a.image0.now a.image1.now a.events.now a.units.now) in
    let block = c.run_block-told-in-One in
    let told = told_then _ _ _ _ _ _ block.ensures in
    record {
      to =
          step_by w a.at a.i _ UnitNumber.One c.unit_at.ensures c.in-One.is
          (three block.new.host block.new.image block.new.events) block.new.unit block.result block.ensures;
      knows = (c.requires.1.0, told);
    }
