-- What is moved is carried, and what is reported is stored after it.
-- The stores of the two in a row are those of the plan.
use mathlib.Core.List.{◌++◌}
use Rattle.transfer.specs.Data.{data_on}
use Rattle.block.specs.Block.{begun, reported, transfer_of}
use Rattle.block.proofs.Effects.{then_made}
use Rattle.block.proofs.carry_and_report.Goals as goal

pub returns : goal.returns
returns c =
    let a = c.args in
    let t = transfer_of a.host.now a.u.now a.plan.moving in
    let carried = c.carry-m in
    record {
      result = carried.ensures.result;
      stored = λ events.
          then_made (begun a.at ++ data_on a.image.now t) (reported a.at a.plan.report) _ _ _ (carried.ensures.stored events)
          (c.put_report.ensures carried.new.image events);
    }
