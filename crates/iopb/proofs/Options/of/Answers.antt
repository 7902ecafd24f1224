-- Each option is its bit, by the law of masks.
use native.Mathlib.Omega.{arith}
use Rattle.iopb.proofs.Bits.{bit_by_mask}
use Rattle.iopb.proofs.Options.of.Goals as goal

pub returns : goal.returns
returns c =
    let x = c.args.byte in
    λ i. record {
      unit = bit_by_mask 7 x (omega arith) i;
      volume = bit_by_mask 6 x (omega arith) i;
      link = bit_by_mask 5 x (omega arith) i;
      logical = bit_by_mask 4 x (omega arith) i;
      reserve = bit_by_mask 3 x (omega arith) i;
      disable = bit_by_mask 2 x (omega arith) i;
      interrupt = bit_by_mask 1 x (omega arith) i;
      correct = bit_by_mask 0 x (omega arith) i;
    }
