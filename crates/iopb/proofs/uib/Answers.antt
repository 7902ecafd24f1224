-- The order is the bit of the attributes, by the law of masks; the rest is read where it stands.
use Prim.Native.Nat.{◌+◌}
use mathlib.Core.Path.{◌∙◌}
use native.Mathlib.Omega.{arith}
use Rattle.geometry.specs.Drive.{with_increment}
use Rattle.iopb.specs.Layout.{byte}
use Rattle.iopb.proofs.Bits.{bit_by_mask}
use Rattle.iopb.proofs.uib.Goals as goal

pub returns : goal.returns
returns c =
    let made = rw (c.new-volume0.ensures, c.new-volume1.ensures, c.be16.ensures, c.be16-2.ensures) at c.new.ensures in
    let by_head = bit_by_mask 2 (byte c.args.host.now (c.args.at + 14)) (omega arith) in
    c.with_increment.ensures ∙ (λ i. with_increment (by_head i) (made i))
