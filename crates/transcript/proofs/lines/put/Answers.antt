-- A copy of the whole part is its bytes stored one after the other.
use mathlib.Core.Path.{refl, ◌∙◌}
use native.Mathlib.Omega.{arith}
use Rattle.std.proofs.lemmas.Slice.{put_mid-paste}
use Rattle.block.proofs.Entries.{copy_written}
use Rattle.transcript.proofs.lines.put.Goals as goal

pub returns : goal.returns
returns c =
    let a = c.args in
    record {
      stored = put_mid-paste a.at _ a.text.now _ a.bytes.now _ c.copy_from_slice.ensures.after (omega arith) refl ∙ copy_written a.bytes.now a.text.now a.at (omega arith);
      after = refl;
    }
