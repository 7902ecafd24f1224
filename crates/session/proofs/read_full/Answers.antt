-- What a read gives stands after what was read before.
use Rattle.std.proofs.Common.{rules, ◌-◌, length}
use Rattle.session.proofs.Reading.{reads_on}
use Rattle.session.proofs.read_full.Goals as goal

pub loop-done-preserved : goal.loop-done-preserved
loop-done-preserved g c =
    record {
      within = search rules;
      bytes =
          reads_on _ _ _ c.loop-done.done (length c.loop-done.buffer - c.loop-done.done) c.in-Ok.more c.loop-done.buffer c.read.new.buf
          c.loop-done.invariant.within c.in-Ok.ensures.bound.0 c.loop-done.invariant.bytes c.in-Ok.ensures.bytes.0;
    }
