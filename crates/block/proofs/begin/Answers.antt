-- The block is marked, and what is ready comes to what its transfer's definition says.
-- Its stores are then the 81 00 and the data.
use mathlib.Core.List.{[], ◌∷◌}
use Prim.Native.Nat.{◌+◌}
use mathlib.Core.Path.{refl, sym, ◌∙◌}
use lib.ListN.{length}
use Rattle.std.proofs.lemmas.Option.{same_Some}
use Rattle.transfer.specs.Data.{formatting}
use Rattle.transfer.specs.Progress.{progress}
use Rattle.transfer.specs.Runs.{piece_byte}
use Rattle.transfer.specs.Whole.{span_transfer}
use Rattle.block.proofs.Transfers.{begun_made, nothing_made, sectors_ready, track_ready}
use Rattle.wire.specs.Storing.{written}
use Rattle.block.proofs.begin.Goals as goal

pub returns-in-Nothing : goal.returns-in-Nothing
unfolding progress
returns-in-Nothing c =
    let a = c.args in
    rw c.in-Nothing.is
    (record {
      result = c.nothing_moved.ensures;
      stored = rw c.put_status.ensures (nothing_made a.u.now a.at a.host.now a.image.now (piece_byte a.lengths.now a.addresses.now));
    })

pub unwrap-requires : goal.unwrap-requires
unwrap-requires c =
    let a = c.args in
    let fit =
    sectors_ready a.u.now a.lengths.now a.addresses.now (length c.put_status.new.host) a.image.now
    (rw c.put_status.auto.host c.requires.1) c.in-Sectors.job c.in-Sectors.is in
    rw (rw fit at c.move_sectors.ensures.result) refl

pub returns-in-Sectors : goal.returns-in-Sectors
returns-in-Sectors c =
    let a = c.args in
    let j = c.in-Sectors.job in
    let u = a.u.now in
    let moved = c.move_sectors in
    let fit =
    sectors_ready u a.lengths.now a.addresses.now (length c.put_status.new.host) a.image.now (rw c.put_status.auto.host c.requires.1) j c.in-Sectors.is in
    rw c.in-Sectors.is
    (record {
      result = same_Some _ _ (sym c.unwrap.ensures ∙ rw fit at moved.ensures.result);
      stored =
          begun_made (span_transfer u j.span j.to_host j.past_marks a.lengths.now a.addresses.now) a.at a.host.now a.image.now moved.new.host moved.new.image
          (rw (fit, c.put_status.ensures) at moved.ensures.stores);
    })

pub unwrap-requires-in-Track : goal.unwrap-requires-in-Track
unwrap-requires-in-Track c =
    let a = c.args in
    let fit =
    track_ready a.u.now a.lengths.now a.addresses.now (length c.put_status.new.host) a.image.now
    (rw c.put_status.auto.host c.requires.1) a.u.now refl c.in-Track.spot c.in-Track.buffer c.in-Track.is in
    rw (rw fit at c.format_track.ensures.result) refl

pub returns-in-Track : goal.returns-in-Track
returns-in-Track c =
    let a = c.args in
    let t = c.in-Track in
    let u = a.u.now in
    let moved = c.format_track in
    let fit =
    track_ready u a.lengths.now a.addresses.now (length c.put_status.new.host) a.image.now (rw c.put_status.auto.host c.requires.1) a.u.now refl t.spot t.buffer t.is in
    rw t.is
    (record {
      result = same_Some _ _ (sym c.unwrap-in-Track.ensures ∙ rw fit at moved.ensures.result);
      stored =
          rw c.put_status.ensures
          (begun_made (formatting u t.spot t.buffer) a.at a.host.now a.image.now (written a.host.now (a.at + 2) (0x81 ∷ 0x00 ∷ [])) moved.new.image
          (rw (fit, c.put_status.ensures) at moved.ensures.stores));
    })
