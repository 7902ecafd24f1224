-- Six stores, one after the other, are the bytes of a record in a row.
-- What is stored is what the record answered, and the tracks that are known.
use mathlib.Core.Path.{◌∙◌}
use native.Mathlib.Omega.{arith}
use Rattle.abi.proofs.Left.{known_stored}
use Rattle.abi.proofs.Stored.{record_stored}
use Rattle.abi.proofs.layouts.put_record.Goals as goal

pub put_tracks-requires : goal.put_tracks-requires
put_tracks-requires c = (omega (arith, c.requires.0), c.known_tracks.ensures.most)

pub returns : goal.returns
returns c =
    let a = c.args in
    let u = a.u.now in
    c.put_tracks.ensures ∙
    record_stored a.bytes.now u c.initialized.ensures c.geometry.ensures
    c.cylinder.ensures c.pairs.ensures c.pairs-2.ensures c.known_tracks.ensures.value
    c.put_opening.ensures c.put_geometry.ensures c.put16.ensures
    c.put_order_and_holder.ensures c.put16-2.ensures ∙
    known_stored a.bytes.now u (omega arith) c.requires.1
