-- Five stores, one after the other, are the ten bytes of a geometry in a row.
-- What is stored is what the geometry answered.
use Rattle.geometry.specs.Drive.{B, C, S, volume}
use Rattle.geometry.specs.declared.VolumeNumber.TheVariants.{Zero, One}
use Rattle.abi.proofs.Stored.{geometry_stored}
use Rattle.abi.proofs.layouts.put_geometry.Goals as goal

pub returns : goal.returns
returns c =
    let a = c.args in
    rw (
      c.put_volume-2.ensures,
      c.put_volume.ensures,
      c.put16-3.ensures,
      c.put16-2.ensures,
      c.put16.ensures,
      c.volume-2.ensures,
      c.volume.ensures,
      c.bytes_a_sector.ensures,
      c.sectors_a_track.ensures,
      c.cylinders.ensures,
    ) (geometry_stored a.bytes.now (C a.g) (S a.g) (B a.g) (volume a.g Zero) (volume a.g One))
