-- Two units that differ in their tables past the pairs that count alone are alike: both count as initialized or neither does, and everything lands alike.
-- What serves a track is the same in both tables, and the rest is the record by value.
use Rattle.spares.specs.declared.Track.{Track}
use Rattle.std.proofs.Common.{Option}
use Prim.Native.Nat.{ℕ}
use mathlib.Core.List.{List}
use mathlib.Core.Path.{◌≡◌, sym, ap, ◌∙◌}
use lib.ListN.{length}
use Rattle.geometry.specs.declared.Address.{Address}
use Rattle.geometry.specs.declared.VolumeNumber.{VolumeNumber}
use Rattle.geometry.specs.Sectors.{address, address_of}
use Rattle.spares.specs.Lands.{counted}
use Rattle.spares.proofs.Alike.{good_alike, served_alike}
use Rattle.unit.specs.declared.Record.{Record}
use Rattle.unit.specs.Landing.{landed, onto, spot_at, spot_of, track_of}
use Rattle.unit.specs.Landing.Behind.{landed_is, spot_of_is, track_of_is}
use Rattle.unit.specs.Standing.{CountsAsInitialized, unit_of}

module _ (r : Record) (ts us : List ℕ) (same : counted r.pairs ts ≡ counted r.pairs us) where
  pub landed_alike : (a : Address) → landed (unit_of r ts) a ≡ landed (unit_of r us) a
  landed_alike a =
      landed_is (unit_of r ts) a
      ∙ ap (λ (s : Option Track). onto s a) (served_alike r.pairs ts us same r.geometry a.cylinder a.head)
      ∙ sym (landed_is (unit_of r us) a)

  pub spot_alike : (v : VolumeNumber) (n : ℕ) → spot_of (unit_of r ts) v n ≡ spot_of (unit_of r us) v n
  spot_alike v n =
      spot_of_is (unit_of r ts) v n ∙ ap (spot_at r.geometry) (landed_alike (address_of r.geometry v n)) ∙ sym (spot_of_is (unit_of r us) v n)

  pub track_alike : (c h : ℕ) → track_of (unit_of r ts) c h ≡ track_of (unit_of r us) c h
  track_alike c h =
      track_of_is (unit_of r ts) c h ∙ ap (spot_at r.geometry) (landed_alike (address c h 0)) ∙ sym (track_of_is (unit_of r us) c h)

  pub counts_alike : length us ≡ 64 → CountsAsInitialized (unit_of r ts) → CountsAsInitialized (unit_of r us)
  counts_alike long counts =
      record {
        said = counts.said;
        within = counts.within;
        cylinder = counts.cylinder;
        good = good_alike r.pairs ts us same r.geometry long counts.good;
      }
