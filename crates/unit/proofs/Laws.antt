-- Where requests land, as the crates above may know it: inside the drive, and a track in one run.
-- Each is the geometry's law of the same name, of the address on the track that serves the one named.
use Rattle.spares.specs.declared.Track.{Track}
use Rattle.std.proofs.Common.{None, Option, Some}
use Prim.Native.Nat.{ℕ, ◌+◌, ◌-◌, ◌≤◌, ◌<◌, min}
use mathlib.Core.Path.{◌≡◌, refl, sym, ap, ◌∙◌}
use native.Mathlib.Nat.{sub-zero}
use native.Mathlib.Omega.{arith}
use Rattle.geometry.specs.declared.Address.{Address}
use Rattle.geometry.specs.declared.Geometry.{Geometry}
use Rattle.geometry.specs.declared.VolumeNumber.{VolumeNumber}
use Rattle.geometry.specs.Drive.{C, S, drive_sectors, volume_sectors}
use Rattle.geometry.specs.Sectors.{OnDrive, address, address_of, place_of}
use Rattle.geometry.proofs.Laws as geometry
use Rattle.spares.specs.Table.{bad_of, served_at}
use Rattle.spares.specs.Tracks.{track_number}
use Rattle.spares.proofs.Laws.{itself_at, server_at_on_drive, serves_itself}
use Rattle.unit.specs.declared.Spot.{Spot}
use Rattle.unit.specs.Landing.{landed, onto, spot_at, spot_of, track_of}
use Rattle.unit.specs.Landing.Behind.{landed_is, spot_at_is, spot_of_is, track_of_is}
use Rattle.unit.specs.Standing.{UnitRecord, pairs, table}
use Rattle.unit.specs.Standing as standing

-- A spot inside the drive, with the rest of its track.
pub record InDrive (g : Geometry) (s : Spot) : Type 0 where
  pub cylinder : s.cylinder < C g
  pub some : 0 < s.rest
  pub place : s.place + s.rest ≤ drive_sectors g

module _ (g : Geometry) (a : Address) (on : OnDrive g a) where
  spot_at_inside : InDrive g (spot_at g a)
  spot_at_inside =
      let last = S g - a.sector - 1 in
      let end_on : OnDrive g (address a.cylinder a.head (a.sector + last)) = omega arith in
      rw spot_at_is
      (omega
      (arith, geometry.place_inside g _ end_on, geometry.track_consecutive g a.cylinder a.head a.sector last))

-- ---- where an address lands

module _ (u : UnitRecord) where
  abbrev shape : Geometry
  shape = standing.geometry u

  abbrev serving : ℕ → ℕ → Option Track
  serving c h = served_at shape (pairs u) (table u) c h

  -- An address whose track no pair has as bad lands where it says,
  pub lands_where_it_says :
      (a : Address) → ((i : ℕ) → i < min (pairs u) 32 → bad_of (table u) i ≡ track_number a.cylinder a.head → ⊥) → landed u a ≡ a
  lands_where_it_says a none =
      let t = track_number a.cylinder a.head in
      landed_is u a
      ∙ ap (λ (x : Option Track). onto x a)
      (itself_at shape (pairs u) (table u) a.cylinder a.head (serves_itself shape (pairs u) (table u) t none))

  -- and so does every one where no pair counts.
  pub no_pairs_lands_there : pairs u ≡ 0 → (a : Address) → landed u a ≡ a
  no_pairs_lands_there none a = lands_where_it_says a (λ i less. absurd (omega (arith, rw none at less)))

  pub landed_on_drive : (a : Address) → OnDrive shape a → OnDrive shape (landed u a)
  landed_on_drive a on = rw landed_is (by_served (serving a.cylinder a.head) refl)
    where
      by_served : (s : Option Track) → serving a.cylinder a.head ≡ s → OnDrive shape (onto s a)
      by_served None is = on
      by_served (Some k) is =
          let its = server_at_on_drive shape (pairs u) (table u) a.cylinder a.head k is in
          record { cylinder = its.0; head = its.1; sector = on.sector }

  -- Each address of the drive lands inside the drive.
  pub address_inside : (a : Address) → OnDrive shape a → InDrive shape (spot_at shape (landed u a))
  address_inside a on = spot_at_inside shape (landed u a) (landed_on_drive a on)

  pub landed_sector : (a : Address) → (landed u a).sector ≡ a.sector
  landed_sector a = rw landed_is (by_served (serving a.cylinder a.head))
    where
      by_served : (s : Option Track) → (onto s a).sector ≡ a.sector
      by_served None = refl
      by_served (Some k) = refl

  -- A track lands as a whole: each of its sectors on the same sector of one track,
  pub lands_as_a_whole :
      (c h s : ℕ) → landed u (address c h s) ≡ address (landed u (address c h 0)).cylinder (landed u (address c h 0)).head s
  lands_as_a_whole c h s = rw (landed_is u (address c h s), landed_is u (address c h 0)) (by_served (serving c h))
    where
      by_served : (x : Option Track) → onto x (address c h s) ≡ address (onto x (address c h 0)).cylinder (onto x (address c h 0)).head s
      by_served None = refl
      by_served (Some t) = refl

  -- so that sectors in a row land in a row.
  pub landed_in_a_row :
      (c h s k : ℕ) →
      landed u (address c h (s + k)) ≡
      address (landed u (address c h s)).cylinder (landed u (address c h s)).head ((landed u (address c h s)).sector + k)
  landed_in_a_row c h s k = rw (lands_as_a_whole c h (s + k), lands_as_a_whole c h s)

  -- ---- a track

  pub track_inside : (c h : ℕ) → OnDrive shape (address c h 0) → InDrive shape (track_of u c h)
  track_inside c h on = rw track_of_is (address_inside (address c h 0) on)

  -- From a track's first sector on the whole track is left.
  pub track_whole : (c h : ℕ) → (track_of u c h).rest ≡ S shape
  track_whole c h = rw (track_of_is, spot_at_is, landed_sector) (sub-zero (S shape))

module _ (u : UnitRecord) (v : VolumeNumber) where
  abbrev g : Geometry
  g = standing.geometry u

  abbrev lands : ℕ → Address
  lands n = landed u (address_of g v n)

  parts :
      (n : ℕ) →
      ((spot_of u v n).cylinder ≡ (lands n).cylinder) ×
      (((spot_of u v n).place ≡ place_of g (lands n)) × ((spot_of u v n).rest ≡ S g - (address_of g v n).sector))
  parts n = rw (spot_of_is, spot_at_is, landed_sector) (refl, (refl, refl))

  -- Each number of a volume lands inside the drive.
  pub spot_inside : (n : ℕ) → n < volume_sectors g v → InDrive g (spot_of u v n)
  spot_inside n inside = rw spot_of_is (address_inside u _ (geometry.address_on_drive g v n inside))

  -- The rest of a track is consecutive, in the volume and in the image.
  pub spots_consecutive :
      (n k : ℕ) → n < volume_sectors g v → k < (spot_of u v n).rest →
      (n + k < volume_sectors g v) × ((spot_of u v (n + k)).place ≡ (spot_of u v n).place + k)
  spots_consecutive n k inside rest =
      let here = parts n in
      let there = parts (n + k) in
      let a = address_of g v n in
      let more : a.sector + k < S g = omega arith in
      let next : lands (n + k) ≡ address (lands n).cylinder (lands n).head ((lands n).sector + k) =
      ap (landed u) (geometry.track_numbers g v n inside k more) ∙ landed_in_a_row u a.cylinder a.head a.sector k in (
        geometry.track_inside g v n inside k more,
        there.1.0 ∙ ap (place_of g) next ∙ geometry.track_consecutive g (lands n).cylinder (lands n).head (lands n).sector k ∙
            ap (λ (x : ℕ). x + k) (sym here.1.0),
      )
