-- On a unit that counts as initialized nothing lands on a bad track, and two different addresses reach one sector only where one is on a spare and the
-- other on the bad track that it serves, at the same sector (02, K7). Different addresses have different places, and in a good table no track stands
-- twice.
use Rattle.std.proofs.Common.{None, Option, Some}
use Prim.Native.Nat.{ℕ, ◌+◌, ◌*◌, ◌<◌}
use mathlib.Core.Logic.{◌↔◌, ◌⊎◌, if_pos, inl, inr}
use mathlib.Core.Path.{◌≡◌, refl, sym, ap, subst, ◌∙◌}
use native.Mathlib.Decide.{dec_lt}
use native.Mathlib.Nat.{zero-add}
use native.Mathlib.Omega.{arith}
use lib.ListN.{get_or}
use Rattle.geometry.specs.declared.Address.{Address}
use Rattle.geometry.specs.declared.Geometry.{Geometry}
use Rattle.geometry.specs.declared.VolumeNumber.{VolumeNumber}
use Rattle.geometry.specs.Drive.{S, drive_sectors, volume_sectors}
use Rattle.geometry.specs.SectorBytes.{SectorByte}
use Rattle.geometry.specs.Sectors.{OnDrive, address, address_of, mark_byte, place_of}
use Rattle.geometry.specs.SectorBytes.SectorByte.{mark_at}
use Rattle.geometry.proofs.Ends.{heads_of_within}
use Rattle.geometry.proofs.Laws as geometry
use Rattle.spares.specs.declared.Track.{Track}
use Rattle.spares.specs.Table.{bad_of, served_at, spare_of}
use Rattle.spares.specs.Tracks.{TrackOn, stands_for, track_number}
use Rattle.spares.proofs.Laws.{Meet, lands_on_one, never_on_a_bad_track, number_again, one_place, served_by_its_spare, stands_for_it}
use Rattle.spares.proofs.Laws.Meet.{the_same, served_by, serving}
use Rattle.unit.specs.Landing.{landed, onto, spot_of, track_of}
use Rattle.unit.specs.Landing.Behind.{landed_is, spot_at_is, spot_of_is, track_of_is}
use Rattle.unit.specs.Standing.{CountsAsInitialized, UnitRecord, pairs, table}
use Rattle.unit.specs.Standing as standing
use Rattle.unit.proofs.Laws.{landed_in_a_row, landed_on_drive, landed_sector, lands_where_it_says}
use Rattle.unit.specs.Bytes.{Bad, BadAndItsSpare, Meets, NoTwoInOnePlace, OnSpare, OnTrack, Paired, Reaches, TrackByte, track_named}
use Rattle.spares.specs.Lands.{lands_on, number_serving, served}

-- ---- the place of a sector is that where an address lands

module _ (u : UnitRecord) where
  abbrev shape : Geometry
  shape = standing.geometry u

  -- By its number in a volume,
  pub number_lands : (v : VolumeNumber) (n : ℕ) → (spot_of u v n).place ≡ place_of shape (landed u (address_of shape v n))
  number_lands v n = ap (λ s. s.place) (spot_of_is u v n ∙ spot_at_is shape _)

  -- and the j-th of a track that is named.
  pub track_lands : (c h j : ℕ) → (track_of u c h).place + j ≡ place_of shape (landed u (address c h j))
  track_lands c h j =
      let l = landed u (address c h 0) in
      ap (λ (p : ℕ). p + j) (ap (λ s. s.place) (track_of_is u c h ∙ spot_at_is shape l))
      ∙ sym (geometry.track_consecutive shape l.cylinder l.head l.sector j)
      ∙ ap (place_of shape) (sym (landed_in_a_row u c h 0 j))
      ∙ ap (λ (k : ℕ). place_of shape (landed u (address c h k))) (zero-add j)

-- ---- on a unit that counts as initialized

module _ (u : UnitRecord) (counts : CountsAsInitialized u) where
  abbrev g : Geometry
  g = standing.geometry u

  -- The number of the track that an address names.
  abbrev named : Address → ℕ
  named a = track_number a.cylinder a.head

  head_below : (a : Address) → OnDrive g a → a.head < 256
  head_below a on = omega (arith, on.head, heads_of_within g counts.within.volumes)

  -- The number stands for the track,
  stands_for_named : (a : Address) → OnDrive g a → stands_for (named a) ≡ track_named a
  stands_for_named a on = stands_for_it a.cylinder a.head (head_below a on)

  -- and a track of the table that is the one named has its number.
  is_named : (a : Address) (i : ℕ) → i < 2 * pairs u → stands_for (get_or (table u) i 0) ≡ track_named a → get_or (table u) i 0 ≡ named a
  is_named a i less is =
      sym (number_again g (get_or (table u) i 0) (counts.good.on i less)) ∙ ap (λ (k : Track). track_number k.cylinder k.head) is

  by_its_number : (a : Address) → OnDrive g a → served_at g (pairs u) (table u) a.cylinder a.head ≡ served g (pairs u) (table u) (named a)
  by_its_number a on = if_pos (dec_lt a.head 256) (head_below a on) _ _

  -- The number of the track that an address lands on is the one that its track's number lands on.
  lands_by_number : (a : Address) → OnDrive g a → lands_on g (pairs u) (table u) (named a) ≡ named (landed u a)
  lands_by_number a on =
      by_served (served g (pairs u) (table u) (named a))
      ∙ ap named (sym (landed_is u a ∙ ap (λ (x : Option Track). onto x a) (by_its_number a on)))
    where
      by_served : (x : Option Track) → number_serving (named a) x ≡ named (onto x a)
      by_served None = refl
      by_served (Some k) = refl

  landed_inside : (a : Address) → OnDrive g a → place_of g (landed u a) < drive_sectors g
  landed_inside a on = geometry.place_inside g (landed u a) (landed_on_drive u a on)

  -- ---- where the addresses on each kind of track land

  -- "Every later command that lands on a bad track works on its spare": an address on the bad track of a pair lands on that pair's spare, at the same
  -- sector.
  pub bad_lands_on_its_spare :
      (a : Address) → OnDrive g a → (spare : Track) → Paired u (track_named a) spare → landed u a ≡ address spare.cylinder spare.head a.sector
  bad_lands_on_its_spare a on spare is =
      let i = is.pair in
      let its = is_named a (2 * i) (omega (arith, is.counts)) is.its_bad in
      landed_is u a
      ∙ ap (λ (x : Option Track). onto x a)
      (by_its_number a on ∙ ap (served g (pairs u) (table u)) (sym its) ∙ served_by_its_spare g (pairs u) (table u) counts.good i is.counts
      ∙ ap Some is.its_spare)

  -- One on any other track lands where it says,
  pub others_land_where_they_say : (a : Address) → OnDrive g a → (Bad u (track_named a) → ⊥) → landed u a ≡ a
  others_land_where_they_say a on not_bad =
      lands_where_it_says u a
      (λ i less is.
      let counting : i < pairs u = omega arith in
      not_bad
      (stands_for (spare_of (table u) i), record { pair = i; counts = counting; its_bad = ap stands_for is ∙ stands_for_named a on; its_spare = refl }))

  -- a spare among them: "Spare tracks may still be named directly".
  pub spare_lands_on_itself : (a : Address) → OnDrive g a → OnSpare u a → landed u a ≡ a
  spare_lands_on_itself a on (bad, is) =
      others_land_where_they_say a on
      (λ (k, as-bad).
      let spare = is_named a (2 * is.pair + 1) (omega (arith, is.counts)) is.its_spare in
      let its = is_named a (2 * as-bad.pair) (omega (arith, as-bad.counts)) as-bad.its_bad in
      let one = one_place g (pairs u) (table u) counts.good (2 * is.pair + 1) (2 * as-bad.pair) (omega (arith, is.counts)) (omega (arith, as-bad.counts)) (spare ∙ sym its) in
      omega arith)

  -- So an address on a bad track lands with the one on its spare at the same sector.
  on_one : (a b : Address) → OnDrive g a → OnDrive g b → BadAndItsSpare u a b → landed u a ≡ landed u b
  on_one a b on-a on-b it =
      bad_lands_on_its_spare a on-a (track_named b) it.paired ∙ ap (λ (s : ℕ). address b.cylinder b.head s) it.sector
      ∙ sym (spare_lands_on_itself b on-b (track_named a, it.paired))

  -- ---- no bad track is reached

  -- A bad track is on the drive.
  bad_on_drive : (k : Track) → Bad u k → (s : ℕ) → s < S g → OnDrive g (address k.cylinder k.head s)
  bad_on_drive k (spare, bad) s less =
      let on : TrackOn g (bad_of (table u) bad.pair) = counts.good.on (2 * bad.pair) (omega (arith, bad.counts)) in
      subst (λ (k : Track). OnDrive g (address k.cylinder k.head s)) bad.its_bad
      (record { cylinder = on.cylinder; head = on.head; sector = less })

  never_lands_on_bad : (a : Address) → OnDrive g a → (k : Track) → Bad u k → OnTrack g k (place_of g (landed u a)) → ⊥
  never_lands_on_bad a on k bad there =
      let b = address k.cylinder k.head there.sector in
      let same = geometry.places_differ g (landed u a) b (landed_on_drive u a on) (bad_on_drive k bad there.sector there.less) there.here in
      let its = is_named b (2 * bad.1.pair) (omega (arith, bad.1.counts)) bad.1.its_bad in
      never_on_a_bad_track g (pairs u) (table u) counts.good (named a) bad.1.pair bad.1.counts
      (lands_by_number a on ∙ ap named same ∙ sym its)

  -- No address reaches a byte of a bad track.
  pub bad_never_reached : (a : Address) → OnDrive g a → (k : Track) → Bad u k → (x : ℕ) → Reaches u a x → TrackByte g k x → ⊥
  bad_never_reached a on k bad x here there =
      let at = there.on in
      let inside : there.place < drive_sectors g =
      subst (λ (p : ℕ). p < drive_sectors g) (sym at.here)
      (geometry.place_inside g (address k.cylinder k.head at.sector) (bad_on_drive k bad at.sector at.less)) in
      let one = geometry.sectors_apart g there.place (place_of g (landed u a)) x inside (landed_inside a on) there.byte here in
      never_lands_on_bad a on k bad (subst (OnTrack g k) one at)

  -- ---- no two sectors in one place

  module _ (a b : Address) (on-a : OnDrive g a) (on-b : OnDrive g b) where
    -- Mapping never folds two tracks: where two addresses land on one track they name one, or one of them names a bad track and the other its spare.
    pub never_folds_two :
        track_named (landed u a) ≡ track_named (landed u b) →
        (track_named a ≡ track_named b) ⊎ (Paired u (track_named a) (track_named b) ⊎ Paired u (track_named b) (track_named a))
    never_folds_two same =
        by_meeting
        (lands_on_one g (pairs u) (table u) counts.good (named a) (named b)
        (lands_by_number a on-a ∙ ap (λ (k : Track). track_number k.cylinder k.head) same ∙ sym (lands_by_number b on-b)))
      where
        pair_of :
            (c d : Address) → OnDrive g c → OnDrive g d → (i : ℕ) → i < pairs u → bad_of (table u) i ≡ named c → spare_of (table u) i ≡ named d →
            Paired u (track_named c) (track_named d)
        pair_of c d on-c on-d i less bad spare =
            record { pair = i; counts = less; its_bad = ap stands_for bad ∙ stands_for_named c on-c; its_spare = ap stands_for spare ∙ stands_for_named d on-d }

        by_meeting :
            Meet g (pairs u) (table u) counts.good (named a) (named b) →
            (track_named a ≡ track_named b) ⊎ (Paired u (track_named a) (track_named b) ⊎ Paired u (track_named b) (track_named a))
        by_meeting (the_same one) = inl (sym (stands_for_named a on-a) ∙ ap stands_for one ∙ stands_for_named b on-b)
        by_meeting (served_by i less bad spare) = inr (inl (pair_of a b on-a on-b i less bad spare))
        by_meeting (serving i less bad spare) = inr (inr (pair_of b a on-b on-a i less bad spare))

    meets_in_one_place : place_of g (landed u a) ≡ place_of g (landed u b) → Meets u a b
    meets_in_one_place same = by_track (never_folds_two (ap track_named there))
      where
        there : landed u a ≡ landed u b
        there = geometry.places_differ g (landed u a) (landed u b) (landed_on_drive u a on-a) (landed_on_drive u b on-b) same

        sectors : a.sector ≡ b.sector
        sectors = sym (landed_sector u a) ∙ ap (λ (x : Address). x.sector) there ∙ landed_sector u b

        by_track : (track_named a ≡ track_named b) ⊎ (Paired u (track_named a) (track_named b) ⊎ Paired u (track_named b) (track_named a)) → Meets u a b
        by_track (inl one) = inl (λ i. address (one i).cylinder (one i).head (sectors i))
        by_track (inr (inl pair)) = inr (inl (record { paired = pair; sector = sectors }))
        by_track (inr (inr pair)) = inr (inr (record { paired = pair; sector = sym sectors }))

    lands_with_it : Meets u a b → landed u a ≡ landed u b
    lands_with_it (inl one) = ap (landed u) one
    lands_with_it (inr (inl it)) = on_one a b on-a on-b it
    lands_with_it (inr (inr it)) = sym (on_one b a on-b on-a it)

    -- Two addresses reach a byte in common exactly where they meet so.
    pub in_one_place_exactly : ((x : ℕ) × (Reaches u a x × Reaches u b x)) ↔ Meets u a b
    in_one_place_exactly = (
      λ (x, (here, there)).
          meets_in_one_place
          (geometry.sectors_apart g (place_of g (landed u a)) (place_of g (landed u b)) x (landed_inside a on-a) (landed_inside b on-b) here there),
      λ meets. (
        mark_byte g (place_of g (landed u a)),
        (mark_at refl, mark_at (ap (λ (l : Address). mark_byte g (place_of g l)) (lands_with_it meets))),
      ),
    )

  -- So two that differ, neither on a spare, reach no byte in common.
  pub no_two_in_one_place : NoTwoInOnePlace u
  no_two_in_one_place a b on-a on-b differ none-a none-b x here there = by_meeting ((in_one_place_exactly a b on-a on-b).0 (x, (here, there)))
    where
      by_meeting : Meets u a b → ⊥
      by_meeting (inl one) = differ one
      by_meeting (inr (inl it)) = none-b (track_named a, it.paired)
      by_meeting (inr (inr it)) = none-a (track_named b, it.paired)

  -- The same of two sectors of volumes, by their numbers.
  pub numbers_never_in_one_place :
      (v w : VolumeNumber) (n m : ℕ) → n < volume_sectors g v → m < volume_sectors g w → ((v ≡ w) × (n ≡ m) → ⊥) →
      (OnSpare u (address_of g v n) → ⊥) → (OnSpare u (address_of g w m) → ⊥) →
      (x : ℕ) → SectorByte g (spot_of u v n).place x → SectorByte g (spot_of u w m).place x → ⊥
  numbers_never_in_one_place v w n m n-in m-in differ none-n none-m x here there =
      no_two_in_one_place (address_of g v n) (address_of g w m) (geometry.address_on_drive g v n n-in) (geometry.address_on_drive g w m m-in)
      (λ one. differ (geometry.sectors_of_volumes_differ g counts.within.volumes v w n m n-in m-in (ap (place_of g) one)))
      none-n none-m x
      (subst (λ (p : ℕ). SectorByte g p x) (number_lands u v n) here)
      (subst (λ (p : ℕ). SectorByte g p x) (number_lands u w m) there)
