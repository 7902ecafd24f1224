-- The lines with spares hold: a track that no pair has as bad stays where it is, and a bad one is met by its spare's own name.
-- Which is which the two pairs tell, and what is left is arithmetic on numerals.
use Prim.Native.Nat.{ℕ, ◌+◌, ◌*◌, ◌<◌}
use mathlib.Core.Logic.{by_cases, if_pos}
use mathlib.Core.Path.{◌≡◌, refl, sym, ap, subst, ◌∙◌}
use native.Mathlib.Decide.{dec_lt}
use native.Mathlib.Omega.{arith}
use lib.ListN.{get_or, length}
use Rattle.demands.specs.Tables.{ReachedByCommands}
use Rattle.demands.specs.Tables.ReachedByCommands.{by_85, by_87}
use Rattle.demands.proofs.Tables.{reached_counts}
use Rattle.geometry.specs.declared.Address.{Address}
use Rattle.geometry.specs.declared.VolumeNumber.{VolumeNumber}
use Rattle.geometry.specs.declared.VolumeNumber.TheVariants.{Zero, One}
use Rattle.geometry.specs.Drive.{volume_sectors}
use Rattle.geometry.specs.Drive.Inside.{drive_sectors_is, marks_at_is}
use Rattle.geometry.specs.SectorBytes.{SectorByte}
use Rattle.geometry.specs.Sectors.{OnDrive, address, address_of, place_of}
use Rattle.geometry.specs.Sectors.Inside.{address_of_is, first_byte_is, mark_byte_is, place_of_is}
use Rattle.geometry.specs.SectorBytes.SectorByte.{data_at, mark_at}
use Rattle.spares.specs.declared.Track.{Track}
use Rattle.spares.specs.Lands.{InTable}
use Rattle.spares.specs.Table.{bad_of, spare_of}
use Rattle.spares.specs.Tracks.{TrackOn, stands_for, track_number}
use Rattle.spares.proofs.Adding.{before_the_pair, its_bad, its_spare}
use Rattle.spares.proofs.Laws.{on_drive_by_parts, stands_for_it}
use Rattle.unit.specs.Landing.{landed}
use Rattle.unit.specs.Standing.{CountsAsInitialized, UnitRecord, mapped, no_tracks, pairs, table}
use Rattle.unit.proofs.Apart.{bad_lands_on_its_spare, number_lands, spare_lands_on_itself}
use Rattle.unit.proofs.Laws.{lands_where_it_says}
use Rattle.worked.specs.SmallDrive.{All, Holds, drive, lands, spared, unit, with_spares}
use Rattle.worked.specs.SmallDrive.Line.{meet}
use Rattle.worked.proofs.Drive.{counts, heads_3, sectors_40, sectors_80}
use Rattle.worked.proofs.Starred.{◌and◌}
use Rattle.unit.specs.Bytes.{BadAndItsSpare, Paired, track_named}

-- ---- the two pairs

abbrev bad0 : ℕ
bad0 = track_number 1 0

abbrev spare0 : ℕ
spare0 = track_number 9 2

abbrev bad1 : ℕ
bad1 = track_number 3 1

abbrev spare1 : ℕ
spare1 = track_number 0 2

on_drive : (c h : ℕ) → c < 10 → h < 3 → TrackOn drive (track_number c h)
on_drive c h c< h< = (on_drive_by_parts c h (omega arith) drive).1 (omega (arith, heads_3))

-- After the first 85 there is one pair,
abbrev once : UnitRecord
once = mapped unit bad0 spare0

one_pair : pairs once ≡ 1
one_pair = if_pos (dec_lt 0 32) (omega arith) _ _

room : pairs once < 32
room = omega (arith, one_pair)

reached_once : ReachedByCommands once
reached_once =
    by_85 unit bad0 spare0 (by_87 drive counts.within)
    (record {
      bad_on = on_drive 1 0 (omega arith) (omega arith);
      spare_on = on_drive 9 2 (omega arith) (omega arith);
      free = record { differ = λ same. omega arith; bad_new = λ there. omega (arith, there.less); spare_new = λ there. omega (arith, there.less) };
      room = omega arith;
    })

-- and no other track is in the table.
others_new : (t : ℕ) → (t ≡ bad0 → ⊥) → (t ≡ spare0 → ⊥) → InTable (pairs once) (table once) t → ⊥
others_new t not_bad not_spare there =
    by_cases (dec_lt there.at 1)
    (λ first.
    let at : there.at ≡ 2 * 0 = omega arith in
    not_bad (sym there.here ∙ ap (λ (i : ℕ). get_or (table once) i 0) at ∙ its_bad 0 no_tracks bad0 spare0 (omega arith) refl))
    (λ later.
    let at : there.at ≡ 2 * 0 + 1 = omega (arith, there.less, one_pair) in
    not_spare (sym there.here ∙ ap (λ (i : ℕ). get_or (table once) i 0) at ∙ its_spare 0 no_tracks bad0 spare0 (omega arith) refl))

reached : ReachedByCommands with_spares
reached =
    by_85 once bad1 spare1 reached_once
    (record {
      bad_on = on_drive 3 1 (omega arith) (omega arith);
      spare_on = on_drive 0 2 (omega arith) (omega arith);
      free =
          record {
            differ = λ same. omega arith;
            bad_new = others_new bad1 (λ is. omega arith) (λ is. omega arith);
            spare_new = others_new spare1 (λ is. omega arith) (λ is. omega arith);
          };
      room = room;
    })

counts_still : CountsAsInitialized with_spares
counts_still = reached_counts with_spares reached

two_pairs : pairs with_spares ≡ 2
two_pairs = if_pos (dec_lt (pairs once) 32) room _ _ ∙ ap (λ (n : ℕ). n + 1) one_pair

-- What the two pairs have.
long : length (table once) ≡ 64
long = (reached_counts once reached_once).good.long

abbrev before : (i : ℕ) → i < 2 * pairs once → get_or (table with_spares) i 0 ≡ get_or (table once) i 0
before = before_the_pair (pairs once) (table once) bad1 spare1 room long

bad0_is : bad_of (table with_spares) 0 ≡ bad0
bad0_is = before 0 (omega (arith, one_pair)) ∙ its_bad 0 no_tracks bad0 spare0 (omega arith) refl

spare0_is : spare_of (table with_spares) 0 ≡ spare0
spare0_is = before 1 (omega (arith, one_pair)) ∙ its_spare 0 no_tracks bad0 spare0 (omega arith) refl

bad1_is : bad_of (table with_spares) (pairs once) ≡ bad1
bad1_is = its_bad (pairs once) (table once) bad1 spare1 room long

spare1_is : spare_of (table with_spares) (pairs once) ≡ spare1
spare1_is = its_spare (pairs once) (table once) bad1 spare1 room long

abbrev track : ℕ → ℕ → Track
track c h = record { cylinder = c; head = h }

pair0 : Paired with_spares (track 1 0) (track 9 2)
pair0 =
    record {
      pair = 0;
      counts = omega (arith, two_pairs);
      its_bad = ap stands_for bad0_is ∙ stands_for_it 1 0 (omega arith);
      its_spare = ap stands_for spare0_is ∙ stands_for_it 9 2 (omega arith);
    }

pair1 : Paired with_spares (track 3 1) (track 0 2)
pair1 =
    record {
      pair = pairs once;
      counts = omega (arith, one_pair, two_pairs);
      its_bad = ap stands_for bad1_is ∙ stands_for_it 3 1 (omega arith);
      its_spare = ap stands_for spare1_is ∙ stands_for_it 0 2 (omega arith);
    }

-- ---- where addresses land

abbrev named : Address → ℕ
named a = track_number a.cylinder a.head

-- On a track that neither pair has as bad, where they say.
stays : (a : Address) → (named a ≡ bad0 → ⊥) × (named a ≡ bad1 → ⊥) → landed with_spares a ≡ a
stays a other =
    lands_where_it_says with_spares a
    (λ i less is.
    by_cases (dec_lt i 1)
    (λ first.
    let at : i ≡ 0 = omega arith in
    other.0 (sym is ∙ ap (bad_of (table with_spares)) at ∙ bad0_is))
    (λ later.
    let at : i ≡ pairs once = omega (arith, one_pair, two_pairs) in
    other.1 (sym is ∙ ap (bad_of (table with_spares)) at ∙ bad1_is)))

there : (a : Address) → (a.cylinder < 10) × (a.head < 3) × (a.sector < 4) → OnDrive drive a
there a is = record { cylinder = is.0; head = omega (arith, heads_3); sector = omega arith }

-- ---- the lines

abbrev place_at : Address → ℕ
place_at a = (a.cylinder * 3 + a.head) * 4 + a.sector

place_at_lem : (a : Address) → place_of drive a ≡ place_at a
place_at_lem a = rw (place_of_is, heads_3)

-- Both volumes have 40 sectors or more.
in_either : (v : VolumeNumber) (n : ℕ) → n < 40 → n < volume_sectors drive v
in_either Zero n less = omega (arith, sectors_80)
in_either One n less = omega (arith, sectors_40)

stands_at :
    (v : VolumeNumber) (n : ℕ) (a : Address) → n < 40 → landed with_spares (address_of drive v n) ≡ a → Holds (lands v n (place_at a) (place_at a * 64))
stands_at v n a less is =
    record {
      in_volume = in_either v n less;
      there = number_lands with_spares v n ∙ ap (place_of drive) is ∙ place_at_lem a;
      first_byte_lem = first_byte_is drive (place_at a);
    }

-- A number that leads to another track stands where it stood without the pairs,
as_before :
    (v : VolumeNumber) (n : ℕ) (a : Address) → n < 40 → address_of drive v n ≡ a → (named a ≡ bad0 → ⊥) × (named a ≡ bad1 → ⊥) →
    Holds (lands v n (place_at a) (place_at a * 64))
as_before v n a less leads other = stands_at v n a less (ap (landed with_spares) leads ∙ stays a other)

-- and one that leads to a bad track on the spare of that.
on_its_spare :
    (v : VolumeNumber) (n : ℕ) (a : Address) (k : Track) → n < 40 → address_of drive v n ≡ a → (a.cylinder < 10) × (a.head < 3) × (a.sector < 4) →
    Paired with_spares (track_named a) k →
    Holds (lands v n (place_at (address k.cylinder k.head a.sector)) (place_at (address k.cylinder k.head a.sector) * 64))
on_its_spare v n a k less leads on pair =
    stands_at v n (address k.cylinder k.head a.sector) less
    (ap (landed with_spares) leads ∙ bad_lands_on_its_spare with_spares counts_still a (there a on) k pair)

-- An address on a bad track and the one on its spare at the same sector, which is what lands there itself.
they_meet :
    (a b : Address) (x : ℕ) → (a.cylinder < 10) × (a.head < 3) × (a.sector < 4) → (b.cylinder < 10) × (b.head < 3) × (b.sector < 4) →
    (a ≡ b → ⊥) → BadAndItsSpare with_spares a b → SectorByte drive (place_at b) x → Holds (meet a b x)
they_meet a b x on-a on-b differ it here =
    record {
      reached = reached;
      first_on = there a on-a;
      second_on = there b on-b;
      differ = differ;
      first_no_spare = λ on. differ (sym (spare_lands_on_itself with_spares counts_still a (there a on-a) on) ∙ a_lands);
      second_spare = (track_named a, it.paired);
      both = (
        subst (λ (p : ℕ). SectorByte drive p x) (sym (ap (place_of drive) a_lands ∙ place_at_lem b)) here,
        subst (λ (p : ℕ). SectorByte drive p x) (sym (ap (place_of drive) b_lands ∙ place_at_lem b)) here,
      );
    }
  where
    a_lands : landed with_spares a ≡ b
    a_lands =
        bad_lands_on_its_spare with_spares counts_still a (there a on-a) (track_named b) it.paired
        ∙ ap (λ (s : ℕ). address b.cylinder b.head s) it.sector

    b_lands : landed with_spares b ≡ b
    b_lands = spare_lands_on_itself with_spares counts_still b (there b on-b) (track_named a, it.paired)

cylinders_differ : (a b : Address) → (a.cylinder ≡ b.cylinder → ⊥) → a ≡ b → ⊥
cylinders_differ a b differ same = differ (ap (λ (a : Address). a.cylinder) same)

-- ---- the table

pub spared_hold : All spared
spared_hold =
    as_before Zero 7 (address 0 1 3) (omega arith) (address_of_is drive Zero 7) (omega arith)
    and on_its_spare Zero 8 (address 1 0 0) (track 9 2) (omega arith) (address_of_is drive Zero 8) (omega arith) pair0
    and on_its_spare Zero 10 (address 1 0 2) (track 9 2) (omega arith) (address_of_is drive Zero 10) (omega arith) pair0
    and as_before Zero 12 (address 1 1 0) (omega arith) (address_of_is drive Zero 12) (omega arith)
    and on_its_spare Zero 31 (address 3 1 3) (track 0 2) (omega arith) (address_of_is drive Zero 31) (omega arith) pair1
    and as_before One 3 (address 0 2 3) (omega arith) (address_of_is drive One 3) (omega arith)
    and as_before One 35 (address 8 2 3) (omega arith) (address_of_is drive One 35) (omega arith)
    and as_before One 38 (address 9 2 2) (omega arith) (address_of_is drive One 38) (omega arith)
    and they_meet (address 1 0 2) (address 9 2 2) 7552 (omega arith) (omega arith) (cylinders_differ _ _ (λ is. omega arith))
    (record { paired = pair0; sector = refl }) (data_at (omega (arith, first_byte_is drive 118)))
    and they_meet (address 1 0 2) (address 9 2 2) 7798 (omega arith) (omega arith) (cylinders_differ _ _ (λ is. omega arith))
    (record { paired = pair0; sector = refl }) (mark_at (omega (arith, mark_byte_is drive 118, marks_at_is drive, drive_sectors_is drive, heads_3)))
    and they_meet (address 3 1 3) (address 0 2 3) 767 (omega arith) (omega arith) (cylinders_differ _ _ (λ is. omega arith))
    (record { paired = pair1; sector = refl }) (data_at (omega (arith, first_byte_is drive 11)))
    and tt
