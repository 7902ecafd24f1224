-- The starred lines of the small drive hold, and the lines by cylinder: a law for each kind of line, in either order, and then the tables, line by line.
-- What the judge's laws ask of a request is told by the drive's own numbers and by its host memory.
use Rattle.std.proofs.Common.{Err, Some}
use Prim.Native.Nat.{ℕ, ◌+◌, ◌*◌, ◌≤◌, ◌<◌}
use mathlib.Core.Bool.{Bool, true, false}
use mathlib.Core.Path.{◌≡◌, refl, sym, subst, ◌∙◌}
use native.Mathlib.Omega.{arith}
use Rattle.geometry.proofs.Answers.{numbered_outside}
use Rattle.geometry.specs.Sectors.{Covers}
use Rattle.answers.specs.declared.Refusal.{Refusal}
use Rattle.answers.specs.declared.Refusal.TheVariants.{ImageShort, ListBad, SectorOutside}
use Rattle.answers.specs.Numbers.{refusal_number}
use Rattle.geometry.specs.declared.VolumeNumber.{VolumeNumber}
use Rattle.geometry.specs.declared.VolumeNumber.TheVariants.{Zero, One}
use Rattle.geometry.specs.Drive.{volume_sectors}
use Rattle.geometry.specs.Sectors.Inside.{first_byte_is}
use Rattle.judge.specs.Given.{Asked, start_number}
use Rattle.judge.specs.Verdict.{verdict}
use Rattle.judge.proofs.Tasks.{list_18, list_done, move_on, own, piece_done, span_17, span_last, span_on, start_nowhere}
use Rattle.request.specs.declared.Buffer.{Buffer}
use Rattle.request.specs.declared.Move.{Move}
use Rattle.request.specs.declared.Start.{Start}
use Rattle.unit.specs.declared.Controller.TheVariants.{First}
use Rattle.worked.specs.SmallDrive.{All, TwoFrom, Holds, Judged, RefusesWith, Stands, asking, by_cylinder, host, move, starred, unit, unit_by}
use Rattle.worked.specs.SmallDrive.Line.{scatters}
use Rattle.worked.specs.SmallDrive.Expected.{answer, passes}
use Rattle.worked.proofs.Drive.{begins_at_lem, counts_by, cylinder_is, drive_by, need_7800, number, place, place_is, present_by, sectors_40, sectors_80, track, volume_0}
use Rattle.worked.proofs.Memory.{list_good, piece_good, ranges_good}
use Rattle.judge.specs.Steps.{from_buffer, from_sectors}

-- ---- any sector

stands_there :
    (by : Bool) (v : VolumeNumber) (n : ℕ) → n < volume_sectors (drive_by by) v → Stands (unit_by by) v n (place by v n) (place by v n * 64)
stands_there by v n inside =
    record { in_volume = inside; there = place_is by v n; first_byte_lem = first_byte_is (drive_by by) (place by v n) }

-- From a physical address on.
two_from :
    (by : Bool) (c h s : ℕ) → (c < 10) × (h < 2) × (s < 4) × (number by c h s < 79) →
    TwoFrom by c h s (place by Zero (number by c h s)) (place by Zero (number by c h s + 1)) (track by Zero (number by c h s + 1)).0
two_from by c h s is =
    record {
      number = number by c h s;
      begins = begins_at_lem by c h s (omega arith);
      in_volume = omega (arith, volume_0 by);
      here = place_is by Zero (number by c h s);
      then = place_is by Zero (number by c h s + 1);
      heads = cylinder_is by Zero (number by c h s + 1);
    }

-- A verdict that refuses so has that number.
refused_so : (a : Asked) (r : Refusal) → verdict a ≡ Err r → RefusesWith (refusal_number r) (verdict a)
refused_so a r is = subst (RefusesWith (refusal_number r)) (sym is) refl

-- ---- any read of volume 0, in either order and whatever its buffer

module _ (by : Bool) (from : Start) (count image : ℕ) (b : Buffer) where
  abbrev m : Move
  m = move from count b

  -- It passes what it is asked of the unit; its sectors decide, and then its buffer.
  by_its_sectors : 0 < count → verdict (asking by m image) ≡ from_sectors (asking by m image) m
  by_its_sectors some =
      own First (unit_by by) image host _ tt refl ∙ move_on First (unit_by by) image host m (counts_by by) (present_by by) (λ none. omega arith)

  module _ (n : ℕ) (begins : start_number (drive_by by) Zero from ≡ Some n) where
    outside_is_16 : (0 < count) × (80 < n + count) → Judged by m image (answer 16)
    outside_is_16 is =
        refused_so _ SectorOutside
        (by_its_sectors is.0 ∙ span_last First (unit_by by) image host m n begins is.0 (omega (arith, volume_0 by)))

    covered : (0 < count) × (n + count ≤ 80) → Covers (drive_by by) Zero (start_number (drive_by by) Zero from) count
    covered is = rw begins (omega (arith, volume_0 by))

    short_is_17 : (0 < count) × (n + count ≤ 80) × (image < 7800) → Judged by m image (answer 17)
    short_is_17 is =
        refused_so _ ImageShort
        (by_its_sectors is.0 ∙ span_17 First (unit_by by) image host m (covered (omega arith)) (omega (arith, need_7800 by)))

    by_its_buffer : (0 < count) × (n + count ≤ 80) × (7800 ≤ image) → verdict (asking by m image) ≡ from_buffer (asking by m image) m
    by_its_buffer is =
        by_its_sectors is.0 ∙ span_on First (unit_by by) image host m (covered (omega arith)) (omega (arith, need_7800 by))

-- ---- by its buffer

read_passes :
    (by : Bool) (from : Start) (n count image : ℕ) → start_number (drive_by by) Zero from ≡ Some n →
    (0 < count) × (n + count ≤ 80) × (7800 ≤ image) → Judged by (move from count (Buffer.Piece 512)) image passes
read_passes by from n count image begins is =
    let b = Buffer.Piece 512 in
    rw begins
    (by_its_buffer by from count image b n begins is
    ∙ piece_done First (unit_by by) image host (move from count b) 512 refl n begins (piece_good (count * 64) (omega arith)))

list_of_64_passes : Holds (scatters 64 passes)
list_of_64_passes =
    let b = Buffer.List 0 64 in
    by_its_buffer true (Start.Logical 0) 64 7800 b 0 refl (omega arith)
    ∙ list_done First unit 7800 host (move (Start.Logical 0) 64 b) 0 64 refl list_good 0 refl ranges_good

list_over_64_is_18 : (k : ℕ) → (64 < k) × (k ≤ 80) → Holds (scatters k (answer 18))
list_over_64_is_18 k over =
    let b = Buffer.List 0 k in
    refused_so _ ListBad
    (by_its_buffer true (Start.Logical 0) k 7800 b 0 refl (omega arith) ∙
    list_18 First unit 7800 host (move (Start.Logical 0) k b) 0 k refl (λ good. omega (arith, good.most)))

-- ---- outside

-- A cylinder, a head or a sector that volume 0 has not: no number at all.
nowhere_is_16 :
    (by : Bool) (c h s : ℕ) → ((c < 10) × (h < 2) × (s < 4) → ⊥) → Judged by (move (Start.Physical c h s) 1 (Buffer.Piece 512)) 7800 (answer 16)
nowhere_is_16 by c h s out =
    let m = move (Start.Physical c h s) 1 (Buffer.Piece 512) in
    refused_so _ SectorOutside
    (by_its_sectors by (Start.Physical c h s) 1 7800 (Buffer.Piece 512) (omega arith) ∙
    start_nowhere First (unit_by by) 7800 host m (numbered_outside (drive_by by) Zero c h s (λ in-it. out (omega arith))))

-- ---- the table

-- A line of the table holds, and so do those after it.
infixr 5 ◌and◌
pub ◌and◌ : {A B : Type 0} → A → B → A × B
a and b = (a, b)

pub starred_hold : All starred
starred_hold =
    stands_there true Zero _ (omega (arith, sectors_80))
    and stands_there true Zero _ (omega (arith, sectors_80))
    and stands_there true Zero _ (omega (arith, sectors_80))
    and stands_there true Zero _ (omega (arith, sectors_80))
    and stands_there true One _ (omega (arith, sectors_40))
    and outside_is_16 true _ 1 7800 _ 80 refl (omega arith)
    and read_passes true _ 0 80 7800 refl (omega arith)
    and outside_is_16 true _ 81 7800 _ 0 refl (omega arith)
    and outside_is_16 true _ 2 7800 _ 79 refl (omega arith)
    and short_is_17 true _ 1 7799 _ 0 refl (omega arith)
    and read_passes true _ 0 1 7800 refl (omega arith)
    and list_of_64_passes
    and list_over_64_is_18 65 (omega arith)
    and tt

pub by_cylinder_hold : All by_cylinder
by_cylinder_hold =
    stands_there false Zero _ (omega (arith, volume_0 false))
    and stands_there false Zero _ (omega (arith, volume_0 false))
    and stands_there false Zero _ (omega (arith, volume_0 false))
    and stands_there false Zero _ (omega (arith, volume_0 false))
    and outside_is_16 false _ 1 7800 _ 80 refl (omega arith)
    and two_from false 0 1 3 (omega arith)
    and two_from true 0 1 3 (omega arith)
    and two_from false 9 0 3 (omega arith)
    and two_from true 9 0 3 (omega arith)
    and read_passes false _ 40 40 7800 (begins_at_lem false 0 1 0 (omega arith)) (omega arith)
    and outside_is_16 false _ 41 7800 _ 40 (begins_at_lem false 0 1 0 (omega arith)) (omega arith)
    and read_passes true _ 4 76 7800 (begins_at_lem true 0 1 0 (omega arith)) (omega arith)
    and outside_is_16 true _ 77 7800 _ 4 (begins_at_lem true 0 1 0 (omega arith)) (omega arith)
    and nowhere_is_16 false 10 0 0 (λ on. omega arith)
    and nowhere_is_16 false 0 0 4 (λ on. omega arith)
    and nowhere_is_16 true 0 2 0 (λ on. omega arith)
    and tt
