-- What an inspection hands back, by cases, and that it lies in the image of its unit.
-- A decision that is known picks its side; a sector of the drive lies in an image that is long enough, and no bytes lie in any.
use Prim.Native.Nat.{ℕ, zero, suc, ◌+◌, ◌-◌, ◌≤◌, ◌<◌}
use mathlib.Core.List.{List}
use mathlib.Core.Logic.{by_cases, if_neg, if_pos}
use mathlib.Core.Path.{◌≡◌, refl, sym, ◌∙◌}
use native.Mathlib.Nat.{add-sub_cancel_left}
use native.Mathlib.Omega.{arith}
use lib.ListN.{drop, length, take}
use Rattle.geometry.specs.Drive.{B}
use Rattle.geometry.specs.Sectors.{first_byte}
use Rattle.geometry.proofs.Laws.{sector_in_image}
use Rattle.unit.specs.declared.UnitNumber.{UnitNumber}
use Rattle.unit.specs.declared.UnitNumber.TheVariants.{Zero, One}
use Rattle.board.specs.Inspection.{Inspectable, base_of, bytes_of, image_of, inspectable?, lies_at, no_part, part_of, sector_part}
use Rattle.board.specs.declared.inspection.Part.{Part}
use Rattle.spares.proofs.Laws.{empty_is_good}
use Rattle.unit.specs.Standing.{CountsAsInitialized, UnitRecord, cylinder, geometry, initialized, no_tracks}
use Rattle.unit.specs.Made.{record_of}

-- One unit: its sector, or nothing.
module _ (n : UnitNumber) (u : UnitRecord) (long place : ℕ) where
  pub sector_there :
      Inspectable u long place →
      sector_part n u long place ≡ record { unit = n; at = first_byte (geometry u) place; bytes = B (geometry u) }
  sector_there there = if_pos (inspectable? u long place) there _ _

  pub sector_not_there : (Inspectable u long place → ⊥) → sector_part n u long place ≡ no_part
  sector_not_there not_there = if_neg (inspectable? u long place) not_there _ _

-- "The inspection call still goes by place in the image" (02, K5): of a unit that counts as initialized it hands back what it would without a table.
pub maps_nothing :
    (n : UnitNumber) (u : UnitRecord) (long place : ℕ) → CountsAsInitialized u →
    sector_part n u long place ≡ sector_part n (record_of (initialized u) (geometry u) (cylinder u) 0 no_tracks) long place
maps_nothing n u long place counts =
    let without = record_of (initialized u) (geometry u) (cylinder u) 0 no_tracks in
    let so : CountsAsInitialized without =
    record { said = counts.said; within = counts.within; cylinder = counts.cylinder; good = empty_is_good (geometry u) no_tracks refl } in
    by_cases (inspectable? u long place)
    (λ there.
    sector_there n u long place there
    ∙ sym (sector_there n without long place (record { initialized = so; inside = there.inside; image = there.image })))
    (λ not_there.
    sector_not_there n u long place not_there
    ∙ sym
    (sector_not_there n without long place
    (λ there. not_there (record { initialized = counts; inside = there.inside; image = there.image }))))

-- The unit's number picks the unit.
module _ (u0 u1 : UnitRecord) (long0 long1 place : ℕ) where
  pub of_unit_zero : part_of u0 u1 long0 long1 0 place ≡ sector_part Zero u0 long0 place
  unfolding part_of
  of_unit_zero = refl

  pub of_unit_one : part_of u0 u1 long0 long1 1 place ≡ sector_part One u1 long1 place
  unfolding part_of
  of_unit_one = refl

  pub of_no_unit : (unit : ℕ) → (unit ≡ 0 → ⊥) → (unit ≡ 1 → ⊥) → part_of u0 u1 long0 long1 unit place ≡ no_part
  unfolding part_of
  of_no_unit zero not-zero not-one = absurd (not-zero refl)
  of_no_unit (suc zero) not-zero not-one = absurd (not-one refl)
  of_no_unit (suc (suc unit)) not-zero not-one = refl

module _ (image0 image1 : List ℕ) where
  -- A part lies in the image that it names.
  abbrev pub InItsImage : Part → Type 0
  InItsImage p = p.at + p.bytes ≤ length (image_of image0 image1 p.unit)

  sector_lies : (n : UnitNumber) (u : UnitRecord) (place : ℕ) → InItsImage (sector_part n u (length (image_of image0 image1 n)) place)
  sector_lies n u place =
      let long = length (image_of image0 image1 n) in
      by_cases (inspectable? u long place)
      (λ there. rw (sector_there n u long place there) (sector_in_image (geometry u) long place there.image there.inside).0)
      (λ not_there. rw (sector_not_there n u long place not_there) (omega arith))

  pub part_lies :
      (u0 u1 : UnitRecord) (unit place : ℕ) → InItsImage (part_of u0 u1 (length image0) (length image1) unit place)
  unfolding part_of
  part_lies u0 u1 zero place = sector_lies Zero u0 place
  part_lies u0 u1 (suc zero) place = sector_lies One u1 place
  part_lies u0 u1 (suc (suc unit)) place = omega arith

  -- Either image is below what both are below.
  pub image_below :
      (n : UnitNumber) (limit : ℕ) → length image0 < limit → length image1 < limit → length (image_of image0 image1 n) < limit
  image_below Zero limit below0 below1 = below0
  image_below One limit below0 below1 = below1

  -- What is cut out of the named image, from a part's place to its end, are the part's bytes.
  pub part_cut :
      (p : Part) (n : UnitNumber) → p.unit ≡ n →
      take (p.at + p.bytes - p.at) (drop p.at (image_of image0 image1 n)) ≡ bytes_of image0 image1 p
  part_cut p n is = rw (add-sub_cancel_left, is)

-- A part that is cut out of the image that it names begins at its place there.
pub part_place :
    (base0 base1 : ℕ × ℕ) (p : Part) (n : UnitNumber) → p.unit ≡ n →
    ((base_of base0 base1 n).0, p.at + (base_of base0 base1 n).1) ≡ lies_at base0 base1 p
part_place base0 base1 p n is = rw is
