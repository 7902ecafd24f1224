-- The calls that go by a record alone say what the library does otherwise: a sector stands where an inspection finds it, in an image as long as is said,
-- and a number of a volume stands where its address does. Where the code is 0, the landing is known, and each of them goes by that.
use Rattle.std.proofs.Common.{None, Option, Some}
use Prim.Native.Nat.{ℕ, ◌+◌, ◌≤◌, ◌<◌}
use mathlib.Core.List.{List}
use mathlib.Core.Logic.{by_cases}
use mathlib.Core.Path.{◌≡◌, refl, ◌∙◌, ap, subst}
use native.Mathlib.Decide.{dec_lt}
use native.Mathlib.Omega.{arith}
use lib.ListN.{length}
use Rattle.geometry.specs.declared.Geometry.{Geometry}
use Rattle.geometry.specs.declared.VolumeNumber.{VolumeNumber}
use Rattle.geometry.specs.declared.VolumeNumber.TheVariants.{Zero, One}
use Rattle.geometry.specs.Drive.{B, drive_sectors, need, volume_sectors}
use Rattle.geometry.specs.Sectors.{address_of, first_byte, mark_byte}
use Rattle.geometry.proofs.Answers.{found_inside}
use Rattle.geometry.proofs.Laws.{sector_in_image}
use Rattle.unit.specs.declared.Spot.{Spot}
use Rattle.unit.specs.declared.UnitNumber.{UnitNumber}
use Rattle.unit.specs.declared.UnitNumber.TheVariants as unit
use Rattle.unit.specs.Answers.{landing}
use Rattle.unit.specs.Standing.{CountsAsInitialized, UnitRecord, geometry}
use Rattle.unit.proofs.Answers.{found_lands}
use Rattle.unit.proofs.Decided.{counts?}
use Rattle.board.specs.declared.inspection.Part.{Part}
use Rattle.board.specs.Inspection.{sector_part}
use Rattle.board.proofs.Parts.{of_unit_one, of_unit_zero, sector_there}
use Rattle.abi.specs.declared.places.Wanted.{Wanted}
use Rattle.abi.specs.Calls.{Inspected, image_number, inspected_of, inspection}
use Rattle.abi.specs.Layouts.{record_in, record_length}
use Rattle.abi.specs.Places.{Located, Needed, addressed_by, locating, needing, numbered_in, standing}
use Rattle.abi.specs.Readings.{lands_as}
use Rattle.abi.proofs.Called.{inspection_made}
use Rattle.abi.proofs.Readings.{lands_on_drive, located_read, needed_read, read_counts, read_not, read_short}

-- ---- what is told where the code is 0

-- A sector that was told is one of a unit that counts, on the drive.
record Told (bytes : List ℕ) (l : Located) : Type 0 where
  long : record_length ≤ length bytes
  counts : CountsAsInitialized (record_in bytes)
  inside : l.place < drive_sectors (geometry (record_in bytes))
  first : l.first ≡ first_byte (geometry (record_in bytes)) l.place
  mark : l.mark ≡ mark_byte (geometry (record_in bytes)) l.place

module _ (bytes : List ℕ) (w : Wanted) (held : Located) where
  abbrev u : UnitRecord
  u = record_in bytes

  abbrev located : Located
  located = locating (lands_as w) bytes held

  by_landing :
      record_length ≤ length bytes → CountsAsInitialized u → (l : Option Spot) → ((s : Spot) → l ≡ Some s → s.place < drive_sectors (geometry u)) →
      (standing (geometry u) l held).code ≡ 0 → Told bytes (standing (geometry u) l held)
  by_landing long so (Some s) on is = record { long = long; counts = so; inside = on s refl; first = refl; mark = refl }
  by_landing long so None on is = absurd (omega arith)

  told : located.code ≡ 0 → Told bytes located
  told is =
      by_cases (dec_lt (length bytes) record_length)
      (λ short. absurd (omega (arith, ap (λ (x : Located). x.code) (located_read bytes (lands_as w) held (read_short bytes short)))))
      (λ not_IsShort.
      let long : record_length ≤ length bytes = omega arith in
      by_cases (counts? u)
      (λ so.
      let same = located_read bytes (lands_as w) held (read_counts bytes long so) in
      subst (Told bytes) same
      (by_landing long so (lands_as w u) (λ s at. lands_on_drive u s w at) (ap (λ (x : Located). x.code) same ∙ is)))
      (λ not_so. absurd (omega (arith, ap (λ (x : Located). x.code) (located_read bytes (lands_as w) held (read_not bytes long not_so))))))

  -- How long an image has to be is told wherever a sector is.
  enough : (asked : ℕ) → Told bytes located → need (geometry u) ≡ (needing bytes asked).bytes
  enough asked t = ap (λ (x : Needed). x.bytes) (needed_read bytes asked (read_counts bytes t.long t.counts))

  module _ (is : located.code ≡ 0) (asked : ℕ) where
    -- The sector and its mark lie in an image of that length.
    pub sector_in_its_image :
        (located.first + B (geometry u) ≤ (needing bytes asked).bytes) × (located.mark < (needing bytes asked).bytes)
    sector_in_its_image =
        let t = told is in
        rw (t.first, t.mark, ← enough asked t) (sector_in_image (geometry u) (need (geometry u)) located.place (omega arith) t.inside)

    part_is :
        (n : UnitNumber) (long : ℕ) → (needing bytes asked).bytes ≤ long →
        sector_part n u long located.place ≡ record { unit = n; at = located.first; bytes = B (geometry u) }
    part_is n long fits =
        let t = told is in
        rw t.first
        (sector_there n u long located.place
        (record { initialized = t.counts; inside = t.inside; image = omega (arith, enough asked t) }))

    -- At its place an inspection finds it, in any image that is long enough, whichever of the two units the record is of.
    pub sector_is_inspected :
        (other : List ℕ) (long long' image at size : ℕ) → record_length ≤ length other → (needing bytes asked).bytes ≤ long →
        (inspection bytes other long long' 0 located.place image at size ≡ inspected_of 0 0 located.first (B (geometry u))) ×
        (inspection other bytes long' long 1 located.place image at size ≡ inspected_of 0 1 located.first (B (geometry u)))
    sector_is_inspected other long long' image at size long-other fits =
        let t = told is in
        let handed : Part → Inspected = λ p. inspected_of 0 (image_number p.unit) p.at p.bytes in
        let place = located.place in (
          inspection_made bytes other long long' 0 place image at size t.long long-other ∙
              ap handed (of_unit_zero u (record_in other) long long' place ∙ part_is unit.Zero long fits),
          inspection_made other bytes long' long 1 place image at size long-other t.long ∙
              ap handed (of_unit_one (record_in other) u long' long place ∙ part_is unit.One long fits),
        )

-- ---- by number and by address

module _ (bytes : List ℕ) (held : Located) where
  abbrev g : Geometry
  g = geometry (record_in bytes)

  abbrev at_address_of : VolumeNumber → ℕ → Located
  at_address_of v n = let a = address_of g v n in locating (addressed_by a.cylinder a.head a.sector) bytes held

  one_landing :
      (lands : UnitRecord → Option Spot) (v : VolumeNumber) (n : ℕ) → lands (record_in bytes) ≡ landing (record_in bytes) v n → n < volume_sectors g v →
      locating lands bytes held ≡ at_address_of v n
  unfolding locating
  one_landing lands v n is inside =
      rw (is, ← found_lands (record_in bytes) v n (address_of g v n) (found_inside g v n inside))

  -- A number of a volume stands where its address does, bad track or not.
  pub by_number_is_by_address :
      (n : ℕ) →
      (n < volume_sectors g Zero → locating (numbered_in 0 n) bytes held ≡ at_address_of Zero n) ×
      (n < volume_sectors g One → locating (numbered_in 1 n) bytes held ≡ at_address_of One n)
  by_number_is_by_address n = (one_landing (numbered_in 0 n) Zero n refl, one_landing (numbered_in 1 n) One n refl)
