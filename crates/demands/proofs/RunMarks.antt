-- No run changes a mark or a byte after the marks (01, Geometry and One run). Where the marks begin is the geometry's, and an 87 may
-- replace that; so it is said first of every geometry that a unit had while blocks named it, and then of a run without such an 87.
use Prim.Native.Nat.{ℕ, ◌≤◌, ◌<◌}
use mathlib.Core.Logic.{by_cases}
use mathlib.Core.Path.{◌≡◌, refl, ap, subst, ◌∙◌}
use native.Mathlib.Decide.{dec_lt}
use native.Mathlib.Omega.{arith}
use lib.ListN.{get_or}
use Rattle.geometry.specs.declared.Geometry.{Geometry}
use Rattle.geometry.specs.Drive.{marks_at}
use Rattle.judge.specs.declared.Leaving.{Leaving}
use Rattle.judge.specs.declared.Leaving.TheVariants.{AsItWas, HeadsAt, HeadsAtLastTried, Fresh, Mapped}
use Rattle.unit.specs.declared.UnitNumber.{UnitNumber}
use Rattle.block.specs.Block.{Drive, left_by}
use Rattle.board.specs.Chain.{ran}
use Rattle.demands.specs.Footprint.{Renews, SomeBlock, asked_of, leaving_of, named_drive, names, verdict_of}
use Rattle.demands.specs.Visits.{Visit, effect_of, fetched_by, world_left}
use Rattle.demands.proofs.BlockLaws.{no_mark}
use Rattle.demands.proofs.Keeps.{block_keeps_drive, block_keeps_image, left_keeps, run_hands, run_keeps, same_unit?}
use Rattle.unit.specs.Standing.{UnitRecord, geometry}
use Rattle.board.specs.World.{World, drive_of}

-- A block keeps an image byte of a unit that it does not name, and one from the marks on of the unit that it names.
block_keeps_marks :
    (v : Visit) (n : UnitNumber) (x : ℕ) → ((names v ≡ n) × (x < marks_at (geometry (named_drive v).unit)) → ⊥) →
    get_or (drive_of (world_left v) n).image x 0 ≡ get_or (drive_of v.world n).image x 0
block_keeps_marks v n x out =
    by_cases (dec_lt x (marks_at (geometry (named_drive v).unit)))
    (λ before. block_keeps_image v n x (λ there. out (there.0, before)))
    (λ from.
    block_keeps_image v n x (λ there. no_mark v x (omega arith) there.1))

-- From the marks on.
pub no_mark_in_a_run :
    (first allowance : ℕ) (w : World) (n : UnitNumber) (x : ℕ) →
    (SomeBlock (λ v. (names v ≡ n) × (x < marks_at (geometry (named_drive v).unit))) (fetched_by first allowance w) → ⊥) →
    get_or (drive_of (ran first allowance w).world n).image x 0 ≡ get_or (drive_of w n).image x 0
no_mark_in_a_run first allowance w n x none =
    run_keeps (λ u. get_or (drive_of u n).image x 0) first allowance w (λ v. (names v ≡ n) × (x < marks_at (geometry (named_drive v).unit)))
    (λ v out. block_keeps_marks v n x out) none

-- ---- a run in which no 87 for the unit succeeds

-- Only an 87 replaces a geometry.
pub block_keeps_geometry :
    (v : Visit) (n : UnitNumber) → ((names v ≡ n) × Renews (asked_of v) → ⊥) →
    geometry (drive_of (world_left v) n).unit ≡ geometry (drive_of v.world n).unit
block_keeps_geometry v n none = by_cases (same_unit? (names v) n) (λ named. here named) (λ other. ap (λ (d : Drive). geometry d.unit) (block_keeps_drive v n other))
  where
    kept : (l : Leaving) → leaving_of (verdict_of v) ≡ l → (Renews (asked_of v) → ⊥) → geometry (left_by (named_drive v).unit (effect_of v).sectors l) ≡ geometry (named_drive v).unit
    kept AsItWas is out = refl
    kept (HeadsAt c) is out = refl
    kept (HeadsAtLastTried s) is out = refl
    kept (Fresh g) is out = absurd (out (g, is))
    kept (Mapped bad spare) is out = refl

    here : names v ≡ n → geometry (drive_of (world_left v) n).unit ≡ geometry (drive_of v.world n).unit
    here named =
        subst (λ (m : UnitNumber). geometry (drive_of (world_left v) m).unit ≡ geometry (drive_of v.world m).unit) named
        (left_keeps v (λ (u : UnitRecord). geometry u ≡ geometry (named_drive v).unit) (λ u h now. now)
        (kept (leaving_of (verdict_of v)) refl (λ renews. none (named, renews))))

-- So every byte of its image from the marks on, as its record says where they begin, is as it was.
pub no_mark_without_an_87 :
    (first allowance : ℕ) (w : World) (n : UnitNumber) (x : ℕ) → marks_at (geometry (drive_of w n).unit) ≤ x →
    (SomeBlock (λ v. (names v ≡ n) × Renews (asked_of v)) (fetched_by first allowance w) → ⊥) →
    get_or (drive_of (ran first allowance w).world n).image x 0 ≡ get_or (drive_of w n).image x 0
no_mark_without_an_87 first allowance w n x from none =
    (run_hands
    (λ u.
    (geometry (drive_of u n).unit ≡ geometry (drive_of w n).unit) ×
    (get_or (drive_of u n).image x 0 ≡ get_or (drive_of w n).image x 0))
    first allowance w (λ v. (names v ≡ n) × Renews (asked_of v))
    (λ v out so. (
      block_keeps_geometry v n out ∙ so.0,
      block_keeps_marks v n x (λ there. before v there.0 so.0 there.1) ∙ so.1,
    ))
    none (refl, refl)).1
  where
    before :
        (v : Visit) → names v ≡ n → geometry (drive_of v.world n).unit ≡ geometry (drive_of w n).unit →
        x < marks_at (geometry (named_drive v).unit) → ⊥
    before v named same less =
        let here : geometry (named_drive v).unit ≡ geometry (drive_of w n).unit =
        ap (λ (m : UnitNumber). geometry (drive_of v.world m).unit) named ∙ same in
        omega (arith, from, ap (λ (g : Geometry). marks_at g) here)
