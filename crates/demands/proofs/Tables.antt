-- What blocks do with a unit's table: an 85 adds its pair and, the holder apart, does nothing else, an 87 clears it, a unit that counts as initialized stays so (02, K5);
-- and which tables the commands reach (02, K7). What is left of a record is told by the verdict.
use Rattle.std.proofs.Common.{Err, None, Ok, Option, Result, Some}
use Prim.Native.Nat.{ℕ}
use mathlib.Core.List.{List, [], ◌++◌}
use mathlib.Core.Logic.{◌⊎◌, by_cases, inl, inr, ⊎_elim}
use mathlib.Core.Path.{◌≡◌, refl, sym, ap, subst, ◌∙◌}
use native.Mathlib.Nat.{zero-mul}
use lib.IntN.{pos}
use lib.ListN.{length}
use Rattle.answers.specs.Numbers.{BlockAnswer}
use Rattle.answers.specs.declared.Refusal.{Refusal}
use Rattle.answers.specs.declared.Refusal.TheVariants.{DriveHeld, UibMisplaced}
use Rattle.geometry.specs.declared.Geometry.{Geometry}
use Rattle.geometry.specs.Drive.{B}
use Rattle.geometry.specs.Limits.{Within}
use Rattle.unit.specs.Holding.{Holder, reserved_by}
use Rattle.unit.specs.Standing.{CountsAsInitialized, UnitRecord, fresh, geometry, held_by, pairs, table}
use Rattle.unit.proofs.Kept.{fresh_counts, mapped_counts, moved_counts}
use Rattle.wire.proofs.Promises.{never}
use Rattle.judge.specs.declared.Moving.TheVariants.{Nothing}
use Rattle.judge.specs.declared.Leaving.{Leaving}
use Rattle.judge.specs.declared.Leaving.TheVariants.{AsItWas, HeadsAt, HeadsAtLastTried, Fresh, Mapped}
use Rattle.judge.specs.declared.Plan.{Plan}
use Rattle.judge.specs.declared.Report.{Report}
use Rattle.judge.specs.Plans.{plan_of}
use Rattle.judge.specs.Fits.{LeavingFits}
use Rattle.judge.specs.Given.{on}
use Rattle.judge.specs.Verdict.{verdict}
use Rattle.judge.proofs.LetThrough.{own_plan}
use Rattle.judge.proofs.Tasks.{own_unless_held, shape_misplaced}
use Rattle.iopb.specs.Ask.{pair_of, shape_at, task_of}
use Rattle.request.specs.declared.Task.{Task}
use Rattle.request.specs.declared.Task.TheVariants.{Initialize, Map}
use Rattle.unit.specs.declared.UnitNumber.{UnitNumber}
use Rattle.transfer.specs.Data.{data_on, move_at}
use Rattle.transfer.specs.Progress.{progress}
use Rattle.transfer.specs.Stores.{Store, bytes_from, up_to}
use Rattle.block.specs.Block.{Drive, Effect, begun, finish, left_by, reported, transfer_of}
use Rattle.block.specs.Steps.{acted_on}
use Rattle.block.proofs.Effects.{finished_by}
use Rattle.block.proofs.Held.{held_counts}
use Rattle.block.proofs.Kept.{still_counts, still_long}
use Rattle.board.specs.Chain.{ran}
use Rattle.demands.specs.Footprint.{Renews, SomeBlock, asked_of, leaving_of, named_drive, names, verdict_of}
use Rattle.demands.specs.Tables.{AddsItsPair, Maps, ReachedByCommands}
use Rattle.demands.specs.Tables.ReachedByCommands.{by_85, by_87, heads_moved, holder_changed}
use Rattle.demands.specs.Visits.{Visit, block_of, effect_of, fetched_by, world_left}
use Rattle.demands.proofs.Fits.{leaving_fits}
use Rattle.demands.proofs.Keeps.{block_keeps_drive, left_keeps, left_then, named_record, run_hands, run_keeps, same_unit?, some_none, unit_left}
use Rattle.demands.proofs.Written.{effect_is}
use Rattle.board.specs.World.{World, drive_of}

-- ---- an 85

-- To move nothing stores nothing.
nothing_stored : (image host : List ℕ) (u : UnitRecord) → data_on image (transfer_of host u Nothing) ≡ []
unfolding data_on progress up_to
nothing_stored image host u = ap (λ (n : ℕ). up_to n (move_at (transfer_of host u Nothing))) (zero-mul (B (geometry u)))

-- What a block comes to, by the verdict on it.
abbrev comes_to : Visit → Result Plan Refusal → Effect
comes_to v x = finished_by v.world.controller v.world.host (named_drive v) v.at v.index x

-- An 85 that is let through adds its pair, and nothing else changes but the holder.
pub adds_its_pair : (v : Visit) (p : Plan) → (block_of v).command ≡ 0x85 → verdict_of v ≡ Ok p → AddsItsPair v (pair_of (block_of v))
unfolding task_of progress bytes_from
adds_its_pair v p is accepted =
    let task : (asked_of v).task ≡ Map (pair_of (block_of v)) = rw is in
    let plan : p ≡ plan_of (named_drive v).unit (Map (pair_of (block_of v))) = own_plan (asked_of v) p accepted ∙ ap (plan_of (named_drive v).unit) task in
    let effect : effect_of v ≡ comes_to v (Ok (plan_of (named_drive v).unit (Map (pair_of (block_of v))))) =
    effect_is v ∙ ap (comes_to v) (accepted ∙ ap Ok plan) in
    record {
      ended = ap (λ (e : Effect). e.answer) effect;
      sectors = ap (λ (e : Effect). e.sectors) effect;
      stores =
          ap (λ (e : Effect). e.stores) effect
          ∙ ap (λ (ss : List Store). (begun v.at ++ ss ++ reported v.at Report.Nothing) ++ finish (block_of v) v.at v.index (Ok tt) (pos 0))
          (nothing_stored (named_drive v).image v.world.host (named_drive v).unit);
      unit = ap (λ (e : Effect). e.unit) effect;
    }

-- ---- what every block and every run keep

-- What each leaving keeps of a record, a block keeps of both units',
module _
    (P : UnitRecord → Type 0) (kept : (u : UnitRecord) (moved : ℕ) (l : Leaving) → P u → LeavingFits u l → P (left_by u moved l))
    (with-holder : (u : UnitRecord) (h : Holder) → P u → P (held_by u h))
  where
    pub block_hands : (n : UnitNumber) (v : Visit) → P (drive_of v.world n).unit → P (drive_of (world_left v) n).unit
    block_hands n v now =
        by_cases (same_unit? (names v) n)
        (λ named.
        subst (λ (m : UnitNumber). P (drive_of (world_left v) m).unit) named
        (left_keeps v P with-holder
        (kept (named_drive v).unit (effect_of v).sectors (leaving_of (verdict_of v))
        (subst (λ (m : UnitNumber). P (drive_of v.world m).unit) (sym named) now) (leaving_fits (asked_of v)))))
        (λ other. subst P (sym (ap (λ (d : Drive). d.unit) (block_keeps_drive v n other))) now)

    -- and so does a run.
    run_hands_records : (first allowance : ℕ) (w : World) (n : UnitNumber) → P (drive_of w n).unit → P (drive_of (ran first allowance w).world n).unit
    run_hands_records first allowance w n now =
        run_hands (λ x. P (drive_of x n).unit) first allowance w (λ v. ⊥) (λ v out so. block_hands n v so) (some_none (fetched_by first allowance w)) now

-- A unit that counts as initialized still does after every block and every run.
pub block_keeps_counting :
    (v : Visit) (n : UnitNumber) → CountsAsInitialized (drive_of v.world n).unit → CountsAsInitialized (drive_of (world_left v) n).unit
block_keeps_counting v n = block_hands CountsAsInitialized still_counts held_counts n v

pub run_keeps_counting :
    (first allowance : ℕ) (w : World) (n : UnitNumber) → CountsAsInitialized (drive_of w n).unit →
    CountsAsInitialized (drive_of (ran first allowance w).world n).unit
run_keeps_counting = run_hands_records CountsAsInitialized still_counts held_counts

-- A table keeps its length.
pub block_keeps_long :
    (v : Visit) (n : UnitNumber) → length (table (drive_of v.world n).unit) ≡ 64 → length (table (drive_of (world_left v) n).unit) ≡ 64
block_keeps_long v n = block_hands (λ u. length (table u) ≡ 64) still_long (λ u h now. now) n v

pub run_keeps_long :
    (first allowance : ℕ) (w : World) (n : UnitNumber) → length (table (drive_of w n).unit) ≡ 64 →
    length (table (drive_of (ran first allowance w).world n).unit) ≡ 64
run_keeps_long = run_hands_records (λ u. length (table u) ≡ 64) still_long (λ u h now. now)

-- A table is changed by a successful 85 or 87 for its unit and by nothing else: heads move over it, and refused blocks leave it.
abbrev pairs_and_tracks : UnitRecord → ℕ × List ℕ
pairs_and_tracks u = (pairs u, table u)

pub block_keeps_table :
    (v : Visit) (n : UnitNumber) → ((names v ≡ n) × (Renews (asked_of v) ⊎ Maps (asked_of v)) → ⊥) →
    pairs_and_tracks (drive_of (world_left v) n).unit ≡ pairs_and_tracks (drive_of v.world n).unit
block_keeps_table v n none =
    by_cases (same_unit? (names v) n) here (λ other. ap (λ (d : Drive). pairs_and_tracks d.unit) (block_keeps_drive v n other))
  where
    kept :
        (l : Leaving) → leaving_of (verdict_of v) ≡ l → (Renews (asked_of v) ⊎ Maps (asked_of v) → ⊥) →
        pairs_and_tracks (left_by (named_drive v).unit (effect_of v).sectors l) ≡ pairs_and_tracks (named_drive v).unit
    kept AsItWas is out = refl
    kept (HeadsAt c) is out = refl
    kept (HeadsAtLastTried s) is out = refl
    kept (Fresh g) is out = absurd (out (inl (g, is)))
    kept (Mapped bad spare) is out = absurd (out (inr (bad, (spare, is))))

    here : names v ≡ n → pairs_and_tracks (drive_of (world_left v) n).unit ≡ pairs_and_tracks (drive_of v.world n).unit
    here named =
        subst (λ (m : UnitNumber). pairs_and_tracks (drive_of (world_left v) m).unit ≡ pairs_and_tracks (drive_of v.world m).unit) named
        (left_keeps v (λ (u : UnitRecord). pairs_and_tracks u ≡ pairs_and_tracks (named_drive v).unit) (λ u h now. now)
        (kept (leaving_of (verdict_of v)) refl (λ does. none (named, does))))

pub run_keeps_table :
    (first allowance : ℕ) (w : World) (n : UnitNumber) →
    (SomeBlock (λ v. (names v ≡ n) × (Renews (asked_of v) ⊎ Maps (asked_of v))) (fetched_by first allowance w) → ⊥) →
    pairs_and_tracks (drive_of (ran first allowance w).world n).unit ≡ pairs_and_tracks (drive_of w n).unit
run_keeps_table first allowance w n none =
    run_keeps (λ x. pairs_and_tracks (drive_of x n).unit) first allowance w (λ v. (names v ≡ n) × (Renews (asked_of v) ⊎ Maps (asked_of v)))
    (λ v out. block_keeps_table v n out) none

-- ---- the tables that the commands reach

-- "A successful 87 clears the table" (02, K5): an 87 that ends 80 had its UIB in host memory and inside the limits, and leaves a new record of the
-- geometry that stands there.
module _ (v : Visit) (is : (block_of v).command ≡ 0x87) (ended : (effect_of v).answer ≡ Ok tt) where
  abbrev shape : Option Geometry
  shape = shape_at v.world.host (block_of v).address

  task_is : (asked_of v).task ≡ Initialize shape
  unfolding task_of
  task_is = rw is

  not_refused : (r : Refusal) → verdict_of v ≡ Err r → ⊥
  not_refused r so =
      let failed : (effect_of v).answer ≡ Err r =
      ap (λ (e : Effect). e.answer) (effect_is v) ∙ ap (λ (x : Result Plan Refusal). (acted_on v.world.host (named_drive v) v.at x).answer) so in
      never (cc (ended, failed))

  renews : (g : Geometry) × ((shape ≡ Some g) × (leaving_of (verdict_of v) ≡ Fresh g))
  renews = by_verdict (verdict_of v) refl
    where
      by_shape :
          (p : Plan) → verdict_of v ≡ Ok p → (s : Option Geometry) → shape ≡ s → (g : Geometry) × ((shape ≡ Some g) × (leaving_of (verdict_of v) ≡ Fresh g))
      by_shape p so None same =
          absurd
          (⊎_elim (λ held. not_refused DriveHeld (as_task ∙ held))
          (λ own. not_refused UibMisplaced (as_task ∙ own ∙ shape_misplaced v.world.controller (named_drive v).unit (asked_of v).image v.world.host))
          (own_unless_held v.world.controller (named_drive v).unit (asked_of v).image v.world.host (Initialize None) tt))
        where
          as_task : verdict_of v ≡ verdict (on v.world.controller (named_drive v).unit (asked_of v).image (Initialize None) v.world.host)
          as_task =
              ap (λ (t : Task). verdict (on v.world.controller (named_drive v).unit (asked_of v).image t v.world.host)) (task_is ∙ ap Task.Initialize same)
      by_shape p so (Some g) same =
          let plan = own_plan (asked_of v) p so ∙ ap (plan_of (named_drive v).unit) (task_is ∙ ap Task.Initialize same) in
          (g, (same, ap leaving_of so ∙ ap (λ (p : Plan). p.leaving) plan))

      by_verdict : (x : Result Plan Refusal) → verdict_of v ≡ x → (g : Geometry) × ((shape ≡ Some g) × (leaving_of (verdict_of v) ≡ Fresh g))
      by_verdict (Err r) so = absurd (not_refused r so)
      by_verdict (Ok p) so = by_shape p so shape refl

  pub accepted_87_clears : (g : Geometry) × ((shape ≡ Some g) × (Within g × ((drive_of (world_left v) (names v)).unit ≡ held_by (fresh g) (reserved_by v.world.controller (block_of v).options.reserve))))
  accepted_87_clears =
      let leaves = renews.1.1 in (
        renews.0,
        (
          renews.1.0,
          (
            subst (LeavingFits (named_drive v).unit) leaves (leaving_fits (asked_of v)),
            named_record v ∙ unit_left v ∙ ap (λ (l : Leaving). left_then v (effect_of v).answer (effect_of v).sectors l) leaves
                ∙ ap (λ (answer : BlockAnswer). left_then v answer (effect_of v).sectors (Fresh renews.0)) ended,
          ),
        ),
      )

  -- That is a table that the commands reach.
  pub accepted_87_reaches : ReachedByCommands (drive_of (world_left v) (names v)).unit
  accepted_87_reaches =
      let cleared = accepted_87_clears in
      subst ReachedByCommands (sym cleared.1.1.1) (holder_changed (fresh cleared.0) _ (by_87 cleared.0 cleared.1.1.0))

-- Each is that of a record which counts as initialized: no track twice, and all of them on the drive.
pub reached_counts : (u : UnitRecord) → ReachedByCommands u → CountsAsInitialized u
reached_counts _ (by_87 g within) = fresh_counts g within
reached_counts _ (by_85 u bad spare before fits) =
    mapped_counts u (reached_counts u before) bad spare fits.bad_on fits.spare_on fits.free fits.room
reached_counts _ (heads_moved u c before on) = moved_counts u (reached_counts u before) c on
reached_counts _ (holder_changed u h before) = held_counts u h (reached_counts u before)

-- A unit that counts as initialized after a block or a run has a table that the commands reach, where it had one before or did not count: so has
-- every unit that began as one of which nothing is said.
abbrev ReachedWhereCounting : UnitRecord → Type 0
ReachedWhereCounting u = CountsAsInitialized u → ReachedByCommands u

still_reached :
    (u : UnitRecord) (moved : ℕ) (l : Leaving) → ReachedWhereCounting u → LeavingFits u l → ReachedWhereCounting (left_by u moved l)
still_reached u moved AsItWas now fits counts = now counts
still_reached u moved (HeadsAt c) now fits counts = heads_moved u c (now fits.0) fits.1
still_reached u moved (HeadsAtLastTried s) now fits counts = heads_moved u _ (now fits.0) counts.cylinder
still_reached u moved (Fresh g) now fits counts = by_87 g fits
still_reached u moved (Mapped bad spare) now fits counts = by_85 u bad spare (now fits.0) fits.1

held_reached : (u : UnitRecord) (h : Holder) → ReachedWhereCounting u → ReachedWhereCounting (held_by u h)
held_reached u h now counts =
    holder_changed u h (now (record { said = counts.said; within = counts.within; cylinder = counts.cylinder; good = counts.good }))

pub block_reaches :
    (v : Visit) (n : UnitNumber) → ReachedWhereCounting (drive_of v.world n).unit → ReachedWhereCounting (drive_of (world_left v) n).unit
block_reaches v n = block_hands ReachedWhereCounting still_reached held_reached n v

pub run_reaches :
    (first allowance : ℕ) (w : World) (n : UnitNumber) → ReachedWhereCounting (drive_of w n).unit →
    ReachedWhereCounting (drive_of (ran first allowance w).world n).unit
run_reaches = run_hands_records ReachedWhereCounting still_reached held_reached
