-- What a block hands back can be written down: a record as it was or one that counts as initialized, tracks that are numbers of 32 bits, and a count of
-- sectors that is one of 16. Each goes by what the verdict leaves or has moved, which fits.
use Rattle.answers.specs.declared.Refusal.{Refusal}
use Rattle.judge.specs.declared.Plan.{Plan}
use Rattle.std.proofs.Common.{Err, None, Ok, Option, Result, Some}
use Prim.Native.Nat.{ℕ, ◌+◌, ◌*◌, ◌^◌, ◌<◌}
use mathlib.Core.List.{List}
use mathlib.Core.Logic.{◌⊎◌, by_cases, if_pos, inl, inr}
use mathlib.Core.Path.{◌≡◌, refl, subst}
use native.Mathlib.Decide.{dec_lt, ℕ_discrete}
use native.Mathlib.Omega.{arith}
use lib.ListN.{get_or, get_or-replicate, length, length-set, get_or-eq_default, set}
use lib.Seq.{get_or-set_other, get_or-set_same}
use Rattle.wire.proofs.Laws.{word_below}
use Rattle.geometry.specs.declared.Geometry.{Geometry}
use Rattle.geometry.specs.Limits.{Within}
use Rattle.spares.specs.Tracks.{TrackOn}
use Rattle.unit.specs.declared.UnitNumber.{UnitNumber}
use Rattle.unit.specs.Standing.{CountsAsInitialized, UnitRecord, geometry, no_tracks, pairs, table}
use Rattle.unit.proofs.Decided.{counts?}
use Rattle.unit.proofs.Kept.{fresh_counts}
use Rattle.iopb.specs.declared.Block.{Block}
use Rattle.iopb.specs.Ask.{shape_at, task_at, task_of, tasks}
use Rattle.request.specs.declared.Task.TheVariants.{Initialize}
use Rattle.judge.specs.declared.Leaving.{Leaving}
use Rattle.judge.specs.declared.Leaving.TheVariants.{AsItWas, HeadsAt, HeadsAtLastTried, Fresh, Mapped}
use Rattle.judge.specs.declared.Moving.{Moving}
use Rattle.judge.specs.declared.Moving.TheVariants.{Nothing, Sectors, Track}
use Rattle.judge.specs.Fits.{LeavingFits, MovingFits}
use Rattle.judge.specs.Plans.{plan_of}
use Rattle.judge.specs.Table.{listed}
use Rattle.judge.proofs.LetThrough.{own_plan}
use Rattle.judge.proofs.Table.{by_code, no_task}
use Rattle.transfer.specs.Progress.{stops_at}
use Rattle.transfer.proofs.Progress.{progress_most}
use Rattle.block.specs.Block.{left_by, transfer_of}
use Rattle.block.proofs.Held.{held_counts}
use Rattle.board.specs.World.{drive_of}
use Rattle.demands.specs.Footprint.{Renews, asked_of, moving_of, named_drive, names, transfer_by, verdict_of}
use Rattle.demands.specs.Visits.{Visit, block_of, effect_of, world_left}
use Rattle.demands.proofs.Fits.{leaving_fits, moving_fits}
use Rattle.demands.proofs.Keeps.{block_keeps_bad, left_keeps}
use Rattle.demands.proofs.Tables.{block_hands, block_keeps_counting}
use Rattle.demands.proofs.Written.{sectors_come}

-- ---- a unit's record

-- A block leaves a unit's record as it was, or as one that counts as initialized: one that does not count is changed by an 87 alone.
pub block_keeps_or_counts :
    (v : Visit) (n : UnitNumber) →
    ((drive_of (world_left v) n).unit ≡ (drive_of v.world n).unit) ⊎ CountsAsInitialized (drive_of (world_left v) n).unit
block_keeps_or_counts v n =
    by_cases (counts? (drive_of (world_left v) n).unit) (λ counts. inr counts)
    (λ not_it.
    inl (block_keeps_bad v n (λ before. not_it (block_keeps_counting v n before))
    (λ there. not_it (subst (λ (m : UnitNumber). CountsAsInitialized (drive_of (world_left v) m).unit) there.0 (renewed there.1)))))
  where
    renewed : Renews (asked_of v) → CountsAsInitialized (drive_of (world_left v) (names v)).unit
    renewed (g, is) =
        left_keeps v CountsAsInitialized held_counts (rw is (fresh_counts g (subst (LeavingFits (named_drive v).unit) is (leaving_fits (asked_of v)))))

-- ---- the tracks of a table

-- All of them are numbers of 32 bits.
abbrev Low : List ℕ → Type 0
Low ts = (i : ℕ) → get_or ts i 0 < 2 ^ 32

-- A track of a drive inside the limits is one: its cylinder is below 4,096.
track_low : (g : Geometry) (t : ℕ) → Within g → TrackOn g t → t < 2 ^ 32
track_low g t within on = omega (arith, within.sizes.cylinders, on.cylinder)

set_low : (ts : List ℕ) (k x : ℕ) → k < length ts → Low ts → x < 2 ^ 32 → Low (set ts k x)
set_low ts k x inside low less i =
    by_cases (ℕ_discrete i k) (λ here. rw (here, get_or-set_same ts k x 0 inside) less) (λ other. rw (get_or-set_other ts k i x 0 other) (low i))

no_tracks_low : Low no_tracks
no_tracks_low i =
    by_cases (dec_lt i 64) (λ less. let zero : get_or no_tracks i 0 ≡ 0 = get_or-replicate 64 i 0 0 less in omega arith)
    (λ past. let zero : get_or no_tracks i 0 ≡ 0 = get_or-eq_default no_tracks 0 {n = i} (omega arith) in omega arith)

still_low : (u : UnitRecord) (moved : ℕ) (l : Leaving) → Low (table u) → LeavingFits u l → Low (table (left_by u moved l))
still_low u moved AsItWas low fits = low
still_low u moved (HeadsAt c) low fits = low
still_low u moved (HeadsAtLastTried s) low fits = low
still_low u moved (Fresh g) low fits = no_tracks_low
still_low u moved (Mapped bad spare) low (counts, fits) =
    let n = pairs u in
    let ts = table u in
    let one : Low (set ts (2 * n) bad) =
    set_low ts (2 * n) bad (omega (arith, fits.room, counts.good.long)) low (track_low (geometry u) bad counts.within fits.bad_on) in
    rw (if_pos (dec_lt n 32) fits.room _ _)
    (set_low (set ts (2 * n) bad) (2 * n + 1) spare (simp length-set (omega (arith, fits.room, counts.good.long))) one
    (track_low (geometry u) spare counts.within fits.spare_on))

-- A table of such numbers stays one.
pub block_keeps_low :
    (v : Visit) (n : UnitNumber) → ((i : ℕ) → get_or (table (drive_of v.world n).unit) i 0 < 2 ^ 32) →
    (i : ℕ) → get_or (table (drive_of (world_left v) n).unit) i 0 < 2 ^ 32
block_keeps_low v n = block_hands (λ u. Low (table u)) still_low (λ u h low. low) n v

-- ---- the sectors of a block

-- A transfer of sectors is for fewer than 65,536 of them.
abbrev Few : Moving → Type 0
Few Nothing = Unit {0}
Few (Sectors j) = j.span.count < 65536
Few (Track spot at) = Unit {0}

-- It is for as many as the block counts, where it is its task's own.
module _ (u : UnitRecord) (host : List ℕ) (b : Block) (few : b.count < 65536) where
  shape_few : (s : Option Geometry) → Few (plan_of u (Initialize s)).moving
  shape_few None = tt
  shape_few (Some g) = tt

  own_few : Few (plan_of u (task_of host b)).moving
  unfolding task_of
  own_few =
      by_code (λ c. Few (plan_of u (task_at c (tasks host b))).moving) b.command listed
      (few, (few, (tt, (shape_few (shape_at host b.address), (tt, (tt, (tt, (few, (few, (tt, tt))))))))))
      (λ none. rw (no_task b.command (tasks host b) none) tt)

module _ (v : Visit) (bytes : (i : ℕ) → get_or v.world.host i 0 < 256) where
  verdict_few : Few (moving_of (verdict_of v))
  verdict_few = by_verdict (verdict_of v) refl
    where
      by_verdict : (x : Result Plan Refusal) → verdict_of v ≡ x → Few (moving_of x)
      by_verdict (Err r) so = tt
      by_verdict (Ok p) so =
          rw (own_plan (asked_of v) p so)
          (own_few (named_drive v).unit v.world.host (block_of v) (omega (arith, word_below 2 v.world.host (v.at + 8) bytes)))

  -- A format is for the sectors of a track, which are at most 255.
  transfer_few : (transfer_by (asked_of v)).count < 65536
  transfer_few = by_moving (moving_of (verdict_of v)) (moving_fits (asked_of v)) verdict_few
    where
      by_moving :
          (m : Moving) → MovingFits (named_drive v).unit (asked_of v).image v.world.host m → Few m →
          (transfer_of v.world.host (named_drive v).unit m).count < 65536
      by_moving Nothing fits few = omega arith
      by_moving (Sectors j) fits few = few
      by_moving (Track spot at) fits few = omega (arith, fits.counts.within.sizes.sectors)

  -- A block moves fewer than 65,536 sectors: at most as many as its transfer is for.
  pub sectors_few : (effect_of v).sectors < 65536
  sectors_few =
      let t = transfer_by (asked_of v) in
      omega (
        arith,
        transfer_few,
        sectors_come v,
        progress_most (λ j. stops_at (named_drive v).image t.geometry t.heeds (t.place j)) 0 t.count,
      )
