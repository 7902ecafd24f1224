-- A drive that one controller holds is never written for the other (02, K10): no image byte, record, table or head position.
-- Every block for it is refused but a handshake, and neither moves anything nor changes the record; so the holder stays, block after block.
use Rattle.judge.specs.declared.Plan.{Plan}
use Rattle.std.proofs.Common.{Err, Result, Ok}
use Prim.Native.Nat.{ℕ, zero, suc, ◌+◌, ◌<◌}
use mathlib.Core.Bool.{Bool, true, false}
use mathlib.Core.List.{List, ◌∷◌}
use mathlib.Core.Logic.{by_cases, if_neg, if_pos, inl, inr}
use mathlib.Core.Path.{◌≡◌, refl, sym, ap, subst, ◌∙◌}
use native.Mathlib.Omega.{arith}
use lib.ListN.{get_or}
use lib.Seq.{ext_get_or}
use Rattle.answers.specs.Numbers.{BlockAnswer}
use Rattle.answers.specs.declared.Refusal.{Refusal}
use Rattle.judge.specs.declared.Leaving.{Leaving}
use Rattle.judge.specs.declared.Moving.{Moving}
use Rattle.judge.specs.Given.{Asked, on}
use Rattle.judge.specs.Verdict.{verdict}
use Rattle.judge.proofs.Tasks.{handshake, held_24, unknown}
use Rattle.request.specs.declared.Task.{Task}
use Rattle.unit.specs.declared.UnitNumber.{UnitNumber}
use Rattle.unit.specs.Holding.{held_by_other}
use Rattle.wire.proofs.Decided.{in_memory?}
use Rattle.unit.specs.Standing.{holder}
use Rattle.transfer.specs.Stores.{after}
use Rattle.block.specs.Block.{transfer_of}
use Rattle.board.specs.Chain.{ran}
use Rattle.demands.specs.Footprint.{DiskData, RunWritesImage, RunWritesRecord, SomeBlock, WritesImage, WritesRecord, asked_of, changes, leaving_of, moving_of, named_drive, names, verdict_of}
use Rattle.demands.specs.Visits.{Visit, block_of, effect_of, fetched_by, onwards, passes?, visits, world_left}
use Rattle.demands.proofs.Keeps.{block_keeps_image, block_keeps_lengths, block_keeps_record, run_hands, some_none}
use Rattle.demands.proofs.Places.{data_is_touched}
use Rattle.demands.proofs.Written.{image_written_exactly}
use Rattle.board.specs.World.{World, buffers_of, changed, drive_of, world_after}

-- What is judged for a drive that the other holds moves nothing and leaves the record as it was.
pub record Idle (v : Result Plan Refusal) : Type 0 where
  pub moving : moving_of v ≡ Moving.Nothing
  pub leaving : leaving_of v ≡ Leaving.AsItWas

module _ (a : Asked) (held : held_by_other a.controller (holder a.unit) ≡ true) where
  abbrev asked_for : Task → Asked
  asked_for t = on a.controller a.unit a.image t a.host

  refused_idle : (v : Result Plan Refusal) (r : Refusal) → v ≡ Err r → Idle v
  refused_idle v r is = record { moving = ap moving_of is; leaving = ap leaving_of is }

  by_task : (t : Task) → Idle (verdict (asked_for t))
  by_task Task.Unknown = refused_idle _ _ (unknown _ _ _ _)
  by_task (Task.Move m) = refused_idle _ _ (held_24 _ _ _ _ (Task.Move m) tt held)
  by_task Task.Handshake =
      let is = handshake a.controller a.unit a.image a.host in
      record { moving = ap moving_of is; leaving = ap leaving_of is }
  by_task (Task.Initialize s) = refused_idle _ _ (held_24 _ _ _ _ (Task.Initialize s) tt held)
  by_task Task.Restore = refused_idle _ _ (held_24 _ _ _ _ Task.Restore tt held)
  by_task (Task.Seek t) = refused_idle _ _ (held_24 _ _ _ _ (Task.Seek t) tt held)
  by_task (Task.Format k) = refused_idle _ _ (held_24 _ _ _ _ (Task.Format k) tt held)
  by_task (Task.Map k) = refused_idle _ _ (held_24 _ _ _ _ (Task.Map k) tt held)

  pub idle_where_held : Idle (verdict a)
  idle_where_held = by_task a.task

-- ---- a block

module _ (v : Visit) (n : UnitNumber) (held : held_by_other v.world.controller (holder (drive_of v.world n).unit) ≡ true) where
  idle : names v ≡ n → Idle (verdict_of v)
  idle named =
      idle_where_held (asked_of v)
      (subst (λ (m : UnitNumber). held_by_other v.world.controller (holder (drive_of v.world m).unit) ≡ true) (sym named) held)

  no_data : names v ≡ n → (x : ℕ) → DiskData (asked_of v) (named_drive v) false x → ⊥
  no_data named x moved =
      let touched = data_is_touched (asked_of v) (named_drive v) false x moved in
      let none : touched.sector < 0 =
      subst (λ (m : Moving). touched.sector < (transfer_of v.world.host (named_drive v).unit m).count) (idle named).moving touched.less in
      omega arith

  -- It stores to no byte of the image, not even what stood there, and does not write the record.
  pub block_stores_none : (x : ℕ) → (names v ≡ n) × WritesImage v x → ⊥
  block_stores_none x (named, does) = no_data named x does

  pub block_writes_no_record : (names v ≡ n) × WritesRecord v → ⊥
  block_writes_no_record (named, does) = subst changes (idle named).leaving does

  same_image : (x : ℕ) → get_or (drive_of (world_left v) n).image x 0 ≡ get_or (drive_of v.world n).image x 0
  same_image x = block_keeps_image v n x (λ (named, target). block_stores_none x (named, (image_written_exactly v x).1 target))

  pub block_leaves_held_drive : drive_of (world_left v) n ≡ drive_of v.world n
  block_leaves_held_drive =
      let image = ext_get_or 0 (drive_of (world_left v) n).image (drive_of v.world n).image ((block_keeps_lengths v).1.1 n) (λ x less. same_image x) in
      let unit = block_keeps_record v n block_writes_no_record in
      λ i. record { unit = unit i; image = image i }

-- ---- a run

-- The controller that runs a chain is the same at every block.
pub block_keeps_controller : (v : Visit) → (world_left v).controller ≡ v.world.controller
unfolding world_after
block_keeps_controller v = by_unit (names v)
  where
    by_unit :
        (n : UnitNumber) →
        (changed v.world n (after (effect_of v).stores (buffers_of v.world n)) (effect_of v).unit).controller ≡ v.world.controller
    by_unit UnitNumber.Zero = refl
    by_unit UnitNumber.One = refl

pub run_leaves_held_drive :
    (first allowance : ℕ) (w : World) (n : UnitNumber) → held_by_other w.controller (holder (drive_of w n).unit) ≡ true →
    drive_of (ran first allowance w).world n ≡ drive_of w n
run_leaves_held_drive first allowance w n held =
    (run_hands (λ x. (x.controller ≡ w.controller) × (drive_of x n ≡ drive_of w n)) first allowance w (λ v. ⊥)
    (λ v out now.
    let still : held_by_other v.world.controller (holder (drive_of v.world n).unit) ≡ true =
    (λ i. held_by_other (now.0 i) (holder (now.1 i).unit)) ∙ held in
    (block_keeps_controller v ∙ now.0, block_leaves_held_drive v n still ∙ now.1))
    (some_none (fetched_by first allowance w)) (refl, refl)).1

-- ---- what a run does not do

-- What each block hands on is so wherever a run fetches one, so that none of them does what none does where it is so.
module _
    (I : World → Type 0) (hands : (v : Visit) → I v.world → I (world_left v)) (P : Visit → Type 0)
    (not_there : (v : Visit) → I v.world → P v → ⊥)
  where
    none_onwards :
        (a : BlockAnswer) (link : Bool) (v : Visit) (rest : List Visit) → I v.world → (SomeBlock P rest → ⊥) → SomeBlock P (v ∷ onwards a link rest) → ⊥
    none_onwards a link v rest now later (inl does) = not_there v now does
    none_onwards (Err r) link v rest now later (inr does) = does
    none_onwards (Ok _) false v rest now later (inr does) = does
    none_onwards (Ok _) true v rest now later (inr does) = later does

    none_in_visits : (left i at : ℕ) (w : World) → I w → SomeBlock P (visits left i at w) → ⊥
    unfolding visits
    none_in_visits zero i at w now does = does
    none_in_visits (suc n) i at w now does =
        by_cases (in_memory? w.host at 28)
        (λ good.
        let v : Visit = record { at = at; index = i; world = w } in
        none_onwards (effect_of v).answer (block_of v).options.link v (visits n (i + 1) (block_of v).link (world_left v)) now
        (none_in_visits n (i + 1) (block_of v).link (world_left v) (hands v now)) (subst (SomeBlock P) (if_pos (in_memory? w.host at 28) good _ _) does))
        (λ bad. subst (SomeBlock P) (if_neg (in_memory? w.host at 28) bad _ _) does)

    none_in_run : (first allowance : ℕ) (w : World) → I w → SomeBlock P (fetched_by first allowance w) → ⊥
    unfolding fetched_by
    none_in_run first allowance w now does =
        by_cases (passes? first allowance w)
        (λ passes. none_in_visits allowance 0 first w now (subst (SomeBlock P) (if_pos (passes? first allowance w) passes _ _) does))
        (λ refused. subst (SomeBlock P) (if_neg (passes? first allowance w) refused _ _) does)

module _ (first allowance : ℕ) (w : World) (n : UnitNumber) (held : held_by_other w.controller (holder (drive_of w n).unit) ≡ true) where
  abbrev HeldStill : World → Type 0
  HeldStill x = held_by_other x.controller (holder (drive_of x n).unit) ≡ true

  still_held : (v : Visit) → HeldStill v.world → HeldStill (world_left v)
  still_held v now = (λ i. held_by_other (block_keeps_controller v i) (holder (block_leaves_held_drive v n now i).unit)) ∙ now

  -- So of a run: no byte of its image is stored to, and its record is not written.
  pub held_image_unwritten : (x : ℕ) → RunWritesImage first allowance w n x → ⊥
  held_image_unwritten x =
      none_in_run HeldStill still_held (λ v. (names v ≡ n) × WritesImage v x) (λ v now. block_stores_none v n now x) first allowance w held

  pub held_record_unwritten : RunWritesRecord first allowance w n → ⊥
  held_record_unwritten =
      none_in_run HeldStill still_held (λ v. (names v ≡ n) × WritesRecord v) (λ v now. block_writes_no_record v n now) first allowance w held
