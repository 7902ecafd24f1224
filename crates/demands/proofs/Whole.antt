-- An accepted 82, A2 or 8C ends 80 with all its sectors, and the disk then has the host's bytes in each of them, where no two stand in one place: the
-- counterpart, for writes, of what version two could not say (00).
-- A write heeds no mark, so its transfer comes whole; of its stores the data alone reach the image, and they are taken once 81 00 is stored.
use Rattle.answers.specs.declared.Refusal.{Refusal}
use Rattle.std.proofs.Common.{Ok, Result}
use Prim.Native.Nat.{ℕ, ◌+◌, ◌*◌, ◌<◌}
use mathlib.Core.Bool.{false}
use mathlib.Core.List.{List, [], ◌∷◌, ◌++◌}
use mathlib.Core.Logic.{◌⊎◌, inl, inr}
use mathlib.Core.Path.{◌≡◌, refl, sym, ap, ◌∙◌}
use lib.ListN.{get_or}
use lib.Seq.{sets}
use Rattle.geometry.specs.Drive.{B, S}
use Rattle.iopb.specs.Ask.{task_at, task_of, tasks}
use Rattle.judge.specs.declared.Moving.{Moving}
use Rattle.judge.specs.declared.Moving.TheVariants.{Nothing, Sectors, Track}
use Rattle.judge.specs.declared.Plan.{Plan}
use Rattle.judge.specs.Plans.{plan_of}
use Rattle.judge.proofs.LetThrough.{own_plan}
use Rattle.request.specs.declared.Task.{Task}
use Rattle.transfer.specs.Data.{Transfer, data_on, disk_byte, progress_on}
use Rattle.transfer.specs.Progress.{Progress}
use Rattle.transfer.specs.Stores.{Buffers, Store, after}
use Rattle.transfer.proofs.Earlier.{afterwards, image_has_all}
use Rattle.transfer.proofs.Stays.{host_bytes_stored}
use Rattle.transfer.proofs.Stops.{whole_unheeding}
use Rattle.transfer.proofs.Stores.{after_append}
use Rattle.block.specs.Block.{Effect, begun, reported, transfer_of}
use Rattle.block.specs.Steps.{acted_on}
use Rattle.block.proofs.Effects.{reported_row}
use Rattle.demands.specs.Footprint.{asked_of, moving_of, named_drive, names, transfer_by, verdict_of}
use Rattle.unit.specs.Standing.{geometry}
use Rattle.demands.specs.Visits.{Visit, block_of, effect_of, world_left}
use Rattle.demands.proofs.Fits.{all_in_image}
use Rattle.demands.proofs.Keeps.{buffers_left}
use Rattle.demands.proofs.Written.{closing_keeps_image, effect_is, performance, performed_then_closed, sectors_come}
use Rattle.board.specs.World.{buffers_of, drive_of}

-- Host memory as a transfer finds it: the block is marked with 81 00.
abbrev pub marked_host : Visit → List ℕ
marked_host v = sets v.world.host (v.at + 2) (0x81 ∷ 0x00 ∷ [])

module _ (v : Visit) (plan : Plan) (accepted : verdict_of v ≡ Ok plan) (writes : (transfer_by (asked_of v)).to_host ≡ false) where
  abbrev t : Transfer
  t = transfer_by (asked_of v)

  -- No write heeds the marks.
  ignores : t.heeds ≡ false
  ignores = by_moving (moving_of (verdict_of v)) writes
    where
      by_moving :
          (m : Moving) → (transfer_of v.world.host (named_drive v).unit m).to_host ≡ false →
          (transfer_of v.world.host (named_drive v).unit m).heeds ≡ false
      by_moving Nothing out = refl
      by_moving (Sectors j) out = rw out
      by_moving (Track spot at) out = refl

  pub write_ends_whole : ((effect_of v).answer ≡ Ok tt) × ((effect_of v).sectors ≡ t.count)
  write_ends_whole =
      let whole = whole_unheeding (named_drive v).image t ignores in
      let judged_so : (acted_on v.world.host (named_drive v) v.at (verdict_of v)).answer ≡ (Ok tt) =
      ap (λ (verd : Result Plan Refusal). (acted_on v.world.host (named_drive v) v.at verd).answer) accepted
      ∙ ap (λ (verd : Result Plan Refusal). (progress_on (named_drive v).image (transfer_of v.world.host (named_drive v).unit (moving_of verd))).answer) (sym accepted)
      ∙ ap (λ (p : Progress). p.answer) whole in
      (ap (λ (e : Effect). e.answer) (effect_is v) ∙ judged_so, sym (sectors_come v) ∙ ap (λ (p : Progress). p.sectors) whole)

  abbrev marked : Buffers
  marked = record { host = marked_host v; image = (named_drive v).image; events = v.world.events }

  image_left : (drive_of (world_left v) (names v)).image ≡ (afterwards marked t).image
  image_left =
      let b = buffers_of v.world (names v) in
      let data-stores = data_on (named_drive v).image t in
      let early = begun v.at ++ data-stores in
      let row = reported v.at plan.report in
      let words = reported_row v.at plan.report in
      let performed-so : (performance v).stores ≡ early ++ row = rw accepted in
      ap (λ (m : Buffers). m.image) (buffers_left v ∙ performed_then_closed v b)
      ∙ closing_keeps_image v (after (performance v).stores b)
      ∙ ap (λ (ss : List Store). (after ss b).image) performed-so
      ∙ ap (λ (m : Buffers). m.image)
      (after_append early row b ∙ ap (λ (ss : List Store). after ss (after early b)) words.1.1 ∙ host_bytes_stored words.1.0 words.0 (after early b))
      ∙ ap (λ (m : Buffers). m.image) (after_append (begun v.at) data-stores b)
      ∙ ap (λ (m : Buffers). (after data-stores m).image) (host_bytes_stored (0x81 ∷ 0x00 ∷ []) (v.at + 2) b)

  pub disk_has_the_hosts_bytes :
      ((i j : ℕ) → i < t.count → j < t.count → t.place i ≡ t.place j → i ≡ j) →
      (k : ℕ) → k < t.count * B t.geometry →
      get_or (drive_of (world_left v) (names v)).image (disk_byte t.geometry t.place k) 0 ≡ get_or (marked_host v) (t.host_at k) 0
  disk_has_the_hosts_bytes differ k less =
      rw image_left (image_has_all marked t writes ignores (λ j j<. (all_in_image (asked_of v) j j<).0) differ k less)

-- ---- by command

module _ (v : Visit) (plan : Plan) (accepted : verdict_of v ≡ Ok plan) where
  -- What is let through is what its command asks.
  its_transfer :
      (task : Task) → task_of v.world.host (block_of v) ≡ task →
      transfer_by (asked_of v) ≡ transfer_of v.world.host (named_drive v).unit (plan_of (named_drive v).unit task).moving
  its_transfer task asks =
      ap (λ (verd : Result Plan Refusal). transfer_of v.world.host (named_drive v).unit (moving_of verd)) (accepted ∙ ap Ok (own_plan (asked_of v) plan accepted))
      ∙ ap (λ (x : Task). transfer_of v.world.host (named_drive v).unit (plan_of (named_drive v).unit x).moving) asks

  -- A transfer that writes so many sectors.
  abbrev Writing : ℕ → Type 0
  Writing n = ((transfer_by (asked_of v)).to_host ≡ false) × ((transfer_by (asked_of v)).count ≡ n)

  writing :
      (task : Task) (n : ℕ) → task_of v.world.host (block_of v) ≡ task →
      let made = transfer_of v.world.host (named_drive v).unit (plan_of (named_drive v).unit task).moving in
      made.to_host ≡ false → made.count ≡ n → Writing n
  writing task n asks out all =
      let same = its_transfer task asks in (ap (λ (x : Transfer). x.to_host) same ∙ out, ap (λ (x : Transfer). x.count) same ∙ all)

  -- 82 and A2 write as many sectors as word 4 says, and 8C the S of its track.
  asks : (code : ℕ) → (block_of v).command ≡ code → task_of v.world.host (block_of v) ≡ task_at code (tasks v.world.host (block_of v))
  unfolding task_of
  asks code is = ap (λ (c : ℕ). task_at c (tasks v.world.host (block_of v))) is

  by_82_or_A2 : ((block_of v).command ≡ 0x82) ⊎ ((block_of v).command ≡ 0xa2) → Writing (block_of v).count
  by_82_or_A2 (inl is) = writing _ _ (asks 0x82 is) refl refl
  by_82_or_A2 (inr is) = writing _ _ (asks 0xa2 is) refl refl

  by_8C : (block_of v).command ≡ 0x8c → Writing (S (geometry (named_drive v).unit))
  by_8C is = writing _ _ (asks 0x8c is) refl refl

  ended_with : (n : ℕ) → Writing n → ((effect_of v).answer ≡ Ok tt) × ((effect_of v).sectors ≡ n)
  ended_with n (out, all) = let ends = write_ends_whole v plan accepted out in (ends.0, ends.1 ∙ all)

  pub accepted_write_is_whole :
      ((block_of v).command ≡ 0x82) ⊎ ((block_of v).command ≡ 0xa2) → ((effect_of v).answer ≡ Ok tt) × ((effect_of v).sectors ≡ (block_of v).count)
  accepted_write_is_whole is = ended_with _ (by_82_or_A2 is)

  -- "8C counts S" (01, One run)
  pub accepted_8C_counts_S : (block_of v).command ≡ 0x8c → ((effect_of v).answer ≡ Ok tt) × ((effect_of v).sectors ≡ S (geometry (named_drive v).unit))
  accepted_8C_counts_S is = ended_with _ (by_8C is)
