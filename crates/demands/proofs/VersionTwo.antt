-- "Nobody could say which half was true" (00, of version two): after a block that read from the disk, the host has the disk's bytes
-- for the sectors that the count says, and nothing of the rest.
-- The data stand between the 81 00 and the finish, and of host memory these two write word 1 alone.
use Rattle.answers.specs.declared.Refusal.{Refusal}
use Rattle.std.proofs.Common.{Err, Ok, Result}
use Prim.Native.Nat.{ℕ, ◌+◌, ◌*◌, ◌<◌}
use mathlib.Core.Bool.{true, false≢true}
use mathlib.Core.List.{List, [], ◌∷◌, ◌++◌, append-nil}
use mathlib.Core.Path.{◌≡◌, refl, sym, ap, subst, ◌∙◌}
use native.Mathlib.Omega.{arith}
use lib.ListN.{get_or, length}
use Rattle.wire.specs.Among.{Among}
use Rattle.geometry.specs.Drive.{B}
use Rattle.judge.specs.declared.Moving.{Moving}
use Rattle.judge.specs.declared.Moving.TheVariants.{Nothing, Sectors, Track}
use Rattle.judge.specs.declared.Plan.{Plan}
use Rattle.judge.specs.declared.Report.{Report}
use Rattle.judge.proofs.LetThrough.{quiet_let_through}
use Rattle.transfer.specs.Data.{Transfer, data_on, disk_byte, progress_on}
use Rattle.transfer.specs.Stores.{Buffers, Store, after, bytes_from}
use Rattle.transfer.proofs.Earlier.{host_has_byte}
use Rattle.transfer.proofs.Stays.{host_bytes_stored, lengths_stay}
use Rattle.transfer.proofs.Stores.{after_append}
use Rattle.block.specs.Block.{begun, reported, transfer_of}
use Rattle.block.specs.Steps.{acted_on}
use Rattle.demands.specs.Footprint.{HostData, InReport, WritesHost, asked_of, comes, moving_of, named_drive, names, report_of, transfer_by, verdict_of}
use Rattle.demands.specs.Footprint.HostWritten.{moved, report, status_word}
use Rattle.demands.specs.Visits.{Visit, effect_of, world_left}
use Rattle.demands.proofs.Keeps.{block_keeps_host, buffers_left}
use Rattle.demands.proofs.Written.{closing_keeps_host, host_written_exactly, performance, performed_then_closed, sectors_come}
use Rattle.board.specs.World.{buffers_of}

-- A block that moves sectors to host memory was accepted, and reports nothing.
module _ (v : Visit) (reads : (transfer_by (asked_of v)).to_host ≡ true) where
  abbrev t : Transfer
  t = transfer_by (asked_of v)

  record Read : Type 0 where
    plan : Plan
    judged_so : verdict_of v ≡ Ok plan
    silent : plan.report ≡ Report.Nothing

  accepted : Read
  accepted = by_verdict (verdict_of v) refl
    where
      by_moving :
          (plan : Plan) → verdict_of v ≡ Ok plan → (m : Moving) → plan.moving ≡ m →
          (transfer_of v.world.host (named_drive v).unit m).to_host ≡ true → plan.report ≡ Report.Nothing
      by_moving plan is Nothing moves to = absurd (false≢true to)
      by_moving plan is (Sectors j) moves to = quiet_let_through (asked_of v) plan j is moves
      by_moving plan is (Track spot at) moves to = absurd (false≢true to)

      by_verdict : (verd : Result Plan Refusal) → verdict_of v ≡ verd → Read
      by_verdict (Err r) is = absurd (false≢true (rw is at reads))
      by_verdict (Ok plan) is = record { plan = plan; judged_so = is; silent = by_moving plan is plan.moving refl (rw is at reads) }

  no_words : (x : ℕ) → InReport v.at (report_of (verdict_of v)) x → ⊥
  no_words x = subst (λ (r : Report). InReport v.at r x) (ap report_of accepted.judged_so ∙ accepted.silent)

  -- The count says how many sectors came.
  pub count_says : (effect_of v).sectors ≡ (comes (asked_of v) (named_drive v)).sectors
  count_says = sym (sectors_come v)

  -- Nothing of the rest: a host byte that is neither in word 1 nor one of the bytes that came is as it was.
  pub nothing_of_the_rest :
      (x : ℕ) → (Among (v.at + 2) 2 x → ⊥) → (HostData (asked_of v) (named_drive v) true x → ⊥) →
      get_or (world_left v).host x 0 ≡ get_or v.world.host x 0
  nothing_of_the_rest x outside other = block_keeps_host v x (λ there. none ((host_written_exactly v x).1 there))
    where
      none : WritesHost v x → ⊥
      none (status_word word) = outside word
      none (report among) = no_words x among
      none (moved here) = other here

  -- The disk's bytes for the sectors that came: byte k of them stands in host memory at its place in the pieces, where no later
  -- byte takes that place and word 1 does not lie there.
  module _
      (k : ℕ) (came : k < (comes (asked_of v) (named_drive v)).sectors * B t.geometry) (inside : t.host_at k < length v.world.host)
      (last : (i : ℕ) → k < i → i < (comes (asked_of v) (named_drive v)).sectors * B t.geometry → t.host_at i ≡ t.host_at k → ⊥)
      (outside : Among (v.at + 2) 2 (t.host_at k) → ⊥) where
    abbrev marked : Buffers → Buffers
    marked b = after (begun v.at) b

    -- What performing stores: the 81 00 and the data.
    stores_are : (performance v).stores ≡ begun v.at ++ data_on (named_drive v).image t
    unfolding bytes_from
    stores_are =
        ap (λ (verd : Result Plan Refusal). (acted_on v.world.host (named_drive v) v.at verd).stores) accepted.judged_so
        ∙ ap (λ (r : Report). begun v.at ++ data_on (named_drive v).image (transfer_of v.world.host (named_drive v).unit accepted.plan.moving) ++ reported v.at r) accepted.silent
        ∙ append-nil _
        ∙ ap (λ (verd : Result Plan Refusal). begun v.at ++ data_on (named_drive v).image (transfer_of v.world.host (named_drive v).unit (moving_of verd))) (sym accepted.judged_so)

    data_there :
        (b : Buffers) → b.image ≡ (named_drive v).image → length b.host ≡ length v.world.host →
        get_or (after (effect_of v).stores b).host (t.host_at k) 0 ≡ get_or (named_drive v).image (disk_byte t.geometry t.place k) 0
    data_there b same long =
        let data-stores = data_on (named_drive v).image t in
        let marked-image : (marked b).image ≡ (named_drive v).image = ap (λ (x : Buffers). x.image) (host_bytes_stored (0x81 ∷ 0x00 ∷ []) (v.at + 2) b) ∙ same in
        let amount : (comes (asked_of v) (named_drive v)).sectors ≡ (progress_on (marked b).image t).sectors =
        ap (λ (i : List ℕ). (progress_on i t).sectors) (sym marked-image) in
        ap (λ (x : Buffers). get_or x.host (t.host_at k) 0) (performed_then_closed v b)
        ∙ closing_keeps_host v (t.host_at k) (after (performance v).stores b) outside
        ∙ ap (λ (ss : List Store). get_or (after ss b).host (t.host_at k) 0) stores_are
        ∙ ap (λ (x : Buffers). get_or x.host (t.host_at k) 0) (after_append (begun v.at) data-stores b)
        ∙ ap (λ (i : List ℕ). get_or (after (data_on i t) (marked b)).host (t.host_at k) 0) (sym marked-image)
        ∙ host_has_byte (marked b) t reads k (rw amount at came) (omega (arith, lengths_stay (begun v.at) b))
        (λ i later less. last i later (rw amount less))
        ∙ ap (λ (i : List ℕ). get_or i (disk_byte t.geometry t.place k) 0) marked-image

    pub disk_byte_is_there :
        get_or (world_left v).host (t.host_at k) 0 ≡ get_or (named_drive v).image (disk_byte t.geometry t.place k) 0
    disk_byte_is_there =
        ap (λ (x : Buffers). get_or x.host (t.host_at k) 0) (buffers_left v) ∙ data_there (buffers_of v.world (names v)) refl refl
