-- What is asked of a block, in the reader's words: what a refusal leaves, that no mark changes, and when each answer is given.
-- The first two are the exact footprint; a block fails only as the judgement or its transfer does, and each has its own law.
use Rattle.judge.specs.declared.Plan.{Plan}
use Rattle.std.proofs.Common.{Err, Ok, Result}
use Prim.Native.Nat.{ℕ, ◌+◌, ◌*◌, ◌≤◌, ◌<◌}
use mathlib.Core.List.{List, [], ◌∷◌}
use mathlib.Core.Logic.Iff
use mathlib.Core.Logic.{◌↔◌}
use mathlib.Core.Path.{◌≡◌, refl, sym, ap, subst, ◌∙◌}
use native.Mathlib.Omega.{arith}
use native.Mathlib.Nat.{zero-mul}
use lib.Dec.{T, T_not}
use lib.ListN.{get_or}
use Rattle.wire.specs.Among.{Among}
use Rattle.wire.specs.Memory.{InMemory}
use Rattle.answers.specs.declared.Refusal.{Refusal}
use Rattle.answers.specs.Numbers.{refusal_number}
use Rattle.geometry.specs.Drive.{B, marks_at}
use Rattle.judge.specs.Table.{AnsweredWith, BeforeTransfer, listed, one_of, paper}
use Rattle.judge.proofs.Table.{answered_by_one_line, one_of_lem, refused_before_transfer, refused_by_the_table}
use Rattle.unit.specs.Holding.{held_by_other}
use Rattle.unit.specs.declared.UnitNumber.{UnitNumber}
use Rattle.transfer.specs.Progress.{Progress}
use Rattle.transfer.specs.Stores.{image_byte}
use Rattle.transfer.proofs.Marks.{no_mark_stored}
use Rattle.transfer.proofs.Stops.{stopped_with, stops_before_the_first, unreadable_exactly}
use Rattle.block.specs.Block.{Effect, transfer_of}
use Rattle.block.specs.Steps.{acted_on}
use Rattle.demands.specs.Footprint.{FirstUnreadable, InReport, Unreadable, WritesHost, WritesImage, asked_of, changes, comes, leaving_of, moving_of, named_drive, names, report_of, transfer_by, verdict_of}
use Rattle.demands.specs.Footprint.HostWritten.{moved, report, status_word}
use Rattle.demands.specs.Visits.{Visit, block_of, effect_of, world_left}
use Rattle.demands.proofs.Fits.{drives_geometry, on_drive}
use Rattle.demands.proofs.Keeps.{block_keeps_events, block_keeps_host, block_keeps_image, block_keeps_record}
use Rattle.demands.proofs.Written.{data_disk, effect_is, event_written_exactly, host_written_exactly, image_written_exactly, sectors_come}
use Rattle.unit.specs.Standing.{geometry, holder}
use Rattle.board.specs.World.{drive_of}
use Rattle.transfer.specs.Targets.{Stored}

module _ (v : Visit) where
  -- ---- a block refused before transfer

  module _ (r : Refusal) (refused : verdict_of v ≡ Err r) where
    none_come : (comes (asked_of v) (named_drive v)).sectors ≡ 0
    none_come = sectors_come v ∙ ap (λ (e : Effect). e.sectors) (effect_is v) ∙ rw refused

    only_word_1 : (x : ℕ) → WritesHost v x → Among (v.at + 2) 2 x
    only_word_1 x (status_word word) = word
    only_word_1 x (report among) = absurd (subst (λ (verd : Result Plan Refusal). InReport v.at (report_of verd) x) refused among)
    only_word_1 x (moved d) = absurd (omega (arith, d.moved, none_at_all))
      where
        none_at_all : (comes (asked_of v) (named_drive v)).sectors * B (transfer_by (asked_of v)).geometry ≡ 0
        none_at_all = rw (none_come, zero-mul)

    no_image : (x : ℕ) → WritesImage v x → ⊥
    no_image x d = omega (arith, d.moved, none_at_all)
      where
        none_at_all : (comes (asked_of v) (named_drive v)).sectors * B (transfer_by (asked_of v)).geometry ≡ 0
        none_at_all = rw (none_come, zero-mul)

    -- "A block refused before transfer changes only its own status word and its event entry" (00, demand 1). Every other host
    -- byte is as it was,
    pub refusal_keeps_host : (x : ℕ) → (Among (v.at + 2) 2 x → ⊥) → get_or (world_left v).host x 0 ≡ get_or v.world.host x 0
    refusal_keeps_host x outside = block_keeps_host v x (λ there. outside (only_word_1 x ((host_written_exactly v x).1 there)))

    -- every other event byte,
    pub refusal_keeps_events : (x : ℕ) → (Among (8 * v.index) 8 x → ⊥) → get_or (world_left v).events x 0 ≡ get_or v.world.events x 0
    refusal_keeps_events x outside = block_keeps_events v x (λ there. outside ((event_written_exactly v x).1 there))

    -- every image byte of both units,
    pub refusal_keeps_images :
        (n : UnitNumber) (x : ℕ) → get_or (drive_of (world_left v) n).image x 0 ≡ get_or (drive_of v.world n).image x 0
    refusal_keeps_images n x = block_keeps_image v n x (λ there. no_image x ((image_written_exactly v x).1 there.1))

    -- both records; and it moved nothing.
    pub refusal_keeps_records : (n : UnitNumber) → (drive_of (world_left v) n).unit ≡ (drive_of v.world n).unit
    refusal_keeps_records n =
        block_keeps_record v n (λ there. subst (λ (verd : Result Plan Refusal). changes (leaving_of verd)) refused there.1)

    pub refusal_moves_nothing : ((effect_of v).sectors ≡ 0) × ((effect_of v).answer ≡ Err r)
    refusal_moves_nothing = (
      ap (λ (e : Effect). e.sectors) (effect_is v) ∙ rw refused,
      ap (λ (e : Effect). e.answer) (effect_is v) ∙ rw refused,
    )

  -- ---- marks

  -- No store of a block reaches a mark, or a byte after the marks.
  pub no_mark : (x : ℕ) → marks_at (geometry (named_drive v).unit) ≤ x → Stored (effect_of v).stores (image_byte x) → ⊥
  no_mark x from there =
      let d = (image_written_exactly v x).1 there in
      no_mark_stored (named_drive v).image (transfer_by (asked_of v)) (on_drive (asked_of v)) x (rw (drives_geometry (asked_of v)) from)
      (data_disk (named_drive v).image (transfer_by (asked_of v)) x d.goes (d.byte, (d.moved, d.here)))

  -- "No command changes a mark" (01, One run), and "Bytes after that are never touched" (01, Geometry): whatever a block does, every
  -- byte of its unit's image from the marks on is as it was.
  pub no_mark_changes :
      (x : ℕ) → marks_at (geometry (named_drive v).unit) ≤ x →
      get_or (drive_of (world_left v) (names v)).image x 0 ≡ get_or (named_drive v).image x 0
  no_mark_changes x from = block_keeps_image v (names v) x (λ there. no_mark x from there.1)

  -- ---- the answer

  -- How a block comes to fail with an answer: the judgement refuses it so, or the transfer that it makes is stopped so.
  data Fails (r : Refusal) : Type 0 where
    refused : verdict_of v ≡ Err r → Fails r
    stopped : (comes (asked_of v) (named_drive v)).answer ≡ Err r → Fails r

  fails : (r : Refusal) → (effect_of v).answer ≡ Err r → Fails r
  fails r e = by_verdict (verdict_of v) refl (sym (ap (λ (x : Effect). x.answer) (effect_is v)) ∙ e)
    where
      by_verdict :
          (verd : Result Plan Refusal) → verdict_of v ≡ verd →
          (acted_on v.world.host (named_drive v) v.at (verdict_of v)).answer ≡ Err r → Fails r
      by_verdict (Err s) is answer = refused (is ∙ ap Err (cc (rw is at answer)))
      by_verdict (Ok plan) is answer = stopped (rw is (rw is at answer))

  -- An answer before transfer is a block's exactly where the judgement refuses it so. A transfer that is stopped has 20.
  pub refused_exactly : (r : Refusal) → BeforeTransfer r → ((effect_of v).answer ≡ Err r) ↔ (verdict_of v ≡ Err r)
  refused_exactly r early = (λ e. by_way (fails r e), λ is. (refusal_moves_nothing r is).1)
    where
      by_way : Fails r → verdict_of v ≡ Err r
      by_way (refused is) = is
      by_way (stopped stop) =
          absurd (early (ap refusal_number (stopped_with (named_drive v).image (transfer_by (asked_of v)) r stop)))

  -- So each of 10 to 19, and of 22 to 24, is "given in its stated case and no other" (00, demand 1): it is the block's answer exactly where the first
  -- line of the papers' table that applies to the block has it, "Block answers, in order".
  pub answered_by_the_table :
      (r : Refusal) → BeforeTransfer r →
      ((effect_of v).answer ≡ Err r) ↔ AnsweredWith (refusal_number r) (block_of v).command (paper (block_of v) (asked_of v))
  answered_by_the_table r early = Iff.trans (refused_exactly r early) (refused_by_the_table (block_of v) (asked_of v) refl r)

  -- 12: "UIB address odd or UIB not wholly in host memory", of an 87 that 24 does not refuse.
  pub answer_12_exactly :
      ((effect_of v).answer ≡ Err Refusal.UibMisplaced) ↔
      (((block_of v).command ≡ 0x87) ×
      ((T (held_by_other v.world.controller (holder (named_drive v).unit)) → ⊥) × (InMemory v.world.host (block_of v).address 18 → ⊥)))
  answer_12_exactly =
      let c = (block_of v).command in
      let lines = paper (block_of v) (asked_of v) in
      Iff.trans (answered_by_the_table Refusal.UibMisplaced (λ is. omega arith))
      (Iff.trans (answered_by_one_line c 12 lines tt) (
        λ (known, (free, (counts, (for-87, bad)))).
            let is = one_of_lem (λ x. x ≡ 0x87) c (0x87 ∷ []) (refl, tt) for-87 in
            (is, (λ held. free (rw is tt, held), bad)),
        λ (is, (free, bad)). (λ it. rw is at it.1, (λ it. free it.1, (λ it. rw is at it.0, (rw is tt, bad)))),
      ))

  -- 24: "A chain's block for a drive held by the other controller", for the nine commands of its line, which are all but 86 (02, K10).
  pub answer_24_exactly :
      ((effect_of v).answer ≡ Err Refusal.DriveHeld) ↔
      (T (one_of (block_of v).command (0x81 ∷ 0x82 ∷ 0x87 ∷ 0x89 ∷ 0x8a ∷ 0x8c ∷ 0xa1 ∷ 0xa2 ∷ 0x85 ∷ [])) ×
      T (held_by_other v.world.controller (holder (named_drive v).unit)))
  answer_24_exactly =
      let c = (block_of v).command in
      let nine : List ℕ = 0x81 ∷ 0x82 ∷ 0x87 ∷ 0x89 ∷ 0x8a ∷ 0x8c ∷ 0xa1 ∷ 0xa2 ∷ 0x85 ∷ [] in
      let alone = answered_by_one_line c 24 (paper (block_of v) (asked_of v)) tt in
      Iff.trans (answered_by_the_table Refusal.DriveHeld (λ is. omega arith)) (
        λ x. (alone.0 x).1,
        λ so.
            alone.1 (
              λ it. T_not (one_of c listed) it.1 (one_of_lem (λ x. T (one_of x listed)) c nine (tt, (tt, (tt, (tt, (tt, (tt, (tt, (tt, (tt, tt))))))))) so.0),
              so,
            ),
      )

  -- 20: "unreadable sector, DE clear; earlier sectors moved", exactly where the block makes a transfer that heeds the marks and one of its sectors has
  -- a mark that is not 0.
  pub answer_20_exactly : ((effect_of v).answer ≡ Err Refusal.Unreadable) ↔ Unreadable (asked_of v) (named_drive v)
  answer_20_exactly = (λ e. by_way (fails Refusal.Unreadable e), by_mark)
    where
      by_way : Fails Refusal.Unreadable → Unreadable (asked_of v) (named_drive v)
      by_way (refused is) = absurd (refused_before_transfer _ Refusal.Unreadable is refl)
      by_way (stopped stop) = (unreadable_exactly (named_drive v).image (transfer_by (asked_of v))).0 stop

      -- a refused block makes a transfer of no sectors, which no mark stops
      answers :
          (verd : Result Plan Refusal) → verdict_of v ≡ verd → (j : ℕ) → j < (transfer_by (asked_of v)).count →
          (acted_on v.world.host (named_drive v) v.at (verdict_of v)).answer ≡ (comes (asked_of v) (named_drive v)).answer
      answers (Err r) is j there =
          absurd (omega (arith, subst (λ (x : Result Plan Refusal). j < (transfer_of v.world.host (named_drive v).unit (moving_of x)).count) is there))
      answers (Ok plan) is j there = rw is

      by_mark : Unreadable (asked_of v) (named_drive v) → (effect_of v).answer ≡ Err Refusal.Unreadable
      by_mark meets =
          ap (λ (x : Effect). x.answer) (effect_is v)
          ∙ answers (verdict_of v) refl meets.sector meets.there
          ∙ (unreadable_exactly (named_drive v).image (transfer_by (asked_of v))).1 meets

  -- "earlier sectors moved": as many as stand before the first such.
  pub sectors_before_it : (j : ℕ) → FirstUnreadable (asked_of v) (named_drive v) j → (effect_of v).sectors ≡ j
  sectors_before_it j first =
      sym (sectors_come v) ∙ ap (λ (p : Progress). p.sectors) (stops_before_the_first (named_drive v).image (transfer_by (asked_of v)) j first)
