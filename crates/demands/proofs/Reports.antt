-- What a block reports stands in it when it has ended; and a format that is let through ends 80, counts S, and says S − 1 and S in its block.
-- Nothing is stored after the words but word 1, which lies elsewhere, and the entry; the data is taken before them.
use Rattle.answers.specs.declared.Refusal.{Refusal}
use Rattle.std.proofs.Common.{Ok, Result}
use Prim.Native.Nat.{ℕ, ◌+◌, ◌-◌, ◌*◌, ◌%◌, ◌≤◌, ◌<◌}
use mathlib.Core.Bool.{false}
use mathlib.Core.List.{List, [], ◌∷◌, ◌++◌}
use mathlib.Core.Logic.{inl, inr}
use mathlib.Core.Path.{◌≡◌, refl, ap, ◌∙◌}
use native.Mathlib.Omega.{arith}
use lib.ListN.{get_or, length}
use Rattle.wire.specs.Words.{be16, word}
use Rattle.wire.proofs.Promises.{never}
use Rattle.geometry.specs.declared.Geometry.{Geometry}
use Rattle.geometry.specs.Drive.{B, S}
use Rattle.iopb.specs.Identity.{identity_bytes}
use Rattle.judge.specs.declared.Report.{Report}
use Rattle.judge.specs.declared.Report.TheVariants.{Nothing as Silent, Identity, Formatted}
use Rattle.judge.specs.declared.Plan.{Plan}
use Rattle.judge.specs.Plans.{plan_of}
use Rattle.judge.proofs.LetThrough.{own_plan}
use Rattle.request.specs.declared.Task.TheVariants.{Format}
use Rattle.request.specs.declared.Track.{Track}
use Rattle.transfer.specs.Data.{Transfer, data_on, disk_byte, formatting}
use Rattle.transfer.specs.Stores.{Buffers, Store, after, bytes_from, host_byte}
use Rattle.transfer.proofs.Stays.{host_bytes_stored, lengths_stay}
use Rattle.transfer.proofs.Stores.{after_append}
use Rattle.unit.specs.Landing.{track_of}
use Rattle.unit.specs.Standing.{geometry}
use Rattle.block.specs.Block.{begun, reported, transfer_of}
use Rattle.block.proofs.Told.{row_stands}
use Rattle.demands.specs.Footprint.{WritesHost, asked_of, moving_of, named_drive, names, transfer_by, verdict_of}
use Rattle.demands.specs.Visits.{Visit, effect_of, world_left}
use Rattle.demands.proofs.Keeps.{block_keeps_host, buffers_left}
use Rattle.demands.proofs.Lists.{Formats, Listed, written_for}
use Rattle.demands.proofs.Whole.{disk_has_the_hosts_bytes, marked_host, write_ends_whole}
use Rattle.demands.proofs.Written.{closing_keeps_host, host_written_exactly, performance, performed_then_closed}
use Rattle.board.specs.World.{buffers_of, drive_of}

-- The words of a report stand in a block at an address: those of an 86 are its own identity, and those of a format the last of so many sectors and how
-- many they are.
abbrev pub Stands : List ℕ → ℕ → Report → Type 0
Stands host at Silent = Unit {0}
Stands host at Identity = (k : ℕ) → k < 12 → get_or host (at + 4 + k) 0 ≡ get_or identity_bytes k 0
Stands host at (Formatted n) = (k : ℕ) → k < 3 → get_or host (at + 7 + k) 0 ≡ get_or ((n - 1) ∷ 0x00 ∷ n ∷ []) k 0

module _ (v : Visit) (room : v.at + 28 ≤ length v.world.host) where
  abbrev at : ℕ
  at = v.at

  -- The words of a plan that was let through, in a row that lies in the block and not in word 1.
  module _ (p : Plan) (is : verdict_of v ≡ Ok p) where
    row_left :
        (from : ℕ) (ns : List ℕ) → reported at p.report ≡ bytes_from host_byte (at + from) ns → 4 ≤ from → from + length ns ≤ 28 →
        (k : ℕ) → k < length ns → get_or (world_left v).host (at + from + k) 0 ≡ get_or ns k 0
    row_left from ns row low high k less =
        let b = buffers_of v.world (names v) in
        let x = at + from + k in
        let early = begun at ++ data_on (named_drive v).image (transfer_of v.world.host (named_drive v).unit p.moving) in
        let performed-so : (performance v).stores ≡ early ++ reported at p.report = rw is in
        ap (λ (m : Buffers). get_or m.host x 0) (buffers_left v ∙ performed_then_closed v b)
        ∙ closing_keeps_host v x (after (performance v).stores b) (λ word. omega arith)
        ∙ ap (λ (ss : List Store). get_or (after ss b).host x 0) (performed-so ∙ ap (λ (ss : List Store). early ++ ss) row)
        ∙ ap (λ (m : Buffers). get_or m.host x 0) (after_append early (bytes_from host_byte (at + from) ns) b ∙ host_bytes_stored ns (at + from) (after early b))
        ∙ row_stands ns (after early b).host (at + from) k (omega (arith, (lengths_stay early b).0)) less

    pub report_stands : Stands (world_left v).host at p.report
    report_stands = by_report p.report refl
      where
        by_report : (r : Report) → p.report ≡ r → Stands (world_left v).host at r
        by_report Silent so = tt
        by_report Identity so = row_left 4 identity_bytes (ap (reported at) so) (omega arith) (omega arith)
        by_report (Formatted n) so = row_left 7 ((n - 1) ∷ 0x00 ∷ n ∷ []) (ap (reported at) so) (omega arith) (omega arith)

-- ---- a format that is let through

-- It ends 80 and counts S; its block says the last sector formatted and how many they were, and has its head as before.
pub record FormatTold (v : Visit) : Type 0 where
  pub ended : (effect_of v).answer ≡ Ok tt
  pub counted : (effect_of v).sectors ≡ S (geometry (named_drive v).unit)
  pub last : get_or (world_left v).host (v.at + 7) 0 ≡ S (geometry (named_drive v).unit) - 1
  pub number : be16 (world_left v).host (v.at + 8) ≡ S (geometry (named_drive v).unit)
  pub head : get_or (world_left v).host (v.at + 6) 0 ≡ get_or v.world.host (v.at + 6) 0

module _ (v : Visit) (room : v.at + 28 ≤ length v.world.host) (formats : Formats (asked_of v)) where
  abbrev g : Geometry
  g = geometry (named_drive v).unit

  abbrev p : Plan
  p = formats.1.0

  is_plan : verdict_of v ≡ Ok (plan_of (named_drive v).unit (Format formats.0.0))
  is_plan =
      formats.1.1 ∙ ap Ok (own_plan (asked_of v) p formats.1.1 ∙ ap (plan_of (named_drive v).unit) formats.0.1)

  stands : (x k : ℕ) → x ≡ v.at + 7 + k → k < 3 → get_or (world_left v).host x 0 ≡ get_or ((S g - 1) ∷ 0x00 ∷ S g ∷ []) k 0
  stands x k here less = rw here (report_stands v room _ is_plan k less)

  -- Its transfer is that of the track, a write: nothing stops it.
  abbrev k : Track
  k = formats.0.0

  abbrev t : Transfer
  t = formatting (named_drive v).unit (track_of (named_drive v).unit k.cylinder k.head) k.buffer

  its_transfer : transfer_by (asked_of v) ≡ t
  its_transfer = ap (λ (verd : Result Plan Refusal). transfer_of v.world.host (named_drive v).unit (moving_of verd)) is_plan

  writes : (transfer_by (asked_of v)).to_host ≡ false
  writes = ap (λ (x : Transfer). x.to_host) its_transfer

  whole : ((effect_of v).answer ≡ Ok tt) × ((effect_of v).sectors ≡ S g)
  whole =
      let ends = write_ends_whole v _ is_plan writes in
      (ends.0, ends.1 ∙ ap (λ (x : Transfer). x.count) its_transfer)

  head_unwritten : WritesHost v (v.at + 6) → ⊥
  head_unwritten w = by_line (written_for (asked_of v) v.at (named_drive v) (v.at + 6) w)
    where
      by_line : Listed (asked_of v) v.at (named_drive v) (v.at + 6) → ⊥
      by_line (inl word-1) = omega arith
      by_line (inr (inl (inl (asks, among)))) = never (cc (asks, formats.0.1))
      by_line (inr (inl (inr (same, among)))) = omega arith
      by_line (inr (inr ((m, (asks, way)), byte))) = never (cc (asks, formats.0.1))

  pub format_told : FormatTold v
  unfolding word
  format_told =
      let upper = stands (v.at + 8 + 0) 1 (omega arith) (omega arith) in
      let lower = stands (v.at + 8 + 1) 2 (omega arith) (omega arith) in
      record {
        ended = whole.0;
        counted = whole.1;
        last = stands (v.at + 7) 0 (omega arith) (omega arith);
        number = omega arith;
        head = block_keeps_host v (v.at + 6) (λ there. head_unwritten ((host_written_exactly v (v.at + 6)).1 there));
      }

  -- Every sector of the track has the bytes that stood at the buffer once 81 00 was stored in the block, and nothing else.
  pub format_data_lem :
      (x : ℕ) → x < S g * B g →
      get_or (drive_of (world_left v) (names v)).image (disk_byte g t.place x) 0 ≡ get_or (marked_host v) (k.buffer + x % B g) 0
  format_data_lem x less = rw its_transfer at (disk_has_the_hosts_bytes v _ is_plan writes in_a_row x (rw its_transfer less))
    where
      in_a_row : (i j : ℕ) → i < (transfer_by (asked_of v)).count → j < (transfer_by (asked_of v)).count → (transfer_by (asked_of v)).place i ≡ (transfer_by (asked_of v)).place j → i ≡ j
      in_a_row = rw its_transfer (λ i j i< j< same. omega arith)
