-- The footprint is exact: a byte is written, in the paper's words, exactly where some store of the block has it as its target.
-- The stores are taken apart by movement: what performing stores, the 81 00, the data and the words reported, and then the finish.
use Rattle.answers.specs.declared.Refusal.{Refusal}
use Rattle.judge.specs.declared.Plan.{Plan}
use Rattle.std.proofs.Common.{Err, Ok, Result}
use Prim.Native.Nat.{ℕ, ◌+◌, ◌-◌, ◌*◌, ◌<◌}
use mathlib.Core.Bool.{Bool, true, false}
use mathlib.Core.List.{List, [], ◌∷◌, ◌++◌}
use mathlib.Core.Logic.{◌⊎◌, ◌↔◌, inl, inr, ⊎_elim}
use mathlib.Core.Path.{◌≡◌, refl, sym, ap, subst, ◌∙◌}
use native.Mathlib.Nat.{zero-mul}
use native.Mathlib.Omega.{arith}
use lib.IntN.{ℤ}
use lib.ListN.{get_or, length}
use Rattle.wire.specs.Among.{Among}
use Rattle.wire.proofs.Promises.{never}
use Rattle.answers.specs.Numbers.{BlockAnswer, status_of}
use Rattle.geometry.specs.Drive.{B}
use Rattle.iopb.specs.declared.Block.{Block}
use Rattle.iopb.specs.Errors.{error_byte}
use Rattle.iopb.specs.Identity.{identity_bytes}
use Rattle.judge.specs.declared.Report.{Report}
use Rattle.judge.specs.declared.Report.TheVariants.{Nothing as Silent, Identity, Formatted}
use Rattle.transfer.specs.Data.{Transfer, data_on, disk_byte, move_at, progress_on}
use Rattle.transfer.specs.Progress.{progress}
use Rattle.transfer.specs.Stores.{Buffers, ByteAt, Store, after, bytes_from, event_byte, host_byte, image_byte, up_to}
use Rattle.transfer.proofs.Stays.{append_stored, bytes_stored, image_stays, stored_of_append, stored_of_bytes, stored_of_up_to, unstored_stays, up_to_stored}
use Rattle.transfer.proofs.Stores.{after_append}
use Rattle.block.specs.Block.{Drive, Effect, begun, finish, reported, transfer_of}
use Rattle.block.specs.Events.{entry}
use Rattle.block.specs.Steps.{Performance, acted_on, finished}
use Rattle.block.proofs.Effects.{effect_finished, reported_row}
use Rattle.demands.specs.Footprint.{InReport, WritesEvents, WritesHost, WritesImage, asked_of, comes, moving_of, named_drive, report_of, transfer_by, verdict_of}
use Rattle.demands.specs.Footprint.HostWritten.{moved, report, status_word}
use Rattle.demands.specs.Visits.{Visit, block_of, effect_of}
use Rattle.board.specs.World.{effect_at}
use Rattle.transfer.specs.Targets.{Stored}

index : ByteAt → ℕ
index (host_byte x) = x
index (image_byte x) = x
index (event_byte x) = x

kind : ByteAt → ℕ
kind (host_byte x) = 0
kind (image_byte x) = 1
kind (event_byte x) = 2

-- Two cells that are one are of one kind and have one index.
module _ (c d : ByteAt) (same : c ≡ d) where
  one_index : index c ≡ index d
  one_index = ap index same

  one_kind : kind c ≡ kind d
  one_kind = ap kind same

-- ---- segments

-- Bytes in a row, of a cell of the same kind and of another.
in_row : (cell : ℕ → ByteAt) (at : ℕ) (ns : List ℕ) (x : ℕ) → Among at (length ns) x → Stored (bytes_from cell at ns) (cell x)
in_row cell at ns x among = bytes_stored cell at ns (cell x) (x, (among, refl))

pub of_host_row : (at : ℕ) (ns : List ℕ) (x : ℕ) → Stored (bytes_from host_byte at ns) (host_byte x) → Among at (length ns) x
unfolding index
of_host_row at ns x there =
    let y = stored_of_bytes host_byte at ns (host_byte x) there in
    let same = one_index (host_byte x) (host_byte y.0) y.1.1 in
    (omega (arith, y.1.0, same), omega (arith, y.1.0, same))

of_event_row : (at : ℕ) (ns : List ℕ) (x : ℕ) → Stored (bytes_from event_byte at ns) (event_byte x) → Among at (length ns) x
unfolding index
of_event_row at ns x there =
    let y = stored_of_bytes event_byte at ns (event_byte x) there in
    let same = one_index (event_byte x) (event_byte y.0) y.1.1 in
    (omega (arith, y.1.0, same), omega (arith, y.1.0, same))

other_kind : (cell : ℕ → ByteAt) (at : ℕ) (ns : List ℕ) (c : ByteAt) → ((x : ℕ) → kind c ≡ kind (cell x) → ⊥) → Stored (bytes_from cell at ns) c → ⊥
other_kind cell at ns c apart there =
    let y = stored_of_bytes cell at ns c there in
    apart y.0 (one_kind c (cell y.0) y.1.1)

-- ---- the words that are reported

-- They lie where the papers say,
of_report : (at : ℕ) (r : Report) (x : ℕ) → Stored (reported at r) (host_byte x) → InReport at r x
unfolding Stored
of_report at Silent x none = none
of_report at Identity x there = of_host_row (at + 4) identity_bytes x there
of_report at (Formatted n) x there = of_host_row (at + 7) ((n - 1) ∷ 0x00 ∷ n ∷ []) x there

in_report : (at : ℕ) (r : Report) (x : ℕ) → InReport at r x → Stored (reported at r) (host_byte x)
in_report at Silent x none = absurd none
in_report at Identity x among = in_row host_byte (at + 4) identity_bytes x among
in_report at (Formatted n) x among = in_row host_byte (at + 7) ((n - 1) ∷ 0x00 ∷ n ∷ []) x among

-- and nowhere but in host memory.
none_elsewhere : (at : ℕ) (r : Report) (c : ByteAt) → ((x : ℕ) → kind c ≡ kind (host_byte x) → ⊥) → Stored (reported at r) c → ⊥
none_elsewhere at r c apart there =
    let row = reported_row at r in
    other_kind host_byte row.0 row.1.0 c apart (subst (λ (ss : List Store). Stored ss c) row.1.1 there)

-- ---- the data

module _ (image : List ℕ) (t : Transfer) where
  abbrev all : ℕ
  all = (progress_on image t).sectors * B t.geometry

  host_data :
      (x : ℕ) → Stored (data_on image t) (host_byte x) → (t.to_host ≡ true) × ((k : ℕ) × ((k < all) × (t.host_at k ≡ x)))
  unfolding data_on index kind
  host_data x there =
      let s = stored_of_up_to all (move_at t) (host_byte x) there in
      by_way t.to_host refl s.0 s.1.0 s.1.1
    where
      by_way :
          (way : Bool) → t.to_host ≡ way → (k : ℕ) → k < all → (move_at t k).to ≡ host_byte x →
          (t.to_host ≡ true) × ((k : ℕ) × ((k < all) × (t.host_at k ≡ x)))
      by_way true is k less same = (is, (k, (less, one_index (host_byte (t.host_at k)) (host_byte x) (rw is at same))))
      by_way false is k less same =
          absurd (never (sym (one_kind (image_byte _) (host_byte x) (rw is at same))))

  data_host : (x : ℕ) → t.to_host ≡ true → (k : ℕ) × ((k < all) × (t.host_at k ≡ x)) → Stored (data_on image t) (host_byte x)
  unfolding data_on
  data_host x to s = up_to_stored all (move_at t) (host_byte x) (s.0, (s.1.0, rw to (ap host_byte s.1.1)))

  disk_data :
      (x : ℕ) → Stored (data_on image t) (image_byte x) →
      (t.to_host ≡ false) × ((k : ℕ) × ((k < all) × (disk_byte t.geometry t.place k ≡ x)))
  unfolding data_on index kind
  disk_data x there =
      let s = stored_of_up_to all (move_at t) (image_byte x) there in
      by_way t.to_host refl s.0 s.1.0 s.1.1
    where
      by_way :
          (way : Bool) → t.to_host ≡ way → (k : ℕ) → k < all → (move_at t k).to ≡ image_byte x →
          (t.to_host ≡ false) × ((k : ℕ) × ((k < all) × (disk_byte t.geometry t.place k ≡ x)))
      by_way false is k less same =
          (is, (k, (less, one_index (image_byte (disk_byte t.geometry t.place k)) (image_byte x) (rw is at same))))
      by_way true is k less same = absurd (never (one_kind (host_byte _) (image_byte x) (rw is at same)))

  pub data_disk :
      (x : ℕ) → t.to_host ≡ false → (k : ℕ) × ((k < all) × (disk_byte t.geometry t.place k ≡ x)) →
      Stored (data_on image t) (image_byte x)
  unfolding data_on
  data_disk x from s = up_to_stored all (move_at t) (image_byte x) (s.0, (s.1.0, rw from (ap image_byte s.1.1)))

  no_event : (x : ℕ) → Stored (data_on image t) (event_byte x) → ⊥
  unfolding data_on kind
  no_event x there =
      let s = stored_of_up_to all (move_at t) (event_byte x) there in
      by_way t.to_host refl s.0 s.1.1
    where
      by_way : (way : Bool) → t.to_host ≡ way → (k : ℕ) → (move_at t k).to ≡ event_byte x → ⊥
      by_way true is k same = two (one_kind (host_byte _) (event_byte x) (rw is at same))
        where
          two : ◌≡◌ {A = ℕ} 0 2 → ⊥
          two e = omega arith
      by_way false is k same = two (one_kind (image_byte _) (event_byte x) (rw is at same))
        where
          two : ◌≡◌ {A = ℕ} 1 2 → ⊥
          two e = omega arith

-- ---- the 81 00 and the finish

module _ (b : Block) (at i : ℕ) (answer : BlockAnswer) (travel : ℤ) where
  -- A finish writes word 1 and the entry, and no image.
  finish_host : (x : ℕ) → Stored (finish b at i answer travel) (host_byte x) → Among (at + 2) 2 x
  unfolding kind
  finish_host x there =
      ⊎_elim (λ word. of_host_row (at + 2) (status_of answer ∷ error_byte answer ∷ []) x word)
      (λ entry-byte. absurd (other_kind event_byte (8 * i) (entry b answer travel) (host_byte x) (λ y e. omega arith) entry-byte))
      (stored_of_append (bytes_from host_byte (at + 2) (status_of answer ∷ error_byte answer ∷ [])) (bytes_from event_byte (8 * i) (entry b answer travel)) (host_byte x) there)

  host_finish : (x : ℕ) → Among (at + 2) 2 x → Stored (finish b at i answer travel) (host_byte x)
  host_finish x among =
      append_stored (bytes_from host_byte (at + 2) (status_of answer ∷ error_byte answer ∷ [])) (bytes_from event_byte (8 * i) (entry b answer travel)) (host_byte x)
      (inl (in_row host_byte (at + 2) (status_of answer ∷ error_byte answer ∷ []) x among))

  finish_event : (x : ℕ) → Stored (finish b at i answer travel) (event_byte x) → Among (8 * i) 8 x
  unfolding kind
  finish_event x there =
      ⊎_elim (λ word. absurd (other_kind host_byte (at + 2) (status_of answer ∷ error_byte answer ∷ []) (event_byte x) (λ y e. omega arith) word))
      (λ entry-byte. of_event_row (8 * i) (entry b answer travel) x entry-byte)
      (stored_of_append (bytes_from host_byte (at + 2) (status_of answer ∷ error_byte answer ∷ [])) (bytes_from event_byte (8 * i) (entry b answer travel)) (event_byte x) there)

  event_finish : (x : ℕ) → Among (8 * i) 8 x → Stored (finish b at i answer travel) (event_byte x)
  event_finish x among =
      append_stored (bytes_from host_byte (at + 2) (status_of answer ∷ error_byte answer ∷ [])) (bytes_from event_byte (8 * i) (entry b answer travel)) (event_byte x)
      (inr (in_row event_byte (8 * i) (entry b answer travel) x among))

  finish_image : (x : ℕ) → Stored (finish b at i answer travel) (image_byte x) → ⊥
  unfolding kind
  finish_image x there =
      ⊎_elim (λ word. other_kind host_byte (at + 2) (status_of answer ∷ error_byte answer ∷ []) (image_byte x) (λ y e. omega arith) word)
      (λ entry-byte. other_kind event_byte (8 * i) (entry b answer travel) (image_byte x) (λ y e. omega arith) entry-byte)
      (stored_of_append (bytes_from host_byte (at + 2) (status_of answer ∷ error_byte answer ∷ [])) (bytes_from event_byte (8 * i) (entry b answer travel)) (image_byte x) there)

-- ---- what performing writes

module _ (host : List ℕ) (d : Drive) (at : ℕ) where
  abbrev transferred : Result Plan Refusal → Transfer
  transferred verd = transfer_of host d.unit (moving_of verd)

  abbrev data_stores : Result Plan Refusal → List Store
  data_stores verd = data_on d.image (transferred verd)

  abbrev stores : Result Plan Refusal → List Store
  stores verd = (acted_on host d at verd).stores

  -- How far a block's transfer comes is what the block says: of a refused one, not at all.
  pub comes_to_lem : (verd : Result Plan Refusal) → (progress_on d.image (transferred verd)).sectors ≡ (acted_on host d at verd).sectors
  unfolding progress
  comes_to_lem (Err r) = refl
  comes_to_lem (Ok plan) = refl

  of_three : (xs ys zs : List Store) (c : ByteAt) → Stored (xs ++ ys ++ zs) c → Stored xs c ⊎ (Stored ys c ⊎ Stored zs c)
  of_three xs ys zs c there =
      ⊎_elim (λ early. ⊎_elim (λ x. inl x) (λ y. inr (inl y)) (stored_of_append xs ys c early)) (λ z. inr (inr z))
      (stored_of_append (xs ++ ys) zs c there)

  three_of : (xs ys zs : List Store) (c : ByteAt) → Stored xs c ⊎ (Stored ys c ⊎ Stored zs c) → Stored (xs ++ ys ++ zs) c
  three_of xs ys zs c (inl x) = append_stored (xs ++ ys) zs c (inl (append_stored xs ys c (inl x)))
  three_of xs ys zs c (inr (inl y)) = append_stored (xs ++ ys) zs c (inl (append_stored xs ys c (inr y)))
  three_of xs ys zs c (inr (inr z)) = append_stored (xs ++ ys) zs c (inr z)

  module _ (x : ℕ) where
    Lines : Result Plan Refusal → Type 0
    Lines verd =
        Among (at + 2) 2 x ⊎ (Stored (data_stores verd) (host_byte x) ⊎ InReport at (report_of verd) x)

    performs_host : (verd : Result Plan Refusal) → Stored (stores verd) (host_byte x) → Lines verd
    unfolding Lines Stored
    performs_host (Err r) there = absurd there
    performs_host (Ok plan) there =
        ⊎_elim (λ word. inl (of_host_row (at + 2) (0x81 ∷ 0x00 ∷ []) x word))
        (λ rest. inr (⊎_elim (λ d. inl d) (λ w. inr (of_report at plan.report x w)) rest))
        (of_three (begun at) (data_stores (Ok plan)) (reported at plan.report) (host_byte x) there)

    -- What is moved and what is reported are stored by performing; a refused block has neither.
    host_data_performed : (verd : Result Plan Refusal) → Stored (data_stores verd) (host_byte x) → Stored (stores verd) (host_byte x)
    unfolding Stored data_on progress up_to
    host_data_performed (Err r) there = rw zero-mul at there
    host_data_performed (Ok plan) there =
        three_of (begun at) (data_stores (Ok plan)) (reported at plan.report) (host_byte x) (inr (inl there))

    words_performed : (verd : Result Plan Refusal) → InReport at (report_of verd) x → Stored (stores verd) (host_byte x)
    words_performed (Err r) none = absurd none
    words_performed (Ok plan) among =
        three_of (begun at) (data_stores (Ok plan)) (reported at plan.report) (host_byte x) (inr (inr (in_report at plan.report x among)))

    performs_image : (verd : Result Plan Refusal) → Stored (stores verd) (image_byte x) → Stored (data_stores verd) (image_byte x)
    unfolding Stored kind
    performs_image (Err r) there = absurd there
    performs_image (Ok plan) there =
        ⊎_elim (λ word. absurd (other_kind host_byte (at + 2) (0x81 ∷ 0x00 ∷ []) (image_byte x) (λ y e. omega arith) word))
        (λ rest. ⊎_elim (λ d. d) (λ w. absurd (none_elsewhere at plan.report (image_byte x) (λ y e. omega arith) w)) rest)
        (of_three (begun at) (data_stores (Ok plan)) (reported at plan.report) (image_byte x) there)

    image_data_performed : (verd : Result Plan Refusal) → Stored (data_stores verd) (image_byte x) → Stored (stores verd) (image_byte x)
    unfolding Stored data_on progress up_to
    image_data_performed (Err r) there = rw zero-mul at there
    image_data_performed (Ok plan) there =
        three_of (begun at) (data_stores (Ok plan)) (reported at plan.report) (image_byte x) (inr (inl there))

    performs_no_event : (verd : Result Plan Refusal) → Stored (stores verd) (event_byte x) → ⊥
    unfolding Stored kind
    performs_no_event (Err r) there = there
    performs_no_event (Ok plan) there =
        ⊎_elim (λ word. other_kind host_byte (at + 2) (0x81 ∷ 0x00 ∷ []) (event_byte x) (λ y e. omega arith) word)
        (λ rest.
        ⊎_elim (λ m. no_event d.image (transferred (Ok plan)) x m) (λ w. none_elsewhere at plan.report (event_byte x) (λ y e. omega arith) w) rest)
        (of_three (begun at) (data_stores (Ok plan)) (reported at plan.report) (event_byte x) there)

-- ---- a block

module _ (v : Visit) where
  abbrev pub performance : Performance
  performance = acted_on v.world.host (named_drive v) v.at (verdict_of v)

  abbrev pub closing : List Store
  closing = finish (block_of v) v.at v.index performance.answer performance.travel

  -- A block is performed as it is judged, and then finished.
  pub effect_is : effect_of v ≡ finished v.world.controller (block_of v) v.at v.index (verdict_of v) performance
  unfolding effect_at
  effect_is = effect_finished v.world.controller v.world.host (named_drive v) v.at v.index

  -- So what it leaves of any buffers are those that performing leaves, once it is finished.
  pub performed_then_closed : (b : Buffers) → after (effect_of v).stores b ≡ after closing (after performance.stores b)
  performed_then_closed b = ap (λ (e : Effect). after e.stores b) effect_is ∙ after_append performance.stores closing b

  -- The finish stores word 1 in host memory, and nothing in an image.
  pub closing_keeps_host : (x : ℕ) (b : Buffers) → (Among (v.at + 2) 2 x → ⊥) → get_or (after closing b).host x 0 ≡ get_or b.host x 0
  closing_keeps_host x b outside =
      unstored_stays closing b (host_byte x)
      (λ there. outside (finish_host (block_of v) v.at v.index performance.answer performance.travel x there))

  pub closing_keeps_image : (b : Buffers) → (after closing b).image ≡ b.image
  closing_keeps_image b =
      image_stays closing b (finish_image (block_of v) v.at v.index performance.answer performance.travel)

  pub sectors_come : (comes (asked_of v) (named_drive v)).sectors ≡ (effect_of v).sectors
  sectors_come =
      comes_to_lem v.world.host (named_drive v) v.at (verdict_of v) ∙ ap (λ (e : Effect). e.sectors) (sym effect_is)

  target : (c : ByteAt) → Stored (performance.stores ++ closing) c → Stored (effect_of v).stores c
  target c there = subst (λ (e : Effect). Stored e.stores c) (sym effect_is) there

  of_target : (c : ByteAt) → Stored (effect_of v).stores c → Stored performance.stores c ⊎ Stored closing c
  of_target c there = stored_of_append performance.stores closing c (subst (λ (e : Effect). Stored e.stores c) effect_is there)

  performed_target : (c : ByteAt) → Stored performance.stores c → Stored (effect_of v).stores c
  performed_target c there = target c (append_stored performance.stores closing c (inl there))

  closing_target : (c : ByteAt) → Stored closing c → Stored (effect_of v).stores c
  closing_target c there = target c (append_stored performance.stores closing c (inr there))

  -- ---- host bytes

  module _ (x : ℕ) where
    -- What is stored counts as written: word 1 by the finish, and the words that are reported.
    finish_counts : Stored closing (host_byte x) → WritesHost v x
    finish_counts late =
        status_word (finish_host (block_of v) v.at v.index performance.answer performance.travel x late)

    report_counts : InReport v.at (report_of (verdict_of v)) x → WritesHost v x
    report_counts among = report among

    -- A host byte is written exactly where 01 says.
    pub host_written_exactly : WritesHost v x ↔ Stored (effect_of v).stores (host_byte x)
    unfolding Lines
    host_written_exactly = (forth, back)
      where
        forth : WritesHost v x → Stored (effect_of v).stores (host_byte x)
        forth (status_word word) =
            closing_target (host_byte x)
            (host_finish (block_of v) v.at v.index performance.answer performance.travel x word)
        forth (report among) =
            performed_target (host_byte x) (words_performed v.world.host (named_drive v) v.at x (verdict_of v) among)
        forth (moved d) =
            performed_target (host_byte x)
            (host_data_performed v.world.host (named_drive v) v.at x (verdict_of v)
            (data_host (named_drive v).image (transfer_by (asked_of v)) x d.goes (d.byte, (d.moved, d.here))))

        back : Stored (effect_of v).stores (host_byte x) → WritesHost v x
        back there =
            ⊎_elim
            (λ early.
            ⊎_elim (λ word. status_word word)
            (λ rest.
            ⊎_elim
            (λ d.
            let k = host_data (named_drive v).image (transfer_by (asked_of v)) x d in
            moved (record { goes = k.0; byte = k.1.0; moved = k.1.1.0; here = k.1.1.1 }))
            report_counts rest)
            (performs_host v.world.host (named_drive v) v.at x (verdict_of v) early))
            finish_counts
            (of_target (host_byte x) there)

    -- ---- image bytes, of the named unit's image

    -- An image byte is written exactly where a block of 82, A2 or 8C moved a byte to it.
    pub image_written_exactly : WritesImage v x ↔ Stored (effect_of v).stores (image_byte x)
    image_written_exactly = (
      λ d.
          performed_target (image_byte x)
          (image_data_performed v.world.host (named_drive v) v.at x (verdict_of v)
          (data_disk (named_drive v).image (transfer_by (asked_of v)) x d.goes (d.byte, (d.moved, d.here)))),
      λ there.
          ⊎_elim
          (λ early.
          let k = disk_data (named_drive v).image (transfer_by (asked_of v)) x
          (performs_image v.world.host (named_drive v) v.at x (verdict_of v) early) in
          record { goes = k.0; byte = k.1.0; moved = k.1.1.0; here = k.1.1.1 })
          (λ late. absurd (finish_image (block_of v) v.at v.index performance.answer performance.travel x late))
          (of_target (image_byte x) there),
    )

    -- The event buffer is written exactly in the block's entry: "The rest of the event buffer stays."
    pub event_written_exactly : WritesEvents v x ↔ Stored (effect_of v).stores (event_byte x)
    event_written_exactly = (
      λ among.
          closing_target (event_byte x)
          (event_finish (block_of v) v.at v.index performance.answer performance.travel x among),
      λ there.
          ⊎_elim (λ early. absurd (performs_no_event v.world.host (named_drive v) v.at x (verdict_of v) early))
          (λ late. finish_event (block_of v) v.at v.index performance.answer performance.travel x late)
          (of_target (event_byte x) there),
    )
