-- Every byte of host memory that a store of a block takes its value from is one that the block reads, in the paper's words.
-- What is stored before and after the data are numbers; the data of a write comes from where its transfer has it.
use Rattle.answers.specs.declared.Refusal.{Refusal}
use Rattle.judge.specs.declared.Plan.{Plan}
use Rattle.std.proofs.Common.{Err, Ok, Result}
use Prim.Native.Nat.{ℕ, zero, suc, ◌+◌, ◌*◌, ◌<◌}
use mathlib.Core.Bool.{Bool, true, false}
use mathlib.Core.List.{List, [], ◌∷◌, ◌++◌}
use mathlib.Core.Logic.{◌⊎◌, inl, inr, ⊎_elim}
use mathlib.Core.Path.{◌≡◌, refl, subst}
use native.Mathlib.Omega.{arith}
use lib.IntN.{ℤ}
use Rattle.wire.proofs.Promises.{never}
use Rattle.answers.specs.Numbers.{BlockAnswer, status_of}
use Rattle.geometry.specs.Drive.{B}
use Rattle.iopb.specs.declared.Block.{Block}
use Rattle.iopb.specs.Errors.{error_byte}
use Rattle.transfer.specs.Data.{Transfer, data_on, move_at, progress_on}
use Rattle.transfer.specs.Stores.{ByteAt, Store, bytes_from, copy_of, event_byte, host_byte, image_byte, up_to}
use Rattle.block.specs.Block.{Drive, Effect, begun, finish, reported, transfer_of}
use Rattle.block.specs.Events.{entry}
use Rattle.block.specs.Steps.{acted_on}
use Rattle.block.proofs.Effects.{reported_row}
use Rattle.demands.specs.Footprint.{ReadsHost, asked_of, moving_of, named_drive, transfer_by, verdict_of}
use Rattle.demands.specs.Footprint.HostRead.{moved}
use Rattle.demands.specs.Visits.{Visit, block_of, effect_of}
use Rattle.demands.proofs.Written.{effect_is, performance}
use Rattle.independence.proofs.Meets.{Sourced}

-- ---- segments

numbers_have_none : (cell : ℕ → ByteAt) (at : ℕ) (ns : List ℕ) (x : ℕ) → Sourced (bytes_from cell at ns) x → ⊥
unfolding Sourced bytes_from
numbers_have_none cell at [] x there = there
numbers_have_none cell at (n ∷ ns) x there =
    ⊎_elim (λ is. never cc) (λ later. numbers_have_none cell (at + 1) ns x later) there

of_append : (ss ts : List Store) (x : ℕ) → Sourced (ss ++ ts) x → Sourced ss x ⊎ Sourced ts x
unfolding Sourced
of_append [] ts x there = inr there
of_append (s ∷ ss) ts x there =
    ⊎_elim (λ here. inl (inl here))
    (λ later. ⊎_elim (λ one. inl (inr one)) (λ other. inr other) (of_append ss ts x later)) there

of_up_to :
    (n : ℕ) (f : ℕ → Store) (x : ℕ) → Sourced (up_to n f) x → (k : ℕ) × ((k < n) × ((f k).value ≡ copy_of (host_byte x)))
unfolding Sourced up_to
of_up_to zero f x there = absurd there
of_up_to (suc n) f x there =
    ⊎_elim
    (λ earlier. let r = of_up_to n f x earlier in (r.0, (omega (arith, r.1.0), r.1.1)))
    (λ last. ⊎_elim (λ is. (n, (omega arith, is))) (λ none. absurd none) last)
    (of_append (up_to n f) (f n ∷ []) x there)

-- ---- the data

same_byte : {x y : ℕ} → copy_of (host_byte x) ≡ copy_of (host_byte y) → x ≡ y
same_byte e = cc

not_from_the_image : {x y : ℕ} → copy_of (image_byte x) ≡ copy_of (host_byte y) → ⊥
not_from_the_image e = never cc

data_sources :
    (image : List ℕ) (t : Transfer) (x : ℕ) → Sourced (data_on image t) x →
    (t.to_host ≡ false) × ((k : ℕ) × ((k < (progress_on image t).sectors * B t.geometry) × (t.host_at k ≡ x)))
unfolding data_on
data_sources image t x there =
    let s = of_up_to ((progress_on image t).sectors * B t.geometry) (move_at t) x there in
    by_way t.to_host refl s.0 s.1.0 s.1.1
  where
    by_way :
        (way : Bool) → t.to_host ≡ way → (k : ℕ) → k < (progress_on image t).sectors * B t.geometry →
        (move_at t k).value ≡ copy_of (host_byte x) →
        (t.to_host ≡ false) × ((k : ℕ) × ((k < (progress_on image t).sectors * B t.geometry) × (t.host_at k ≡ x)))
    by_way false is k less same = (is, (k, (less, same_byte (rw is at same))))
    by_way true is k less same = absurd (not_from_the_image (rw is at same))

-- ---- a block

finish_has_none :
    (b : Block) (at i : ℕ) (answer : BlockAnswer) (travel : ℤ) (x : ℕ) → Sourced (finish b at i answer travel) x → ⊥
finish_has_none b at i answer travel x there =
    ⊎_elim (λ word. numbers_have_none host_byte (at + 2) (status_of answer ∷ error_byte answer ∷ []) x word)
    (λ event. numbers_have_none event_byte (8 * i) (entry b answer travel) x event)
    (of_append (bytes_from host_byte (at + 2) (status_of answer ∷ error_byte answer ∷ [])) (bytes_from event_byte (8 * i) (entry b answer travel)) x there)

-- Of what performing stores only the data has a source.
performed_sources :
    (host : List ℕ) (d : Drive) (at : ℕ) (verd : Result Plan Refusal) (x : ℕ) → Sourced (acted_on host d at verd).stores x →
    Sourced (data_on d.image (transfer_of host d.unit (moving_of verd))) x
unfolding Sourced
performed_sources host d at (Err r) x there = absurd there
performed_sources host d at (Ok p) x there =
    ⊎_elim
    (λ earlier.
    ⊎_elim (λ mark. absurd (numbers_have_none host_byte (at + 2) (0x81 ∷ 0x00 ∷ []) x mark)) (λ middle. middle)
    (of_append (begun at) (data_on d.image (transfer_of host d.unit p.moving)) x earlier))
    (λ words.
    let row = reported_row at p.report in
    absurd (numbers_have_none host_byte row.0 row.1.0 x (subst (λ (ss : List Store). Sourced ss x) row.1.1 words)))
    (of_append (begun at ++ data_on d.image (transfer_of host d.unit p.moving)) (reported at p.report) x there)

module _ (v : Visit) (x : ℕ) where
  pub sources_are_read : Sourced (effect_of v).stores x → ReadsHost v x
  sources_are_read there =
      let p = performance v in
      ⊎_elim
      (λ early.
      let s = data_sources (named_drive v).image (transfer_by (asked_of v)) x
      (performed_sources v.world.host (named_drive v) v.at (verdict_of v) x early) in
      moved (record { goes = s.0; byte = s.1.0; moved = s.1.1.0; here = s.1.1.1 }))
      (λ late. absurd (finish_has_none (block_of v) v.at v.index p.answer p.travel x late))
      (of_append p.stores (finish (block_of v) v.at v.index p.answer p.travel) x
      (subst (λ (e : Effect). Sourced e.stores x) (effect_is v) there))
