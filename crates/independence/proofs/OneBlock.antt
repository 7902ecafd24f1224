-- A chain of one block: it fetches that block and no other, and comes to what the block comes to.
-- What a block reads and writes lies in ranges, a range for each of its lines.
use Rattle.std.proofs.Common.{Err, Ok}
use Prim.Native.Nat.{ℕ, ◌+◌, ◌*◌, ◌<◌}
use mathlib.Core.Bool.{Bool, true, false}
use mathlib.Core.List.{List, [], ◌∷◌}
use mathlib.Core.Logic.{◌⊎◌, inl, inr, if_neg, if_pos}
use mathlib.Core.Path.{◌≡◌, refl, sym, ap, subst, ◌∙◌}
use native.Mathlib.Nat.{zero-mul}
use native.Mathlib.Omega.{arith}
use Rattle.board.specs.declared.chain.Count.{Count}
use Rattle.wire.specs.Among.{Among}
use Rattle.answers.specs.Numbers.{BlockAnswer, refusal_number}
use Rattle.answers.specs.declared.Refusal.{Refusal}
use Rattle.answers.specs.declared.RunAnswer.{RunAnswer}
use Rattle.geometry.specs.Drive.{B}
use Rattle.judge.specs.declared.Moving.{Moving}
use Rattle.judge.specs.declared.Report.{Report}
use Rattle.judge.specs.Reads.{InList, InUib}
use Rattle.transfer.specs.Data.{progress_on}
use Rattle.transfer.specs.Progress.{progress}
use Rattle.block.specs.Block.{transfer_of}
use Rattle.board.specs.Chain.{Ending, ends, follows, nothing, ran}
use Rattle.board.proofs.Runs.{ran_chain}
use Rattle.demands.specs.Footprint.{HostData, InReport, ReadsHost, SomeBlock, WritesHost, asked_of, moving_of, named_drive, report_of, verdict_of}
use Rattle.demands.specs.Footprint.HostWritten.{moved as given, report, status_word}
use Rattle.demands.specs.Visits.{Passes, Visit, block_of, effect_of, fetched_by, onwards, passes?, visits, world_left}
use Rattle.demands.proofs.Endings.{fetched_step, visits_step}
use Rattle.demands.proofs.Read.{ReadJudged, reads_judged}
use Rattle.demands.proofs.Read.ReadJudged.{list, own, taken, uib}
use Rattle.unit.specs.Standing.{geometry}
use Rattle.board.specs.World.{World}

pub none_onwards : (a : BlockAnswer) (linked : Bool) → onwards a linked [] ≡ []
none_onwards (Err r) linked = refl
none_onwards (Ok _) false = refl
none_onwards (Ok _) true = refl

unlinked_leaves : (a : BlockAnswer) (t : Count) (w : World) (next : Ending) → (follows a false t w next).world ≡ w
unlinked_leaves (Ok _) t w next = refl
unlinked_leaves (Err r) t w next = refl

module _ (at : ℕ) (w : World) (passes : Passes at 1 w) where
  abbrev v : Visit
  v = record { at = at; index = 0; world = w }

  pub fetches_one : fetched_by at 1 w ≡ v ∷ []
  unfolding fetched_by visits
  fetches_one =
      if_pos (passes? at 1 w) passes _ _ ∙ visits_step 0 nothing at w passes.place ∙
      ap (λ vs. v ∷ vs) (none_onwards (effect_of v).answer (block_of v).options.link)

  -- What the run does, the block does, and the other way round.
  pub of_block : (P : Visit → Type 0) → SomeBlock P (fetched_by at 1 w) → P v
  of_block P does = here (subst (SomeBlock P) fetches_one does)
    where
      here : SomeBlock P (v ∷ []) → P v
      here (inl p) = p
      here (inr none) = absurd none

  pub by_block : (P : Visit → Type 0) → P v → SomeBlock P (fetched_by at 1 w)
  by_block P p = subst (SomeBlock P) (sym fetches_one) (inl p)

  module _ (unlinked : (block_of v).options.link ≡ false) where
    pub done : (n : ℕ) → (effect_of v).answer ≡ Ok tt → (effect_of v).sectors ≡ n →
        ran at 1 w ≡ ends RunAnswer.Done 0 (record { blocks = 1; sectors = 0 + n }) (world_left v)
    done n ended moved =
        ran_chain at 1 w passes.events (passes.least, passes.most) passes.place ∙
        fetched_step 0 nothing at w passes.place ∙ rw (ended, unlinked, moved)

    -- Either way it leaves what the block leaves.
    pub leaves : (ran at 1 w).world ≡ world_left v
    leaves =
        ap (λ e. e.world)
        (ran_chain at 1 w passes.events (passes.least, passes.most) passes.place ∙
        fetched_step 0 nothing at w passes.place) ∙
        rw unlinked (unlinked_leaves (effect_of v).answer _ (world_left v) _)

  pub failed : (r : Refusal) (n : ℕ) → (effect_of v).answer ≡ Err r → (effect_of v).sectors ≡ n →
      ran at 1 w ≡ ends RunAnswer.BlockFailed (refusal_number r) (record { blocks = 1; sectors = 0 + n }) (world_left v)
  failed r n ended moved =
      ran_chain at 1 w passes.events (passes.least, passes.most) passes.place ∙
      fetched_step 0 nothing at w passes.place ∙ rw (ended, moved)

-- A run that is refused fetches no block.
pub none_fetched :
    (first allowance : ℕ) (w : World) (P : Visit → Type 0) → SomeBlock P (fetched_by first allowance w) → (Passes first allowance w → ⊥) → ⊥
unfolding fetched_by
none_fetched first allowance w P does refused = subst (SomeBlock P) (if_neg (passes? first allowance w) refused _ _) does

-- ---- what a block reads and writes

-- Byte x lies in one of some ranges, each of them an address and a length.
abbrev pub In : List (ℕ × ℕ) → ℕ → Type 0
In [] x = ⊥
In (r ∷ rs) x = Among r.0 r.1 x ⊎ In rs x

module _ (v : Visit) (rs : List (ℕ × ℕ)) (x : ℕ) where
  -- Beside word 1 a block writes what it reports and the data that it moves to host memory.
  pub writes_in :
      (InReport v.at (report_of (verdict_of v)) x → In rs x) →
      (HostData (asked_of v) (named_drive v) true x → In rs x) → WritesHost v x → In ((v.at + 2, 2) ∷ rs) x
  writes_in reported carried (status_word word) = inl word
  writes_in reported carried (report among) = inr (reported among)
  writes_in reported carried (given here) = inr (carried here)

  -- Beside its own 28 bytes it reads those that it is judged by and the data that it moves to the disk.
  pub reads_in :
      (InUib (asked_of v) (block_of v).address 18 x ⊎ InList (asked_of v) x → In rs x) →
      (HostData (asked_of v) (named_drive v) false x → In rs x) → ReadsHost v x → In ((v.at, 28) ∷ rs) x
  reads_in judged carried read = by_case (reads_judged v x read)
    where
      by_case : ReadJudged v x → In ((v.at, 28) ∷ rs) x
      by_case (own here) = inl here
      by_case (uib here) = inr (judged (inl here))
      by_case (list here) = inr (judged (inr here))
      by_case (taken here) = inr (carried here)

-- One that moves nothing has no data, and one that reports nothing no words.
module _ (v : Visit) (x : ℕ) where
  pub no_data : (way : Bool) → moving_of (verdict_of v) ≡ Moving.Nothing → HostData (asked_of v) (named_drive v) way x → ⊥
  unfolding progress
  no_data way is here =
      let less : here.byte < 0 * B (geometry (named_drive v).unit) =
      subst
      (λ (m : Moving).
      let t = transfer_of v.world.host (named_drive v).unit m in
      here.byte < (progress_on (named_drive v).image t).sectors * B t.geometry) is here.moved in
      let none : 0 * B (geometry (named_drive v).unit) ≡ 0 = zero-mul _ in
      omega (arith, less, none)

  pub no_words :
      report_of (verdict_of v) ≡ Report.Nothing → InReport v.at (report_of (verdict_of v)) x → ⊥
  no_words is among = subst (λ (r : Report). InReport v.at r x) is among

-- Ranges that have no byte in common, two by two.
abbrev Clear : ℕ × ℕ → List (ℕ × ℕ) → Type 0
Clear r [] = Unit {0}
Clear r (q ∷ qs) = ((x : ℕ) → Among r.0 r.1 x → Among q.0 q.1 x → ⊥) × Clear r qs

abbrev pub RangesApart : List (ℕ × ℕ) → List (ℕ × ℕ) → Type 0
RangesApart [] qs = Unit {0}
RangesApart (r ∷ rs) qs = Clear r qs × RangesApart rs qs

none_in : (r : ℕ × ℕ) (qs : List (ℕ × ℕ)) (x : ℕ) → Clear r qs → Among r.0 r.1 x → In qs x → ⊥
none_in r [] x clear here there = there
none_in r (q ∷ qs) x clear here (inl there) = clear.0 x here there
none_in r (q ∷ qs) x clear here (inr there) = none_in r qs x clear.1 here there

pub none_in_both : (rs qs : List (ℕ × ℕ)) (x : ℕ) → RangesApart rs qs → In rs x → In qs x → ⊥
none_in_both [] qs x apart here there = here
none_in_both (r ∷ rs) qs x apart (inl here) there = none_in r qs x apart.0 here there
none_in_both (r ∷ rs) qs x apart (inr here) there = none_in_both rs qs x apart.1 here there
