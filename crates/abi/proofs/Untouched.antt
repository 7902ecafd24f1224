-- The bytes of a record are stored only where a block changed the record: those of any other come back as they were, also from a call
-- that is refused. A run keeps the record of a unit of which it writes none, and a record that is the same is left as it came. What a call leaves reads back
-- as the record that its run left.
use Prim.Native.Nat.{ℕ, ◌≤◌}
use mathlib.Core.Logic.{by_cases}
use mathlib.Core.Path.{◌≡◌, refl, sym, ap, ◌∙◌}
use native.Mathlib.Decide.{dec_le}
use native.Mathlib.Omega.{arith}
use lib.ListN.{length}
use Rattle.unit.specs.declared.UnitNumber.TheVariants.{Zero, One}
use Rattle.demands.specs.Footprint.{RunWritesRecord}
use Rattle.demands.proofs.Keeps.{run_keeps_record}
use Rattle.demands.proofs.Tables.{run_keeps_long}
use Rattle.board.specs.Chain.{ran}
use Rattle.abi.specs.Calls.{Called, CallLent, called_as, called_of, controller_of, made, world_in}
use Rattle.abi.specs.Layouts.{record_in}
use Rattle.abi.proofs.Called.{called_is, called_made, refused_0, refused_1, refused_2, refused_3}
use Rattle.abi.proofs.Laws.{Narrow, left_reads_back}
use Rattle.abi.proofs.Left.{left_as_it_came}
use Rattle.abi.proofs.Tracks.{length_words}
use Rattle.board.specs.World.{World}

module _ (controller first allowance : ℕ) (l : CallLent) where
  abbrev before : World
  before = world_in (controller_of controller) l

  -- What is true of a call that changes nothing and of one that is made is true of every call.
  every_call :
      (P : Called → Type 0) → ((code : ℕ) → P (called_of code l)) → P (made (controller_of controller) first allowance l) →
      P (called_as controller first allowance l)
  every_call P refused run =
      by_cases (dec_le 276 (length l.record0))
      (λ fits0.
      by_cases (dec_le 276 (length l.record1))
      (λ fits1.
      by_cases (dec_le 16 (length l.outcome))
      (λ fits.
      by_cases (dec_le controller 1) (λ there. rw (called_made controller first allowance l fits0 fits1 fits there) run)
      (λ none. rw (called_is controller first allowance l ∙ refused_3 _ controller l _ fits0 fits1 fits (omega arith)) (refused _)))
      (λ short. rw (called_is controller first allowance l ∙ refused_2 _ controller l _ fits0 fits1 (omega arith)) (refused _)))
      (λ short. rw (called_is controller first allowance l ∙ refused_1 _ controller l _ fits0 (omega arith)) (refused _)))
      (λ short. rw (called_is controller first allowance l ∙ refused_0 _ controller l _ (omega arith)) (refused _))

  pub record0_comes_back :
      (RunWritesRecord first allowance before Zero → ⊥) → (called_as controller first allowance l).lent.record0 ≡ l.record0
  record0_comes_back none =
      every_call (λ c. c.lent.record0 ≡ l.record0) (λ code. refl)
      (left_as_it_came l.record0 _ (sym (run_keeps_record first allowance before Zero none)))

  pub record1_comes_back :
      (RunWritesRecord first allowance before One → ⊥) → (called_as controller first allowance l).lent.record1 ≡ l.record1
  record1_comes_back none =
      every_call (λ c. c.lent.record1 ≡ l.record1) (λ code. refl)
      (left_as_it_came l.record1 _ (sym (run_keeps_record first allowance before One none)))

  -- After a call that was made a record reads as the one that the run left, its table and its holder with it, whatever its bytes were before: two calls in a row are
  -- two runs in a row.
  module _
      (fits0 : 276 ≤ length l.record0) (fits1 : 276 ≤ length l.record1) (fits : 16 ≤ length l.outcome) (there : controller ≤ 1) where
    abbrev left : World
    left = (ran first allowance before).world

    pub record0_reads_back : Narrow left.drive0.unit → record_in (called_as controller first allowance l).lent.record0 ≡ left.drive0.unit
    record0_reads_back narrow =
        ap (λ (c : Called). record_in c.lent.record0) (called_made controller first allowance l fits0 fits1 fits there)
        ∙ left_reads_back left.drive0.unit narrow (run_keeps_long first allowance before Zero (length_words l.record0 20 64)) l.record0 fits0

    pub record1_reads_back : Narrow left.drive1.unit → record_in (called_as controller first allowance l).lent.record1 ≡ left.drive1.unit
    record1_reads_back narrow =
        ap (λ (c : Called). record_in c.lent.record1) (called_made controller first allowance l fits0 fits1 fits there)
        ∙ left_reads_back left.drive1.unit narrow (run_keeps_long first allowance before One (length_words l.record1 20 64)) l.record1 fits1
