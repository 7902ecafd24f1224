-- Blocks that touch no host byte but their own: refused before what they ask for is read, or a restore.
-- What a block does not read is told by the check that refuses it.
use Rattle.std.proofs.Common.{Err, None, Ok}
use Prim.Native.Nat.{ℕ, ◌+◌, ◌<◌}
use mathlib.Core.Bool.{Bool, true, false}
use mathlib.Core.List.{[], ◌∷◌}
use mathlib.Core.Logic.{⊎_elim}
use mathlib.Core.Path.{◌≡◌, refl, ap, subst, ◌∙◌}
use native.Mathlib.Omega.{arith}
use Rattle.board.specs.declared.chain.Outcome.{Outcome}
use Rattle.wire.specs.Among.{Among}
use Rattle.wire.specs.Memory.{InMemory}
use Rattle.wire.proofs.Promises.{never as impossible}
use Rattle.answers.specs.declared.Refusal.{Refusal}
use Rattle.answers.specs.declared.RunAnswer.{RunAnswer}
use Rattle.answers.specs.Numbers.{refusal_number}
use Rattle.iopb.specs.Ask.{shape_at, task_of}
use Rattle.iopb.proofs.Answers.{shape_at_outside}
use Rattle.judge.specs.declared.Leaving.{Leaving}
use Rattle.judge.specs.Plans.{only}
use Rattle.judge.specs.Asks.{checks_of}
use Rattle.judge.specs.Reads.{InList, InUib}
use Rattle.judge.proofs.Locality.{misplaced_uib_unread}
use Rattle.judge.proofs.Tasks.{move_11, own, restore_done, shape_misplaced}
use Rattle.request.specs.declared.Buffer.{Buffer}
use Rattle.request.specs.declared.Move.{Move}
use Rattle.request.specs.declared.Task.{Task}
use Rattle.unit.specs.Holding.{held_by_other}
use Rattle.unit.specs.Standing.{CountsAsInitialized, holder}
use Rattle.board.specs.Ends.{end_of}
use Rattle.board.specs.Chain.{ran}
use Rattle.demands.specs.Footprint.{RunWrites, WritesHost, asked_of, named_drive, verdict_of}
use Rattle.demands.specs.Footprint.HostWritten.{status_word}
use Rattle.demands.specs.Visits.{Passes, Visit, block_of}
use Rattle.independence.specs.TwoChains.{come, drive_with}
use Rattle.independence.proofs.Carried.{Alone, alone, comes_done, comes_refused, idle, no_list, no_uib, silent, still, v}
use Rattle.independence.proofs.OneBlock.{by_block}
use Rattle.independence.proofs.Tiny.{counts, free, long_list_refused, move_by, unit}
use Rattle.board.specs.World.{World, unit_at}
use Rattle.judge.specs.Passed.{NoneGiven, before}

-- A chain of one block that reads its 28 bytes and writes its word 1, and what it comes to.
pub record Bare (w : World) (at : ℕ) (t : Outcome) : Type 0 where
  pub footprint : Alone at w (unit_at w at) ((at, 28) ∷ []) ((at + 2, 2) ∷ [])
  pub comes : end_of (ran at 1 w) ≡ t

module _ (w : World) (at : ℕ) (passes : Passes at 1 w) where
  abbrev b : Visit
  b = v w at passes

  -- Such is a refused block of which neither a UIB nor a list is read.
  abbrev TurnedAway : Refusal → Type 0
  TurnedAway r = Bare w at (come RunAnswer.BlockFailed (refusal_number r) 0)

  pub turned_away :
      (r : Refusal) → verdict_of b ≡ Err r → ((x : ℕ) → InUib (asked_of b) (block_of b).address 18 x → ⊥) →
      ((x : ℕ) → InList (asked_of b) x → ⊥) → TurnedAway r
  turned_away r is no-u no-l =
      record {
        footprint =
            alone w at passes [] [] (λ x j. ⊎_elim (no-u x) (no-l x) j) (still w at passes _ is refl false) (silent w at passes _ is refl)
            (still w at passes _ is refl true);
        comes = comes_refused w at passes r is;
      }

  -- A transfer through a list of more than 64 elements.
  pub over_64_unread :
      (byte mark : ℕ) → named_drive b ≡ drive_with byte mark → (to_host : Bool) (list elements : ℕ) →
      task_of w.host (block_of b) ≡ Task.Move (move_by to_host 0 1 (Buffer.List list elements)) → 64 < elements → TurnedAway Refusal.ListBad
  over_64_unread byte mark same to_host list elements task over =
      turned_away Refusal.ListBad
      (rw (task, same) (long_list_refused w.controller w.host 0 (omega arith) to_host 0 1 list elements (omega arith) (omega arith) over))
      (λ x u. no_uib _ _ _ x (λ s is. impossible (cc (task, is))) u)
      (λ x l. let as_many : elements ≡ l.elements = cc (task, l.asks, l.buffer) in omega arith)

  module _ (nobody : held_by_other w.controller (holder (named_drive b).unit) ≡ false) where
    -- An initialize whose UIB is at an odd address or not wholly in memory.
    pub misplaced_unread :
        (uib : ℕ) → task_of w.host (block_of b) ≡ Task.Initialize (shape_at w.host uib) → (InMemory w.host uib 18 → ⊥) →
        TurnedAway Refusal.UibMisplaced
    misplaced_unread uib task bad =
        let misplaced : task_of w.host (block_of b) ≡ Task.Initialize None =
        task ∙ ap Task.Initialize (shape_at_outside w.host uib bad) in
        turned_away Refusal.UibMisplaced (rw misplaced (own _ _ _ _ _ tt nobody ∙ shape_misplaced _ _ _ _)) (λ x u. misplaced_uib_unread _ _ _ x misplaced u)
        (λ x l. no_list _ x (λ m is. impossible (cc (misplaced, is))) l)

    -- A transfer of a unit that is not initialized, in one piece or through a list.
    pub unready_unread :
        (m : Move) → task_of w.host (block_of b) ≡ Task.Move m → (CountsAsInitialized (named_drive b).unit → ⊥) → TurnedAway Refusal.NotInitialized
    unfolding NoneGiven
    unready_unread m task unready =
        turned_away Refusal.NotInitialized (rw task (own _ _ _ _ _ tt nobody ∙ move_11 _ _ _ _ m unready))
        (λ x u. no_uib _ _ _ x (λ s is. impossible (cc (task, is))) u)
        (λ x l.
        let a = asked_of b in
        let passed = subst (λ (t : Task). NoneGiven (before Refusal.ListBad (checks_of a t))) l.asks l.passed in
        passed.1.0 unready)

  -- And such is a restore that is done.
  pub restored :
      (byte mark : ℕ) → named_drive b ≡ drive_with byte mark → task_of w.host (block_of b) ≡ Task.Restore → (block_of b).options.link ≡ false →
      Bare w at (come RunAnswer.Done 0 0)
  restored byte mark same task unlinked =
      let judged : verdict_of b ≡ Ok (only (Leaving.HeadsAt 0)) =
      rw (task, same)
      (own w.controller (unit 0) 130 w.host Task.Restore tt (free w.controller 0) ∙
      restore_done w.controller (unit 0) 130 w.host (counts 0 (omega arith))) in
      record {
        footprint = idle w at passes _ judged refl refl (λ s is. impossible (cc (task, is))) (λ m is. impossible (cc (task, is)));
        comes = comes_done w at passes unlinked _ judged refl;
      }

  -- Every block writes its word 1.
  pub word_1_written : (x : ℕ) → Among (at + 2) 2 x → RunWrites at 1 w x
  word_1_written x among = by_block at w passes (λ v. WritesHost v x) (status_word among)
