-- What stands in the units' tables past the pairs that count is nothing to a run: it does the same whatever stands there, and leaves it alone, but for an 87 and an 85.
-- Each block does so for the unit that it names, and a chain goes along its blocks.
use Rattle.std.proofs.Common.{Err, Ok}
use Prim.Native.Nat.{ℕ, zero, suc}
use mathlib.Core.Bool.{Bool, true, false}
use mathlib.Core.List.{List}
use mathlib.Core.Logic.Dec
use mathlib.Core.Logic.{ite}
use mathlib.Core.Path.{◌≡◌, refl, ap, ◌∙◌}
use native.Mathlib.Decide.{dec_le, dec_lt}
use lib.ListN.{length}
use Rattle.answers.specs.Numbers.{BlockAnswer}
use Rattle.answers.specs.declared.RunAnswer.{RunAnswer}
use Rattle.iopb.specs.Layout.{block_at}
use Rattle.unit.specs.declared.UnitNumber.{UnitNumber}
use Rattle.unit.specs.declared.UnitNumber.TheVariants.{Zero, One}
use Rattle.unit.specs.Standing.{table}
use Rattle.transfer.specs.Stores.{after}
use Rattle.block.specs.Block.{Effect, effect_on}
use Rattle.block.specs.Steps.{drive_with}
use Rattle.block.proofs.PastPairs.{PastPairs, effect_past, past, past_effect}
use Rattle.board.specs.declared.chain.Count.{Count}
use Rattle.board.specs.Chain.{Ending, counted, ends, fetched, follows, nothing, ran}
use Rattle.board.specs.World.{World, buffers_of, changed, drive_of, effect_at, unit_at, world_after}
use Rattle.wire.proofs.Decided.{in_memory?}
use Rattle.demands.specs.Visits.{Visit}
use Rattle.demands.proofs.Tables.{block_keeps_long, run_keeps_long}

-- Both tables have room for 32 pairs.
pub record LongTables (w : World) : Type 0 where
  pub first : length (table w.drive0.unit) ≡ 64
  pub second : length (table w.drive1.unit) ≡ 64

-- Every block and every run leave them so.
pub after_long : (at i : ℕ) (w : World) → LongTables w → LongTables (world_after at i w)
after_long at i w long =
    let v : Visit = record { at = at; index = i; world = w } in
    record { first = block_keeps_long v Zero long.first; second = block_keeps_long v One long.second }

pub ran_long : (first allowance : ℕ) (w : World) → LongTables w → LongTables (ran first allowance w).world
ran_long first allowance w long =
    record {
      first = run_keeps_long first allowance w Zero long.first;
      second = run_keeps_long first allowance w One long.second;
    }

-- A world with both tables written anew past the pairs that count, and how a chain ends with the world that it leaves written anew.
abbrev pub past_both : (F G : ℕ → List ℕ → List ℕ) → World → World
past_both F G w =
    record {
      controller = w.controller;
      host = w.host;
      drive0 = drive_with (past F w.drive0.unit) w.drive0.image;
      drive1 = drive_with (past G w.drive1.unit) w.drive1.image;
      events = w.events;
    }

abbrev pub past_ending : (F G : ℕ → List ℕ → List ℕ) → Ending → Ending
past_ending F G e = ends e.answer e.failed e.tally (past_both F G e.world)

-- Which of the two is a unit's.
abbrev pub past_of : (F G : ℕ → List ℕ → List ℕ) → UnitNumber → ℕ → List ℕ → List ℕ
past_of F G Zero = F
past_of F G One = G

module _ (F G : ℕ → List ℕ → List ℕ) (p : PastPairs F) (q : PastPairs G) where
  -- ---- a block

  module _ (w : World) (long : LongTables w) (at i : ℕ) where
    pub effect_at_past : effect_at at i (past_both F G w) ≡ past_effect (past_of F G (unit_at w at)) (effect_at at i w)
    unfolding effect_at
    effect_at_past = by_unit (unit_at w at)
      where
        by_unit :
            (n : UnitNumber) →
            effect_on w.controller w.host (drive_of (past_both F G w) n) at i ≡
            past_effect (past_of F G n) (effect_on w.controller w.host (drive_of w n) at i)
        by_unit Zero = effect_past F p w.controller w.host w.drive0.unit w.drive0.image at i long.first
        by_unit One = effect_past G q w.controller w.host w.drive1.unit w.drive1.image at i long.second

    pub world_past : world_after at i (past_both F G w) ≡ past_both F G (world_after at i w)
    unfolding world_after
    world_past =
        ap (λ (e : Effect). changed (past_both F G w) (unit_at w at) (after e.stores (buffers_of (past_both F G w) (unit_at w at))) e.unit) effect_at_past
        ∙ by_unit (unit_at w at) (effect_at at i w)
      where
        by_unit :
            (n : UnitNumber) (e : Effect) →
            changed (past_both F G w) n (after e.stores (buffers_of (past_both F G w) n)) (past (past_of F G n) e.unit) ≡
            past_both F G (changed w n (after e.stores (buffers_of w n)) e.unit)
        by_unit Zero e = refl
        by_unit One e = refl

  -- ---- a chain, and the run

  follows_past :
      (a : BlockAnswer) (link : Bool) (t : Count) (w : World) (next next' : Ending) → next' ≡ past_ending F G next →
      follows a link t (past_both F G w) next' ≡ past_ending F G (follows a link t w next)
  follows_past (Err r) link t w next next' same = refl
  follows_past (Ok _) false t w next next' same = refl
  follows_past (Ok _) true t w next next' same = same

  either_past :
      {P : Type 0} (d : Dec P) (x x' y y' : Ending) → x' ≡ past_ending F G x → y' ≡ past_ending F G y → ite d x' y' ≡ past_ending F G (ite d x y)
  either_past (yes so) x x' y y' here there = here
  either_past (no not_so) x x' y y' here there = there

  pub fetched_past :
      (left : ℕ) (t : Count) (at : ℕ) (w : World) → LongTables w → fetched left t at (past_both F G w) ≡ past_ending F G (fetched left t at w)
  unfolding fetched
  fetched_past zero t at w long = refl
  fetched_past (suc left) t at w long =
      let b = block_at w.host at in
      let effect = effect_at_past w long at t.blocks in
      let world = world_past w long at t.blocks in
      let t' = counted t (effect_at at t.blocks w).sectors in
      let w' = world_after at t.blocks w in
      either_past (in_memory? w.host at 28) _ _ _ _
      ((λ k.
      let more = counted t (effect k).sectors in
      follows (effect k).answer b.options.link more (world k) (fetched left more b.link (world k)))
      ∙ follows_past (effect_at at t.blocks w).answer b.options.link t' w' _ _
      (fetched_past left t' b.link w' (after_long at t.blocks w long)))
      refl

  pub ran_past : (first allowance : ℕ) (w : World) → LongTables w → ran first allowance (past_both F G w) ≡ past_ending F G (ran first allowance w)
  unfolding ran
  ran_past first allowance w long =
      either_past (dec_lt (length w.events) 512) (ends RunAnswer.EventsShort 0 nothing w) _ _ _ refl
      (either_past (Dec.not (Dec.and (dec_le 1 allowance) (dec_le allowance 64))) (ends RunAnswer.AllowanceBad 0 nothing w) _ _ _ refl
      (either_past (Dec.not (in_memory? w.host first 28)) (ends RunAnswer.FirstBad 0 nothing w) _ _ _ refl
      (fetched_past allowance nothing first w long)))
