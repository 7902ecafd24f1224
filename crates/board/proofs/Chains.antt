-- A block of a chain works on the drive of the unit that it names, and leaves the other as it was.
-- Which drive that is, the unit of its request says.
use Rattle.std.proofs.Common.{Some, Err, Ok}
use Prim.Native.Nat.{ℕ, suc, ◌+◌, ◌-◌, ◌≤◌, ◌<◌}
use mathlib.Core.Bool.{true, false}
use mathlib.Core.List.{List}
use mathlib.Core.Logic.{if_neg, if_pos}
use mathlib.Core.Path.{◌≡◌, refl, sym, ap, ◌∙◌}
use native.Mathlib.Omega.{arith}
use lib.ListN.{length}
use Rattle.answers.specs.declared.Refusal.{Refusal}
use Rattle.answers.specs.declared.RunAnswer.{RunAnswer}
use Rattle.answers.specs.Numbers.{refusal_number}
use Rattle.wire.proofs.Decided.{in_memory?}
use Rattle.wire.specs.Memory.{InMemory}
use Rattle.iopb.specs.declared.Block.{Block}
use Rattle.iopb.specs.Ask as ask
use Rattle.iopb.specs.Layout.{block_at}
use Rattle.unit.specs.declared.UnitNumber.{UnitNumber}
use Rattle.transfer.specs.Stores.{Buffers}
use Rattle.block.specs.declared.BlockTold.{BlockTold}
use Rattle.unit.specs.Standing.{UnitRecord}
use Rattle.block.specs.declared.Done.{Done}
use Rattle.board.specs.declared.chain.Count.{Count}
use Rattle.board.specs.declared.chain.Outcome.{Outcome}
use Rattle.board.specs.declared.chain.Stepped.{Stepped}
use Rattle.block.specs.Block.{Effect, effect_on}
use Rattle.board.specs.Ends.{ended_of}
use Rattle.board.specs.Chain.{Ending, counted, ends, executed, fetched, nothing}
use Rattle.board.specs.Steps.{EndedIn, Spare, SteppedTo, stepped_of}
use Rattle.block.specs.Steps.{Did, Knows}
use Rattle.unit.proofs.Decided.{counts?}
use Rattle.wire.proofs.Promises.{decided_says}
use Rattle.board.specs.World.{World, buffers_of, changed, drive_of, effect_at, unit_at, world_after}
use Rattle.board.specs.Run.{CameTo}

module _ (w : World) (at i : ℕ) (n : UnitNumber) (named : unit_at w at ≡ n) where
  effect_named : effect_at at i w ≡ effect_on w.controller w.host (drive_of w n) at i
  unfolding effect_at
  effect_named = ap (λ (x : UnitNumber). effect_on w.controller w.host (drive_of w x) at i) named

  step_made :
      (m : Buffers) (u : UnitRecord) (told : BlockTold) →
      Did (block_at w.host at) (effect_on w.controller w.host (drive_of w n) at i) (buffers_of w n) m u told →
      SteppedTo w at i (changed w n m u) (stepped_of told)
  unfolding world_after
  step_made m u told did =
      rw (did.result, did.unit, did.stored)
      (record {
        world = rw (effect_named, named);
        answer = rw effect_named;
        sectors = rw effect_named;
        linked = refl;
        link = refl;
      })

-- The same with the unit as it was told: it is the unit of the block's request.
pub step_by :
    (w : World) (at i : ℕ) (x n : UnitNumber) → x ≡ ask.unit_asked (block_at w.host at) → x ≡ n →
    (m : Buffers) (u : UnitRecord) (told : BlockTold) →
    Did (block_at w.host at) (effect_on w.controller w.host (drive_of w n) at i) (buffers_of w n) m u told →
    SteppedTo w at i (changed w n m u) (stepped_of told)
step_by w at i x n asks is m u told did = step_made w at i n (sym asks ∙ is) m u told did

-- Whether its unit counts as initialized then, a block tells.
pub told_then :
    (b : Block) (e : Effect) (m m' : Buffers) (u : UnitRecord) (told : BlockTold) → Did b e m m' u told → Knows (Some told.counts) u
told_then b e m m' u told did = rw (did.result, did.unit) (decided_says (counts? e.unit))

-- ---- what follows a block

module _ (fetch : Count → ℕ → World → Ending) (count : Count) (at : ℕ) (w w' : World) (s : Stepped) (stepped : SteppedTo w at count.blocks w' s) where
  abbrev more : Count
  more = counted count s.sectors

  pub executed_failed :
      (r : Refusal) → s.answer ≡ Err r →
      executed fetch count at w ≡ ends RunAnswer.BlockFailed (refusal_number r) more w'
  executed_failed r is = rw (stepped.world, stepped.sectors, sym stepped.answer ∙ is)

  pub executed_done :
      s.answer ≡ Ok tt → s.linked ≡ false → executed fetch count at w ≡ ends RunAnswer.Done 0 more w'
  executed_done is unlinked = rw (stepped.world, stepped.sectors, sym stepped.answer ∙ is, sym stepped.linked ∙ unlinked)

  pub executed_on :
      s.answer ≡ Ok tt → s.linked ≡ true → executed fetch count at w ≡ fetch more s.link w'
  executed_on is linked =
      rw (stepped.world, stepped.sectors, stepped.link, sym stepped.answer ∙ is, sym stepped.linked ∙ linked)

-- ---- fetching

pub fetched_spent : (left : ℕ) (t : Count) (at : ℕ) (w : World) → left ≡ 0 → fetched left t at w ≡ ends RunAnswer.AllowanceSpent 0 t w
unfolding fetched
fetched_spent left t at w none = rw none

module _ (left : ℕ) (t : Count) (at : ℕ) (w : World) (some : 0 < left) where
  one_spent : left ≡ suc (left - 1)
  one_spent = omega arith

  pub fetched_bad : (InMemory w.host at 28 → ⊥) → fetched left t at w ≡ ends RunAnswer.LinkBad 0 t w
  unfolding fetched
  fetched_bad bad =
      ap (λ (n : ℕ). fetched n t at w) one_spent ∙ if_neg (in_memory? w.host at 28) bad _ _

  pub fetched_on : InMemory w.host at 28 → fetched left t at w ≡ executed (fetched (left - 1)) t at w
  unfolding fetched
  fetched_on good =
      ap (λ (n : ℕ). fetched n t at w) one_spent ∙ if_pos (in_memory? w.host at 28) good _ _

-- ---- an end

pub ended_in :
    (answer : RunAnswer) (failed : ℕ) (count : Count) (w : World) (e : Ending) →
    e ≡ ends answer failed count w → EndedIn e w (ended_of answer failed count)
ended_in answer failed count w e is = rw is (record { result = refl; world = refl })

-- An end that is another's.
pub ended_the_same : (e f : Ending) (w : World) (r : Outcome) → e ≡ f → EndedIn f w r → EndedIn e w r
ended_the_same e f w r same ended = rw same ended

-- What a run came to is how its chain ended.
pub came_to : (e : Ending) (w : World) (r : Outcome) → EndedIn e w r → CameTo e w r
came_to e w r ended = record { result = ended.result; world = ended.world }

-- A run that is refused has counted nothing.
pub came_refused :
    (answer : RunAnswer) (w : World) (e : Ending) → e ≡ ends answer 0 nothing w →
    CameTo e w (ended_of answer 0 nothing)
came_refused answer w e is = came_to e w (ended_of answer 0 nothing) (ended_in answer 0 nothing w e is)

-- What is spare after a block.
pub spare_less :
    (events : List ℕ) (left : ℕ) (count : Count) (sectors : ℕ) → sectors ≤ 65535 →
    Spare events (left + 1) count → Spare events left (counted count sectors)
spare_less events left count sectors few spare =
    record {
      entries = omega (arith, spare.entries);
      blocks = omega (arith, spare.blocks);
      sectors = omega (arith, spare.sectors);
    }

pub spare_kept :
    (events events' : List ℕ) (left : ℕ) (t : Count) → length events' ≡ length events → Spare events left t → Spare events' left t
spare_kept events events' left t same spare =
    record { entries = omega (arith, spare.entries, same); blocks = spare.blocks; sectors = spare.sectors }
