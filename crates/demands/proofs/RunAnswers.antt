-- Demand 1 of runs: each answer 0 to 6 exactly in its case, and a refused run changes nothing.
-- The first three are the checks in their order; the others are told by the last block, whose end leaves one answer.
use Rattle.std.proofs.Common.{Err, Ok}
use Prim.Native.Nat.{ℕ, zero, suc, ◌-◌, ◌≤◌, ◌<◌}
use mathlib.Core.Bool.{Bool, true, false}
use mathlib.Core.List.{List, []}
use mathlib.Core.Logic.Dec
use mathlib.Core.Logic.{◌↔◌, ◌⊎◌, by_cases, if_neg, if_pos, inl, inr}
use mathlib.Core.Path.{◌≡◌, refl, sym, ap, ◌∙◌}
use native.Mathlib.Decide.{dec_le, dec_lt}
use native.Mathlib.Nat.{zero-add}
use native.Mathlib.Omega.{arith}
use lib.ListN.{length}
use Rattle.board.specs.declared.chain.Count.{Count}
use Rattle.wire.proofs.Decided.{in_memory?}
use Rattle.wire.specs.Memory.{InMemory}
use Rattle.answers.specs.Numbers.{BlockAnswer, refusal_number, run_number}
use Rattle.answers.specs.declared.Refusal.{Refusal}
use Rattle.answers.specs.declared.RunAnswer.{RunAnswer}
use Rattle.answers.specs.declared.RunAnswer.TheVariants.{Done, EventsShort, AllowanceBad, FirstBad, BlockFailed, LinkBad, AllowanceSpent}
use Rattle.answers.specs.RunNumbers.{block_number}
use Rattle.board.specs.Chain.{Ending, ends, nothing, ran}
use Rattle.demands.specs.Visits.{EndsWith, Passes, RunTold, Visit, block_of, effect_of, fetched_by, last_fetched, passes?, sectors_of, visits}
use Rattle.demands.proofs.Endings.{ToldByBlocks, chain_told, visits_few}
use Rattle.board.proofs.Runs.{ran_allowance_bad, ran_chain, ran_events_short, ran_first_bad}
use Rattle.board.specs.World.{World}

-- ---- one answer for one last block

-- The answer that a last block's end leaves.
after_end : BlockAnswer → Bool → ℕ → RunAnswer
after_end (Err r) k left = BlockFailed
after_end (Ok _) false left = Done
after_end (Ok _) true zero = AllowanceSpent
after_end (Ok _) true (suc left) = LinkBad

leaves_one : (a : RunAnswer) (left : ℕ) (v : Visit) → EndsWith a left v → a ≡ after_end (effect_of v).answer (block_of v).options.link left
unfolding after_end
leaves_one Done left v (unlinked, ended) = rw (ended, unlinked)
leaves_one BlockFailed left v (r, failed) = rw failed
leaves_one LinkBad left v (linked, ended, bad, some) =
    let one : left ≡ suc (left - 1) = omega arith in
    rw (ended, linked, one)
leaves_one AllowanceSpent left v (linked, ended, none) = rw (ended, linked, none)
leaves_one EventsShort left v so = absurd so
leaves_one AllowanceBad left v so = absurd so
leaves_one FirstBad left v so = absurd so

-- None of 1, 2 and 3 is a chain's.
no_refusal : (a : RunAnswer) (left : ℕ) (v : Visit) → EndsWith a left v → 1 ≤ run_number a → run_number a ≤ 3 → ⊥
no_refusal Done left v so least most = omega arith
no_refusal BlockFailed left v so least most = omega arith
no_refusal LinkBad left v so least most = omega arith
no_refusal AllowanceSpent left v so least most = omega arith
no_refusal EventsShort left v so least most = so
no_refusal AllowanceBad left v so least most = so
no_refusal FirstBad left v so least most = so

-- ---- the whole run

module _ (first allowance : ℕ) (w : World) where
  abbrev end : Ending
  end = ran first allowance w

  -- The blocks that a run fetches, where it passes.
  abbrev fetches : List Visit
  fetches = visits allowance 0 first w

  abbrev one : Visit
  one = record { at = first; index = 0; world = w }

  fetched_past : Passes first allowance w → fetched_by first allowance w ≡ fetches
  unfolding fetched_by
  fetched_past passes = if_pos (passes? first allowance w) passes _ _

  -- A run that passes the checks is its chain, told by the blocks that it fetches: it begins with no block and no sector, so
  -- its two counts are the number of these blocks and the sum of their sectors.
  pub run_told : Passes first allowance w → RunTold first allowance w
  run_told passes =
      let some : allowance ≡ suc (allowance - 1) = omega (arith, passes.least) in
      let told : ToldByBlocks end fetches allowance nothing one =
      rw (ran_chain first allowance w passes.events (passes.least, passes.most) passes.place, some)
      (chain_told (allowance - 1) nothing first w passes.place) in
      let are = fetched_past passes ∙ told.are in
      record {
        answer = rw are told.last;
        failed = rw are told.failed;
        blocks = rw are (told.blocks ∙ zero-add _);
        sectors = rw are (told.sectors ∙ zero-add _);
        leaves = rw are told.leaves;
      }

  -- 0, 4, 5 and 6: such a run has an answer exactly where its last block ends it so. What is left is the allowance less the blocks run.
  pub answered_exactly :
      Passes first allowance w → (a : RunAnswer) →
      (end.answer ≡ a) ↔ EndsWith a (allowance - length (fetched_by first allowance w)) (last_fetched first allowance w)
  answered_exactly passes a =
      let so = (run_told passes).answer in
      (λ is. rw (← is) so, λ ends_so. leaves_one _ _ _ so ∙ sym (leaves_one a _ _ ends_so))

  -- "with answer 4 the failed block's answer number, 10 and up (otherwise 0)"
  pub failed_exactly : Passes first allowance w → end.failed ≡ block_number (effect_of (last_fetched first allowance w)).answer
  failed_exactly passes = (run_told passes).failed

  -- Where a run stands with its checks: refused by the first that fails, or past them all.
  data Stands : Type 0 where
    short : length w.events < 512 → end ≡ ends EventsShort 0 nothing w → Stands
    bad : 512 ≤ length w.events → ((1 ≤ allowance) × (allowance ≤ 64) → ⊥) → end ≡ ends AllowanceBad 0 nothing w → Stands
    misplaced :
        512 ≤ length w.events → (1 ≤ allowance) × (allowance ≤ 64) → (InMemory w.host first 28 → ⊥) →
        end ≡ ends FirstBad 0 nothing w → Stands
    past : Passes first allowance w → Stands

  stands : Stands
  stands =
      by_cases (dec_lt (length w.events) 512) (λ less. short less (ran_events_short first allowance w less))
      (λ long.
      let enough : 512 ≤ length w.events = omega arith in
      by_cases (Dec.and (dec_le 1 allowance) (dec_le allowance 64))
      (λ good.
      by_cases (in_memory? w.host first 28)
      (λ place. past (record { events = enough; least = good.0; most = good.1; place = place }))
      (λ out. misplaced enough good out (ran_first_bad first allowance w enough good out)))
      (λ no-good. bad enough no-good (ran_allowance_bad first allowance w enough no-good)))

  answer_of : (e : Ending) → end ≡ e → run_number end.answer ≡ run_number e.answer
  answer_of e is = ap (λ (x : Ending). run_number x.answer) is

  not_refused : Passes first allowance w → 1 ≤ run_number end.answer → run_number end.answer ≤ 3 → ⊥
  not_refused passes = no_refusal end.answer _ _ (run_told passes).answer

  -- 1: "event buffer under 512 bytes"
  pub answer_1_exactly : (end.answer ≡ EventsShort) ↔ (length w.events < 512)
  answer_1_exactly = (λ is. by_standing stands (ap run_number is), λ less. ap (λ (e : Ending). e.answer) (ran_events_short first allowance w less))
    where
      by_standing : Stands → run_number end.answer ≡ 1 → length w.events < 512
      by_standing (short less e) is = less
      by_standing (bad long no-good e) is = absurd (omega (arith, answer_of _ e))
      by_standing (misplaced long good out e) is = absurd (omega (arith, answer_of _ e))
      by_standing (past passes) is = absurd (not_refused passes (omega arith) (omega arith))

  -- 2: "allowance 0 or over 64", once check 1 is passed
  pub answer_2_exactly :
      (end.answer ≡ AllowanceBad) ↔ ((512 ≤ length w.events) × ((1 ≤ allowance) × (allowance ≤ 64) → ⊥))
  answer_2_exactly = (
    λ is. by_standing stands (ap run_number is),
    λ case. ap (λ (e : Ending). e.answer) (ran_allowance_bad first allowance w case.0 case.1),
  )
    where
      by_standing : Stands → run_number end.answer ≡ 2 → (512 ≤ length w.events) × ((1 ≤ allowance) × (allowance ≤ 64) → ⊥)
      by_standing (short less e) is = absurd (omega (arith, answer_of _ e))
      by_standing (bad long no-good e) is = (long, no-good)
      by_standing (misplaced long good out e) is = absurd (omega (arith, answer_of _ e))
      by_standing (past passes) is = absurd (not_refused passes (omega arith) (omega arith))

  -- 3: "first block odd, or not wholly in host memory", once checks 1 and 2 are passed
  pub answer_3_exactly :
      (end.answer ≡ FirstBad) ↔
      ((512 ≤ length w.events) × (((1 ≤ allowance) × (allowance ≤ 64)) × (InMemory w.host first 28 → ⊥)))
  answer_3_exactly = (
    λ is. by_standing stands (ap run_number is),
    λ case. ap (λ (e : Ending). e.answer) (ran_first_bad first allowance w case.0 case.1.0 case.1.1),
  )
    where
      by_standing :
          Stands → run_number end.answer ≡ 3 →
          (512 ≤ length w.events) × (((1 ≤ allowance) × (allowance ≤ 64)) × (InMemory w.host first 28 → ⊥))
      by_standing (short less e) is = absurd (omega (arith, answer_of _ e))
      by_standing (bad long no-good e) is = absurd (omega (arith, answer_of _ e))
      by_standing (misplaced long good out e) is = (long, (good, out))
      by_standing (past passes) is = absurd (not_refused passes (omega arith) (omega arith))

  -- "A refused run changes nothing" (00, demand 1): with answer 1, 2 or 3 the world is as it was, records included, and nothing is
  -- counted.
  pub refused_run_changes_nothing :
      1 ≤ run_number end.answer → run_number end.answer ≤ 3 → end ≡ ends end.answer 0 nothing w
  refused_run_changes_nothing least most = by_standing stands
    where
      unchanged : (a : RunAnswer) → end ≡ ends a 0 nothing w → end ≡ ends end.answer 0 nothing w
      unchanged a e = e ∙ ap (λ (x : RunAnswer). ends x 0 nothing w) (sym (ap (λ (x : Ending). x.answer) e))

      by_standing : Stands → end ≡ ends end.answer 0 nothing w
      by_standing (short less e) = unchanged EventsShort e
      by_standing (bad long no-good e) = unchanged AllowanceBad e
      by_standing (misplaced long good out e) = unchanged FirstBad e
      by_standing (past passes) = absurd (not_refused passes least most)

  -- "a block fetched is a block run": the two counts of any run, refused or not, are the number of the blocks that it fetches and
  -- the sum of their sectors.
  pub counts_are_the_blocks : (end.tally.blocks ≡ length (fetched_by first allowance w)) × (end.tally.sectors ≡ sectors_of (fetched_by first allowance w))
  unfolding fetched_by
  counts_are_the_blocks =
      by_cases (passes? first allowance w)
      (λ passes. ((run_told passes).blocks, (run_told passes).sectors))
      (λ refused.
      let e = by_standing refused stands in
      rw (if_neg (passes? first allowance w) refused _ _) (ap (λ (t : Count). t.blocks) e, ap (λ (t : Count). t.sectors) e))
    where
      by_standing : (Passes first allowance w → ⊥) → Stands → end.tally ≡ nothing
      by_standing refused (short less e) = ap (λ (x : Ending). x.tally) e
      by_standing refused (bad long no-good e) = ap (λ (x : Ending). x.tally) e
      by_standing refused (misplaced long good out e) = ap (λ (x : Ending). x.tally) e
      by_standing refused (past passes) = absurd (refused passes)

  -- Each spends one of the allowance: never more blocks than the allowance.
  pub blocks_within_the_allowance : end.tally.blocks ≤ allowance
  unfolding fetched_by
  blocks_within_the_allowance =
      by_cases (passes? first allowance w)
      (λ passes. omega (arith, (run_told passes).blocks, ap length (fetched_past passes), visits_few allowance 0 first w))
      (λ refused. omega (arith, counts_are_the_blocks.0, ap length (if_neg (passes? first allowance w) refused (visits allowance 0 first w) [])))

  -- A run that does not pass leaves the world as it was.
  pub not_passed : (Passes first allowance w → ⊥) → end.world ≡ w
  not_passed refused = by_standing stands
    where
      by_standing : Stands → end.world ≡ w
      by_standing (short less e) = ap (λ (x : Ending). x.world) e
      by_standing (bad long no-good e) = ap (λ (x : Ending). x.world) e
      by_standing (misplaced long good out e) = ap (λ (x : Ending). x.world) e
      by_standing (past passes) = absurd (refused passes)

  -- "with answer 4 the failed block's answer number": a run's failed number is 0, or the number of a block's answer.
  pub failed_number : (end.failed ≡ 0) ⊎ ((v : Visit) × ((r : Refusal) × ((end.failed ≡ refusal_number r) × ((effect_of v).answer ≡ Err r))))
  failed_number = by_standing stands
    where
      of_block :
          (v : Visit) (a : BlockAnswer) → (effect_of v).answer ≡ a →
          (block_number a ≡ 0) ⊎ ((v : Visit) × ((r : Refusal) × ((block_number a ≡ refusal_number r) × ((effect_of v).answer ≡ Err r))))
      of_block v (Ok _) is = inl refl
      of_block v (Err r) is = inr (v, (r, (refl, is)))

      by_standing : Stands → (end.failed ≡ 0) ⊎ ((v : Visit) × ((r : Refusal) × ((end.failed ≡ refusal_number r) × ((effect_of v).answer ≡ Err r))))
      by_standing (short less e) = inl (ap (λ (x : Ending). x.failed) e)
      by_standing (bad long no-good e) = inl (ap (λ (x : Ending). x.failed) e)
      by_standing (misplaced long good out e) = inl (ap (λ (x : Ending). x.failed) e)
      by_standing (past passes) = rw (run_told passes).failed (of_block (last_fetched first allowance w) _ refl)
