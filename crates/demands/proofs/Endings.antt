-- How a chain ends, told by the last block that it fetched; and what it counts, told by all of them.
-- Both go along the allowance: a block that ends with a link hands on to the rest of the chain.
use Rattle.std.proofs.Common.{Err, Ok}
use Prim.Native.Nat.{ℕ, zero, suc, ◌+◌, ◌-◌, ◌≤◌, ◌<◌}
use mathlib.Core.Bool.{Bool, true, false}
use mathlib.Core.List.{List, [], ◌∷◌}
use mathlib.Core.Logic.{by_cases, if_neg, if_pos}
use mathlib.Core.Path.{◌≡◌, refl, sym, ap, ◌∙◌}
use native.Mathlib.Decide.{dec_lt}
use native.Mathlib.Nat.{add_assoc, add-zero}
use native.Mathlib.Omega.{arith}
use lib.ListN.{length}
use Rattle.board.specs.declared.chain.Count.{Count}
use Rattle.wire.proofs.Decided.{in_memory?}
use Rattle.wire.specs.Memory.{InMemory}
use Rattle.answers.specs.Numbers.{BlockAnswer}
use Rattle.answers.specs.declared.RunAnswer.{RunAnswer}
use Rattle.answers.specs.RunNumbers.{block_number}
use Rattle.board.specs.Chain.{Ending, counted, ends, executed, fetched, follows}
use Rattle.demands.specs.Visits.{EndsWith, Linked, Visit, block_of, effect_of, last_of, leads_on, onwards, sectors_of, visits, world_left}
use Rattle.board.proofs.Chains.{fetched_bad, fetched_spent}
use Rattle.board.specs.World.{World}

-- What a chain comes to from any block on, where some are counted before it: its counts are theirs, the last of them ends it, and what that one
-- leaves is what the chain leaves.
pub record ToldByBlocks (e : Ending) (vs : List Visit) (left : ℕ) (t : Count) (first : Visit) : Type 0 where
  pub rest : List Visit
  pub are : vs ≡ first ∷ rest
  pub blocks : e.tally.blocks ≡ t.blocks + length (first ∷ rest)
  pub sectors : e.tally.sectors ≡ t.sectors + sectors_of (first ∷ rest)
  pub last : EndsWith e.answer (left - length (first ∷ rest)) (last_of first rest)
  pub failed : e.failed ≡ block_number (effect_of (last_of first rest)).answer
  pub leaves : e.world ≡ world_left (last_of first rest)

module _ (left : ℕ) (t : Count) (at : ℕ) (w : World) where
  abbrev pub here : Visit
  here = record { at = at; index = t.blocks; world = w }

  abbrev pub then : Count
  then = counted t (effect_of here).sectors

  abbrev Next : Type 0
  Next =
      InMemory (world_left here).host (block_of here).link 28 →
      (less : 0 < left) →
      ToldByBlocks (fetched left then (block_of here).link (world_left here)) (visits left (t.blocks + 1) (block_of here).link (world_left here)) left then
      (record { at = (block_of here).link; index = t.blocks + 1; world = world_left here })

  -- A chain that ends with its first block.
  alone :
      (answer : RunAnswer) (failed : ℕ) → EndsWith answer left here → failed ≡ block_number (effect_of here).answer →
      ToldByBlocks (ends answer failed then (world_left here)) (here ∷ []) (suc left) t here
  alone answer failed so number =
      record {
        rest = [];
        are = refl;
        blocks = omega arith;
        sectors = rw add-zero;
        last = rw sub_one so;
        failed = number;
        leaves = refl;
      }
    where
      sub_one : suc left - 1 ≡ left
      sub_one = omega arith

  -- One that goes on.
  on :
      (e : Ending) (vs : List Visit) (next : Visit) → ToldByBlocks e vs left then next → ToldByBlocks e (here ∷ vs) (suc left) t here
  on e vs next told =
      record {
        rest = next ∷ told.rest;
        are = ap (λ (xs : List Visit). here ∷ xs) told.are;
        blocks = omega (arith, told.blocks);
        sectors = told.sectors ∙ add_assoc t.sectors (effect_of here).sectors (sectors_of (next ∷ told.rest));
        last = rw fewer told.last;
        failed = told.failed;
        leaves = told.leaves;
      }
    where
      fewer : suc left - suc (suc (length told.rest)) ≡ left - suc (length told.rest)
      fewer = omega arith

  visits_bad :
      0 < left → (InMemory (world_left here).host (block_of here).link 28 → ⊥) →
      visits left (t.blocks + 1) (block_of here).link (world_left here) ≡ []
  unfolding visits
  visits_bad some bad =
      let one : left ≡ suc (left - 1) = omega arith in
      ap (λ (n : ℕ). visits n (t.blocks + 1) (block_of here).link (world_left here)) one
      ∙ if_neg (in_memory? (world_left here).host (block_of here).link 28) bad _ _

  visits_spent : left ≡ 0 → visits left (t.blocks + 1) (block_of here).link (world_left here) ≡ []
  unfolding visits
  visits_spent spent = ap (λ (n : ℕ). visits n (t.blocks + 1) (block_of here).link (world_left here)) spent

  -- By how the first block ended, and what is left.
  by_end :
      (a : BlockAnswer) (k : Bool) → (effect_of here).answer ≡ a → (block_of here).options.link ≡ k → Next →
      ToldByBlocks (follows a k then (world_left here) (fetched left then (block_of here).link (world_left here)))
      (here ∷ onwards a k (visits left (t.blocks + 1) (block_of here).link (world_left here))) (suc left) t here
  by_end (Err r) k is linked next = alone RunAnswer.BlockFailed _ (r, is) (ap block_number (sym is))
  by_end (Ok _) false is linked next = alone RunAnswer.Done 0 (linked, is) (ap block_number (sym is))
  by_end (Ok _) true is linked next =
      by_cases (dec_lt 0 left)
      (λ some.
      by_cases (in_memory? (world_left here).host (block_of here).link 28)
      (λ good. on _ _ _ (next good some))
      (λ bad. rw (fetched_bad left then (block_of here).link (world_left here) some bad, visits_bad some bad) (alone RunAnswer.LinkBad 0 (linked, is, bad, some) (ap block_number (sym is)))))
      (λ none.
      let spent : left ≡ 0 = omega arith in
      rw (fetched_spent left then (block_of here).link (world_left here) spent, visits_spent spent)
      (alone RunAnswer.AllowanceSpent 0 (linked, is, spent) (ap block_number (sym is))))

module _ (n : ℕ) (t : Count) (at : ℕ) (w : World) (good : InMemory w.host at 28) where
  pub fetched_step : fetched (suc n) t at w ≡ executed (fetched n) t at w
  unfolding fetched
  fetched_step = if_pos (in_memory? w.host at 28) good _ _

  pub visits_step :
      visits (suc n) t.blocks at w ≡
      here n t at w ∷
      onwards (effect_of (here n t at w)).answer (block_of (here n t at w)).options.link
      (visits n (t.blocks + 1) (block_of (here n t at w)).link (world_left (here n t at w)))
  unfolding visits
  visits_step = if_pos (in_memory? w.host at 28) good _ _

  told_step :
      Next n t at w →
      ToldByBlocks (fetched (suc n) t at w) (visits (suc n) t.blocks at w) (suc n) t (record { at = at; index = t.blocks; world = w })
  told_step next = rw (fetched_step, visits_step) (by_end n t at w _ _ refl refl next)

-- The theorem, for a first block that can be fetched.
pub chain_told :
    (left : ℕ) (t : Count) (at : ℕ) (w : World) → InMemory w.host at 28 →
    ToldByBlocks (fetched (suc left) t at w) (visits (suc left) t.blocks at w) (suc left) t (record { at = at; index = t.blocks; world = w })
chain_told zero t at w good = told_step zero t at w good (λ place less. absurd (omega arith))
chain_told (suc n) t at w good = told_step (suc n) t at w good (λ place less. chain_told n (then (suc n) t at w) _ _ place)

-- A chain fetches no more blocks than its allowance has left.
onwards_few : (a : BlockAnswer) (k : Bool) (rest : List Visit) → length (onwards a k rest) ≤ length rest
onwards_few (Err r) k rest = omega arith
onwards_few (Ok _) false rest = omega arith
onwards_few (Ok _) true rest = omega arith

pub visits_few : (left i at : ℕ) (w : World) → length (visits left i at w) ≤ left
unfolding visits
visits_few zero i at w = omega arith
visits_few (suc n) i at w =
    let v : Visit = record { at = at; index = i; world = w } in
    let rest = visits n (i + 1) (block_of v).link (world_left v) in
    by_cases (in_memory? w.host at 28)
    (λ good.
    rw (if_pos (in_memory? w.host at 28) good _ _)
    (omega (arith, onwards_few (effect_of v).answer (block_of v).options.link rest, visits_few n (i + 1) (block_of v).link (world_left v))))
    (λ bad. rw (if_neg (in_memory? w.host at 28) bad _ _) (omega arith))

-- What a chain fetches first, if anything, is the block at its address.
first_of :
    (n i at : ℕ) (w : World) (v : Visit) → (effect_of v).answer ≡ Ok tt → (block_of v).options.link ≡ true →
    at ≡ (block_of v).link → i ≡ v.index + 1 → w ≡ world_left v → leads_on v (visits n i at w)
unfolding visits
first_of zero i at w v is linked a b c = tt
first_of (suc n) i at w v is linked a b c =
    by_cases (in_memory? w.host at 28)
    (λ good.
    rw (if_pos (in_memory? w.host at 28) good _ _) (record { ended = is; linked = linked; at = a; index = b; world = c }))
    (λ bad. rw (if_neg (in_memory? w.host at 28) bad _ _) tt)

-- Every block that a chain fetches but the last ended 80 with LK set, and the next one is the one at its link, in the world that it
-- left: "blocks in link order" (00, demand 2), and no failed block's link is followed.
pub visits_linked : (left i at : ℕ) (w : World) → Linked (visits left i at w)
unfolding visits
visits_linked zero i at w = tt
visits_linked (suc n) i at w =
    by_cases (in_memory? w.host at 28)
    (λ good.
    rw (if_pos (in_memory? w.host at 28) good _ _)
    (linked_by (effect_of v).answer (block_of v).options.link refl refl (visits_linked n (i + 1) (block_of v).link (world_left v))))
    (λ bad. rw (if_neg (in_memory? w.host at 28) bad _ _) tt)
  where
    v : Visit
    v = record { at = at; index = i; world = w }

    linked_by :
        (a : BlockAnswer) (k : Bool) → (effect_of v).answer ≡ a → (block_of v).options.link ≡ k →
        Linked (visits n (i + 1) (block_of v).link (world_left v)) →
        Linked (v ∷ onwards a k (visits n (i + 1) (block_of v).link (world_left v)))
    linked_by (Err r) k is linked rest = (tt, tt)
    linked_by (Ok _) false is linked rest = (tt, tt)
    linked_by (Ok _) true is linked rest = (first_of n (i + 1) (block_of v).link (world_left v) v is linked refl refl refl, rest)
