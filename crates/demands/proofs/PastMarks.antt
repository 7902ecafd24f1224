-- No block and no run reads a byte after the marks: on another image with the same sectors and marks a block comes to the same, and so does a run in
-- which no 87 for that unit succeeds.
-- A block that names the unit is treated alike by block's own law, and to any other the worlds are the same; a run goes along its allowance.
use Rattle.std.proofs.Common.{Err, Ok}
use Prim.Native.Nat.{ℕ, zero, suc, ◌+◌, ◌≤◌}
use mathlib.Core.Bool.{Bool, true, false}
use mathlib.Core.List.{List, ◌∷◌}
use mathlib.Core.Logic.Dec
use mathlib.Core.Logic.{by_cases, if_pos, inl, inr}
use mathlib.Core.Path.{◌≡◌, refl, sym, ap, subst, ◌∙◌}
use native.Mathlib.Decide.{dec_le, dec_lt}
use native.Mathlib.Omega.{arith}
use lib.ListN.{length}
use Rattle.board.specs.declared.chain.Count.{Count}
use Rattle.answers.specs.Numbers.{BlockAnswer}
use Rattle.answers.specs.declared.RunAnswer.{RunAnswer}
use Rattle.geometry.specs.declared.Geometry.{Geometry}
use Rattle.unit.specs.declared.UnitNumber.{UnitNumber}
use Rattle.unit.specs.declared.UnitNumber.TheVariants.{Zero, One}
use Rattle.transfer.specs.SameSectors.{SameSectors}
use Rattle.transfer.specs.Stores.{after}
use Rattle.unit.specs.Standing.{geometry}
use Rattle.wire.proofs.Decided.{in_memory?}
use Rattle.wire.specs.Memory.{InMemory}
use Rattle.block.specs.Block.{Effect, effect_on}
use Rattle.block.proofs.PastMarks.{left_alike, one_effect}
use Rattle.board.specs.Chain.{Ending, counted, ends, fetched, follows, nothing, ran}
use Rattle.board.proofs.Chains.{fetched_bad, fetched_spent}
use Rattle.board.proofs.Runs.{ran_allowance_bad, ran_chain, ran_events_short, ran_first_bad}
use Rattle.demands.specs.Footprint.{Renews, SomeBlock, asked_of, names}
use Rattle.demands.specs.PastMarks.{EndsAlike, SameOn, imaged}
use Rattle.demands.specs.Visits.{Passes, Visit, block_of, effect_of, fetched_by, onwards, passes?, visits, world_left}
use Rattle.demands.proofs.Endings.{fetched_step, here, then, visits_step}
use Rattle.demands.proofs.RunMarks.{block_keeps_geometry}
use Rattle.board.specs.World.{World, buffers_of, changed, drive_of, effect_at, unit_at, world_after}

-- ---- a block

-- What the block at an address does on the drive of a unit, and the world that it leaves.
abbrev effect_for : UnitNumber → ℕ → ℕ → World → Effect
effect_for m at i w = effect_on w.controller w.host (drive_of w m) at i

abbrev world_for : UnitNumber → ℕ → ℕ → World → World
world_for m at i w = let e = effect_for m at i w in changed w m (after e.stores (buffers_of w m)) e.unit

-- On the drive of unit m, where unit n has another image.
record AlikeOn (m n : UnitNumber) (at i : ℕ) (w : World) (image : List ℕ) : Type 0 where
  effect : effect_for m at i (imaged n image w) ≡ effect_for m at i w
  left : List ℕ
  world : world_for m at i (imaged n image w) ≡ imaged n left (world_for m at i w)
  sectors : SameSectors (geometry (drive_of w n).unit) (drive_of (world_for m at i w) n).image left

-- The same of the unit that the block names.
pub record StepsAlike (n : UnitNumber) (at i : ℕ) (w : World) (image : List ℕ) : Type 0 where
  pub effect : effect_at at i (imaged n image w) ≡ effect_at at i w
  pub left : List ℕ
  pub world : world_after at i (imaged n image w) ≡ imaged n left (world_after at i w)
  pub sectors : SameSectors (geometry (drive_of w n).unit) (drive_of (world_after at i w) n).image left

module _ (at i : ℕ) (w : World) (image : List ℕ) where
  -- On its own drive it is block's law; on the other one the worlds are the same.
  alike_on : (m n : UnitNumber) → SameOn n w image → AlikeOn m n at i w image
  alike_on Zero Zero alike =
      let d = w.drive0 in
      let one = one_effect w.controller w.host d.unit d.image image alike at i in
      let m = left_alike w.controller w.host d.unit d.image image alike at i w.events in
      let z = imaged Zero image w in
      let e = effect_for Zero at i w in
      let kept = (after e.stores (buffers_of z Zero)).image in
      record {
        effect = sym one;
        left = kept;
        world =
            ap (λ (x : Effect). changed z Zero (after x.stores (buffers_of z Zero)) x.unit) (sym one)
            ∙ (λ k. record {
              controller = w.controller;
              host = sym m.host k;
              drive0 = record { unit = e.unit; image = kept };
              drive1 = w.drive1;
              events = sym m.events k;
            });
        sectors = m.image;
      }
  alike_on One One alike =
      let d = w.drive1 in
      let one = one_effect w.controller w.host d.unit d.image image alike at i in
      let m = left_alike w.controller w.host d.unit d.image image alike at i w.events in
      let z = imaged One image w in
      let e = effect_for One at i w in
      let kept = (after e.stores (buffers_of z One)).image in
      record {
        effect = sym one;
        left = kept;
        world =
            ap (λ (x : Effect). changed z One (after x.stores (buffers_of z One)) x.unit) (sym one)
            ∙ (λ k. record {
              controller = w.controller;
              host = sym m.host k;
              drive0 = w.drive0;
              drive1 = record { unit = e.unit; image = kept };
              events = sym m.events k;
            });
        sectors = m.image;
      }
  alike_on One Zero alike = record { effect = refl; left = image; world = refl; sectors = alike }
  alike_on Zero One alike = record { effect = refl; left = image; world = refl; sectors = alike }

  pub block_past_marks : (n : UnitNumber) → SameOn n w image → StepsAlike n at i w image
  unfolding effect_at world_after
  block_past_marks n alike =
      let so = alike_on (unit_at w at) n alike in
      record { effect = so.effect; left = so.left; world = so.world; sectors = so.sectors }

-- ---- a run

-- A chain that ends here, on one image and on the other.
unmoved :
    (n : UnitNumber) (answer : RunAnswer) (failed : ℕ) (t : Count) (w : World) (image : List ℕ) → SameOn n w image →
    EndsAlike n (ends answer failed t w) (ends answer failed t (imaged n image w))
unmoved n answer failed t w image alike = record { answer = refl; failed = refl; tally = refl; image = image; world = refl; same = alike }

module _ (n : UnitNumber) where
  abbrev Renewing : Visit → Type 0
  Renewing v = (names v ≡ n) × Renews (asked_of v)

  -- What a block leaves is alike in the geometry that its unit has then, for that is the one it had.
  same_then : (v : Visit) (image : List ℕ) → (Renewing v → ⊥) → SameSectors (geometry (drive_of v.world n).unit) (drive_of (world_left v) n).image image → SameOn n (world_left v) image
  same_then v image none alike =
      subst (λ (g : Geometry). SameSectors g (drive_of (world_left v) n).image image) (sym (block_keeps_geometry v n none)) alike

  by_end :
      (a : BlockAnswer) (k : Bool) (t : Count) (w : World) (image : List ℕ) → SameOn n w image → (next next' : Ending) (rest : List Visit) →
      (SomeBlock Renewing (onwards a k rest) → ⊥) → ((SomeBlock Renewing rest → ⊥) → EndsAlike n next next') →
      EndsAlike n (follows a k t w next) (follows a k t (imaged n image w) next')
  by_end (Err r) k t w image alike next next' rest none on = unmoved n _ _ _ w image alike
  by_end (Ok _) false t w image alike next next' rest none on = unmoved n _ _ _ w image alike
  by_end (Ok _) true t w image alike next next' rest none on = on none

  -- Endings that are the same end alike where the others do.
  as_told : (e e' f f' : Ending) → e ≡ e' → f ≡ f' → EndsAlike n e' f' → EndsAlike n e f
  as_told e e' f f' p q alike = subst (λ (x : Ending). EndsAlike n x f) (sym p) (subst (λ (x : Ending). EndsAlike n e' x) (sym q) alike)

  -- A chain that goes on from a block, by what the block came to on the first image.
  goes_on :
      (left : ℕ) (t : Count) (at : ℕ) (w : World) (image : List ℕ) (good : InMemory w.host at 28) → (step : StepsAlike n at t.blocks w image) →
      let v = here left t at w in
      let next = imaged n step.left (world_left v) in
      fetched (suc left) t at (imaged n image w) ≡
      follows (effect_of v).answer (block_of v).options.link (then left t at w) next (fetched left (then left t at w) (block_of v).link next)
  goes_on left t at w image good step =
      let b = block_of (here left t at w) in
      fetched_step left t at (imaged n image w) good
      ∙ (λ k.
      let e : Effect = step.effect k in
      let t' = counted t e.sectors in
      follows e.answer b.options.link t' (step.world k) (fetched left t' b.link (step.world k)))

  chain_alike :
      (left : ℕ) (t : Count) (at : ℕ) (w : World) (image : List ℕ) → SameOn n w image → (SomeBlock Renewing (visits left t.blocks at w) → ⊥) →
      EndsAlike n (fetched left t at w) (fetched left t at (imaged n image w))
  chain_alike zero t at w image alike none =
      rw (fetched_spent 0 t at w refl, fetched_spent 0 t at (imaged n image w) refl) (unmoved n _ _ _ w image alike)
  chain_alike (suc left) t at w image alike none =
      by_cases (in_memory? w.host at 28)
      (λ good.
      let v = here left t at w in
      let t' = then left t at w in
      let step = block_past_marks at t.blocks w image n alike in
      let none_here : SomeBlock Renewing (v ∷ onwards (effect_of v).answer (block_of v).options.link (visits left (t.blocks + 1) (block_of v).link (world_left v))) → ⊥ =
      rw (visits_step left t at w good) at none in
      let now = same_then v step.left (λ renews. none_here (inl renews)) step.sectors in
      as_told _ _ _ _ (fetched_step left t at w good) (goes_on left t at w image good step)
      (by_end (effect_of v).answer (block_of v).options.link t' (world_left v) step.left now _ _ _ (λ some. none_here (inr some))
      (λ out. chain_alike left t' (block_of v).link (world_left v) step.left now out)))
      (λ bad.
      rw (fetched_bad (suc left) t at w (omega arith) bad, fetched_bad (suc left) t at (imaged n image w) (omega arith) bad)
      (unmoved n _ _ _ w image alike))

  pub run_past_marks :
      (first allowance : ℕ) (w : World) (image : List ℕ) → SameOn n w image → (SomeBlock Renewing (fetched_by first allowance w) → ⊥) →
      EndsAlike n (ran first allowance w) (ran first allowance (imaged n image w))
  unfolding fetched_by
  run_past_marks first allowance w image alike none =
      let z = imaged n image w in
      by_cases (dec_lt (length w.events) 512)
      (λ short. rw (ran_events_short first allowance w short, ran_events_short first allowance z short) as_it_was)
      (λ not_IsShort.
      let long : 512 ≤ length w.events = omega arith in
      by_cases (Dec.and (dec_le 1 allowance) (dec_le allowance 64))
      (λ good.
      by_cases (in_memory? w.host first 28)
      (λ place.
      let passes : Passes first allowance w = record { events = long; least = good.0; most = good.1; place = place } in
      rw (ran_chain first allowance w long good place, ran_chain first allowance z long good place)
      (chain_alike allowance nothing first w image alike (rw (if_pos (passes? first allowance w) passes _ _) at none)))
      (λ bad. rw (ran_first_bad first allowance w long good bad, ran_first_bad first allowance z long good bad) as_it_was))
      (λ bad. rw (ran_allowance_bad first allowance w long bad, ran_allowance_bad first allowance z long bad) as_it_was))
    where
      as_it_was : {answer : RunAnswer} {failed : ℕ} → EndsAlike n (ends answer failed nothing w) (ends answer failed nothing (imaged n image w))
      as_it_was = unmoved n _ _ _ w image alike
