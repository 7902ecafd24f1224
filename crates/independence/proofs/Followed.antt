-- A chain is a local step: it is a block and then what follows it, with less of the allowance. Where its address is bad, it is a step that
-- does nothing; whether it is depends on the length of host memory alone.
use Rattle.std.proofs.Common.{Err, Ok}
use Prim.Native.Nat.{ℕ, zero, suc}
use mathlib.Core.Bool.{Bool, true, false}
use mathlib.Core.List.{List, ◌∷◌}
use mathlib.Core.Logic.Iff
use mathlib.Core.Logic.{◌⊎◌, ◌↔◌, inl, if_neg}
use mathlib.Core.Path.{◌≡◌, refl, sym, ap, subst}
use native.Mathlib.Omega.{arith}
use Rattle.board.specs.declared.chain.Outcome.{Outcome}
use Rattle.board.specs.declared.chain.Count.{Count}
use Rattle.wire.proofs.Decided.{in_memory?}
use Rattle.wire.specs.Memory.{InMemory}
use Rattle.wire.proofs.Memory.{range_same}
use Rattle.answers.specs.Numbers.{BlockAnswer}
use Rattle.answers.specs.declared.RunAnswer.{RunAnswer}
use Rattle.board.specs.Ends.{end_of, ended_of}
use Rattle.board.specs.Chain.{counted, fetched, follows}
use Rattle.board.proofs.Chains.{fetched_bad}
use Rattle.demands.specs.Footprint.{ReadsHost, SomeBlock, WritesHost, names}
use Rattle.demands.specs.Visits.{Visit, onwards, visits}
use Rattle.demands.proofs.Endings.{fetched_step, visits_step}
use Rattle.independence.specs.Local.{Local, Step, then}
use Rattle.independence.specs.Worlds.{WorldCell, Touches, byte, disk, events, worlds}
use Rattle.independence.proofs.Blocks.{Next, block, block_is_local}
use Rattle.independence.proofs.Branches.{SameAt, branch_local, still, still_local}
use Rattle.independence.proofs.Steps.{then_local}
use Rattle.independence.proofs.Worlds.{worlds_stable}
use Rattle.independence.proofs.Works.{working}
use Rattle.board.specs.World.{World, world_after}

-- ---- the footprint of some blocks

abbrev pub Of : (Visit → ℕ → Type 0) → List Visit → WorldCell → Type 0
Of P vs = Touches (λ x. SomeBlock (λ v. P v x) vs) (λ n. SomeBlock (λ v. names v ≡ n) vs)

pub of_same : (P : Visit → ℕ → Type 0) {vs us : List Visit} → vs ≡ us → (c : WorldCell) → Of P vs c ↔ Of P us c
of_same P {vs} same c = subst (λ us. Of P vs c ↔ Of P us c) same Iff.rfl

-- A block and those after it.
one_more :
    (P : Visit → ℕ → Type 0) {us vs : List Visit} {v : Visit} → us ≡ v ∷ vs → (c : WorldCell) →
    Of P us c ↔ (Touches (P v) (λ n. names v ≡ n) c ⊎ Of P vs c)
one_more P {us} {vs} {v} are c = Iff.trans (of_same P are c) (split c)
  where
    split : (c : WorldCell) → Of P (v ∷ vs) c ↔ (Touches (P v) (λ n. names v ≡ n) c ⊎ Of P vs c)
    split (byte x) = Iff.rfl
    split (disk n) = Iff.rfl
    split events = (inl, λ always. tt)

-- ---- a chain

abbrev pub chain_on : ℕ → Count → ℕ → Step worlds Outcome
chain_on left tally at =
    record {
      out = λ w. end_of (fetched left tally at w);
      left = λ w. (fetched left tally at w).world;
      Reads = λ w. Of ReadsHost (visits left tally.blocks at w);
      Writes = λ w. Of WritesHost (visits left tally.blocks at w);
    }

-- One that fetches nothing.
abbrev pub NoBlock : WorldCell → Type 0
NoBlock = Touches (λ x. ⊥) (λ n. ⊥)

abbrev idle : Outcome → Step worlds Outcome
idle o = still worlds NoBlock (λ w. o)

idle_local : (o : Outcome) → Local worlds (idle o)
idle_local o = still_local worlds NoBlock (λ w. o) (λ w u agree. refl)

-- What follows a block that ended so.
abbrev following : ℕ → BlockAnswer → Bool → Count → ℕ → Step worlds Outcome
following k a linked tally at =
    record {
      out = λ w. end_of (follows a linked tally w (fetched k tally at w));
      left = λ w. (follows a linked tally w (fetched k tally at w)).world;
      Reads = λ w. Of ReadsHost (onwards a linked (visits k tally.blocks at w));
      Writes = λ w. Of WritesHost (onwards a linked (visits k tally.blocks at w));
    }

following_local :
    (k : ℕ) (a : BlockAnswer) (linked : Bool) (tally : Count) (at : ℕ) → Local worlds (chain_on k tally at) →
    Local worlds (following k a linked tally at)
following_local k (Err r) linked tally at rest = idle_local _
following_local k (Ok _) false tally at rest = idle_local _
following_local k (Ok _) true tally at rest = rest

-- A chain whose address is good is its block and then what follows.
module _ (k : ℕ) (tally : Count) (at : ℕ) where
  abbrev first : Step worlds Next
  first = working (block at tally.blocks)

  abbrev then_on : Next → Step worlds Outcome
  then_on o = following k o.answer o.linked (counted tally o.sectors) o.link

  goes_on : (w : World) → InMemory w.host at 28 → SameAt worlds (chain_on (suc k) tally at) (then first then_on) w
  unfolding world_after
  goes_on w good =
      let is = fetched_step k tally at w good in
      let all = visits_step k tally at w good in
      record { out = ap end_of is; left = ap (λ e. e.world) is; reads = one_more ReadsHost all; writes = one_more WritesHost all }

  bad_address : Outcome
  bad_address = ended_of RunAnswer.LinkBad 0 tally

  stops : (w : World) → (InMemory w.host at 28 → ⊥) → SameAt worlds (chain_on (suc k) tally at) (idle bad_address) w
  unfolding bad_address visits
  stops w bad =
      let is = fetched_bad (suc k) tally at w (omega arith) bad in
      let none = if_neg (in_memory? w.host at 28) bad _ _ in
      record { out = ap end_of is; left = ap (λ e. e.world) is; reads = of_same ReadsHost none; writes = of_same WritesHost none }

spent_local : (tally : Count) (at : ℕ) → Local worlds (chain_on zero tally at)
unfolding fetched visits
spent_local tally at = idle_local _

pub chain_local : (left : ℕ) (tally : Count) (at : ℕ) → Local worlds (chain_on left tally at)
chain_local zero tally at = spent_local tally at
chain_local (suc k) tally at =
    branch_local worlds (λ w. InMemory w.host at 28) (λ w. in_memory? w.host at 28) (chain_on (suc k) tally at)
    (then (first k tally at) (then_on k tally at)) (idle (bad_address k tally at))
    (λ w u agree. (
      λ good. range_same w.host u.host at 28 (ap (λ p. p.1) agree.shape) good,
      λ good. range_same u.host w.host at 28 (sym (ap (λ p. p.1) agree.shape)) good,
    ))
    (then_local worlds worlds_stable (first k tally at) (then_on k tally at) (block_is_local at tally.blocks)
    (λ o.
    following_local k o.answer o.linked (counted tally o.sectors) o.link
    (chain_local k (counted tally o.sectors) o.link)))
    (idle_local (bad_address k tally at)) (goes_on k tally at) (stops k tally at)
