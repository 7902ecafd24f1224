-- A run by its checks: the first that fails answers, and where none does the chain runs.
-- Each check is a decision of the definition, taken one after the other.
use Prim.Native.Nat.{ℕ, ◌≤◌, ◌<◌}
use mathlib.Core.Logic.Dec
use mathlib.Core.Logic.{if_neg, if_pos}
use mathlib.Core.Path.{◌≡◌, ◌∙◌}
use native.Mathlib.Decide.{dec_le, dec_lt}
use native.Mathlib.Omega.{arith}
use lib.ListN.{length}
use Rattle.answers.specs.declared.RunAnswer.{RunAnswer}
use Rattle.wire.proofs.Decided.{in_memory?}
use Rattle.wire.specs.Memory.{InMemory}
use Rattle.board.specs.Chain.{ends, fetched, nothing, ran}
use Rattle.board.specs.World.{World}

module _ (first allowance : ℕ) (w : World) where
  pub ran_events_short : length w.events < 512 → ran first allowance w ≡ ends RunAnswer.EventsShort 0 nothing w
  unfolding ran
  ran_events_short short = if_pos (dec_lt (length w.events) 512) short _ _

  module _ (long : 512 ≤ length w.events) where
    pub ran_allowance_bad :
        ((1 ≤ allowance) × (allowance ≤ 64) → ⊥) → ran first allowance w ≡ ends RunAnswer.AllowanceBad 0 nothing w
    unfolding ran
    ran_allowance_bad bad =
        if_neg (dec_lt (length w.events) 512) (λ short. omega arith) _ _
        ∙ if_pos (Dec.not (Dec.and (dec_le 1 allowance) (dec_le allowance 64))) bad _ _

    module _ (good : (1 ≤ allowance) × (allowance ≤ 64)) where
      pub ran_first_bad : (InMemory w.host first 28 → ⊥) → ran first allowance w ≡ ends RunAnswer.FirstBad 0 nothing w
      unfolding ran
      ran_first_bad bad =
          if_neg (dec_lt (length w.events) 512) (λ short. omega arith) _ _
          ∙ if_neg (Dec.not (Dec.and (dec_le 1 allowance) (dec_le allowance 64))) (λ no-good. no-good good) _ _
          ∙ if_pos (Dec.not (in_memory? w.host first 28)) bad _ _

      pub ran_chain : InMemory w.host first 28 → ran first allowance w ≡ fetched allowance nothing first w
      unfolding ran
      ran_chain place =
          if_neg (dec_lt (length w.events) 512) (λ short. omega arith) _ _
          ∙ if_neg (Dec.not (Dec.and (dec_le 1 allowance) (dec_le allowance 64))) (λ no-good. no-good good) _ _
          ∙ if_neg (Dec.not (in_memory? w.host first 28)) (λ bad. bad place) _ _
