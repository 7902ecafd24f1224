-- A run is a local step on its world: it is a chain where its three checks are passed, and does nothing where they are not.
-- Which it is, and the answer of a run that is refused, go by the lengths of the event buffer and of host memory.
use Prim.Native.Nat.{ℕ}
use mathlib.Core.List.{[]}
use mathlib.Core.Logic.Dec
use mathlib.Core.Logic.{by_cases, if_neg, if_pos, ite}
use mathlib.Core.Path.{◌≡◌, sym, ◌∙◌, ap}
use native.Mathlib.Decide.{dec_le, dec_lt}
use native.Mathlib.Omega.{arith}
use lib.ListN.{length}
use Rattle.board.specs.declared.chain.Outcome.{Outcome}
use Rattle.wire.proofs.Memory.{range_same}
use Rattle.answers.specs.declared.RunAnswer.{RunAnswer}
use Rattle.board.specs.Ends.{end_of, ended_of}
use Rattle.board.specs.Chain.{nothing, ran}
use Rattle.board.proofs.Runs.{ran_allowance_bad, ran_chain, ran_events_short, ran_first_bad}
use Rattle.demands.specs.Footprint.{ReadsHost, WritesHost}
use Rattle.demands.specs.Visits.{Passes, fetched_by, passes?, visits}
use Rattle.demands.proofs.RunAnswers.{not_passed}
use Rattle.independence.specs.Chains.{Chain, run_on}
use Rattle.independence.specs.Local.{Local, Step}
use Rattle.independence.specs.Worlds.{events, worlds}
use Rattle.independence.proofs.Branches.{SameAt, branch_local, still, still_local}
use Rattle.independence.proofs.Followed.{NoBlock, chain_local, chain_on, of_same}
use Rattle.board.specs.World.{World}

module _ (chain : Chain) where
  abbrev first : ℕ
  first = chain.first

  abbrev allowance : ℕ
  allowance = chain.allowance

  -- A run whose checks are passed is its chain.
  as_chain : (w : World) → Passes first allowance w → SameAt worlds (run_on chain) (chain_on allowance nothing first) w
  unfolding fetched_by
  as_chain w p =
      let is = ran_chain first allowance w p.events (p.least, p.most) p.place in
      let all : fetched_by first allowance w ≡ visits allowance 0 first w = if_pos (passes? first allowance w) p _ _ in
      record { out = ap end_of is; left = ap (λ e. e.world) is; reads = of_same ReadsHost all; writes = of_same WritesHost all }

  -- One that is refused does nothing.
  refused_with : RunAnswer → Outcome
  refused_with a = ended_of a 0 nothing

  abbrev answer_for : ℕ → Outcome
  answer_for long =
      ite (dec_lt long 512) (refused_with RunAnswer.EventsShort)
      (ite (Dec.not (Dec.and (dec_le 1 allowance) (dec_le allowance 64))) (refused_with RunAnswer.AllowanceBad)
      (refused_with RunAnswer.FirstBad))

  abbrev refusal : Step worlds Outcome
  refusal = still worlds NoBlock (λ w. answer_for (length w.events))

  refused_out : (w : World) → (Passes first allowance w → ⊥) → end_of (ran first allowance w) ≡ answer_for (length w.events)
  unfolding refused_with
  refused_out w refused =
      by_cases (dec_lt (length w.events) 512)
      (λ short. ap end_of (ran_events_short first allowance w short) ∙ sym (if_pos (dec_lt (length w.events) 512) short _ _))
      (λ long.
      let no_short = if_neg (dec_lt (length w.events) 512) long _ _ in
      by_cases (Dec.and (dec_le 1 allowance) (dec_le allowance 64))
      (λ good.
      ap end_of (ran_first_bad first allowance w (omega (arith, long)) good
      (λ place. refused (record { events = omega (arith, long); least = good.0; most = good.1; place = place }))) ∙
      sym (no_short ∙ if_neg (Dec.not (Dec.and (dec_le 1 allowance) (dec_le allowance 64))) (λ bad. bad good) _ _))
      (λ bad.
      ap end_of (ran_allowance_bad first allowance w (omega (arith, long)) bad) ∙
      sym (no_short ∙ if_pos (Dec.not (Dec.and (dec_le 1 allowance) (dec_le allowance 64))) bad _ _)))

  as_refusal : (w : World) → (Passes first allowance w → ⊥) → SameAt worlds (run_on chain) refusal w
  unfolding fetched_by
  as_refusal w refused =
      let none : fetched_by first allowance w ≡ [] = if_neg (passes? first allowance w) refused _ _ in
      record {
        out = refused_out w refused;
        left = not_passed first allowance w refused;
        reads = of_same ReadsHost none;
        writes = of_same WritesHost none;
      }

  passes_alike :
      (w u : World) → length w.host ≡ length u.host → length w.events ≡ length u.events → Passes first allowance w →
      Passes first allowance u
  passes_alike w u long room p =
      record {
        events = omega (arith, room, p.events);
        least = p.least;
        most = p.most;
        place = range_same w.host u.host first 28 long p.place;
      }

  pub run_is_local : Local worlds (run_on chain)
  run_is_local =
      branch_local worlds (Passes first allowance) (passes? first allowance) (run_on chain) (chain_on allowance nothing first) refusal
      (λ w u agree.
      let long = ap length (agree.cells events tt) in
      let memory = ap (λ p. p.1) agree.shape in
      (passes_alike w u memory long, passes_alike u w (sym memory) (sym long)))
      (chain_local allowance nothing first)
      (still_local worlds NoBlock (λ w. answer_for (length w.events))
      (λ w u agree. ap (λ e. answer_for (length e)) (agree.cells events tt)))
      as_chain as_refusal
