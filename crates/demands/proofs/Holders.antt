-- Who holds a drive after a block (02, K10): "RV on a successful block takes or keeps the drive; a successful block without RV gives it up; 86 does
-- neither. .. A failed block leaves the holder as it was." What is left is told by the plan, and only 86's leaves the record as it was.
use Rattle.std.proofs.Common.{Err, None, Ok, Result, Some}
use mathlib.Core.Logic.{⊎_elim}
use mathlib.Core.Path.{◌≡◌, refl, ap, ◌∙◌}
use Rattle.answers.specs.Numbers.{BlockAnswer}
use Rattle.answers.specs.declared.Refusal.{Refusal}
use Rattle.iopb.specs.Ask.{task_of}
use Rattle.judge.specs.declared.Leaving.{Leaving}
use Rattle.judge.specs.declared.Leaving.TheVariants.{AsItWas}
use Rattle.judge.specs.declared.Plan.{Plan}
use Rattle.judge.specs.Plans.{plan_of}
use Rattle.judge.specs.Given.{on}
use Rattle.judge.specs.Verdict.{verdict}
use Rattle.judge.proofs.LetThrough.{own_plan}
use Rattle.judge.proofs.Table.{only_86_identifies}
use Rattle.judge.proofs.Tasks.{handshake, own_unless_held, shape_misplaced, unknown}
use Rattle.request.specs.declared.Task.{Task}
use Rattle.transfer.specs.Progress.{progress}
use Rattle.unit.specs.Holding.{reserved_by}
use Rattle.unit.specs.Standing.{UnitRecord, holder}
use Rattle.wire.proofs.Promises.{never}
use Rattle.block.specs.Block.{Effect}
use Rattle.block.specs.Steps.{acted_on}
use Rattle.demands.specs.Footprint.{asked_of, leaving_of, named_drive, verdict_of}
use Rattle.demands.specs.Visits.{Visit, block_of, effect_of}
use Rattle.demands.proofs.Keeps.{left_then, unit_left}
use Rattle.demands.proofs.Written.{effect_is}

module _ (v : Visit) where
  abbrev u : UnitRecord
  u = (named_drive v).unit

  -- The holder that is left, by what becomes of the record.
  left_holder : (l : Leaving) → leaving_of (verdict_of v) ≡ l → holder (effect_of v).unit ≡ holder (left_then v (effect_of v).answer (effect_of v).sectors l)
  left_holder l is =
      ap (λ (u : UnitRecord). holder u) (unit_left v ∙ ap (left_then v (effect_of v).answer (effect_of v).sectors) is)

  answered : (x : Result Plan Refusal) → verdict_of v ≡ x → (effect_of v).answer ≡ (acted_on v.world.host (named_drive v) v.at x).answer
  answered x is =
      ap (λ (e : Effect). e.answer) (effect_is v) ∙ ap (λ (x : Result Plan Refusal). (acted_on v.world.host (named_drive v) v.at x).answer) is

  as_task : (t : Task) → (asked_of v).task ≡ t → verdict_of v ≡ verdict (on v.world.controller u (asked_of v).image t v.world.host)
  as_task t is = ap (λ (t : Task). verdict (on v.world.controller u (asked_of v).image t v.world.host)) is

  -- A failed block leaves the holder as it was,
  pub failed_keeps_holder : (r : Refusal) → (effect_of v).answer ≡ Err r → holder (effect_of v).unit ≡ holder u
  unfolding progress
  failed_keeps_holder r failed = by_verdict (verdict_of v) refl
    where
      with_answer : (l : Leaving) → leaving_of (verdict_of v) ≡ l → holder (effect_of v).unit ≡ holder (left_then v (Err r) (effect_of v).sectors l)
      with_answer l is = left_holder l is ∙ ap (λ (answer : BlockAnswer). holder (left_then v answer (effect_of v).sectors l)) failed

      by_task : (p : Plan) → verdict_of v ≡ Ok p → (t : Task) → p ≡ plan_of u t → holder (effect_of v).unit ≡ holder u
      by_task p so Task.Unknown is = with_answer AsItWas (ap leaving_of so ∙ ap (λ (p : Plan). p.leaving) is)
      by_task p so (Task.Move m) is = with_answer _ (ap leaving_of so ∙ ap (λ (p : Plan). p.leaving) is)
      by_task p so Task.Handshake is = with_answer AsItWas (ap leaving_of so ∙ ap (λ (p : Plan). p.leaving) is)
      by_task p so (Task.Initialize None) is = with_answer AsItWas (ap leaving_of so ∙ ap (λ (p : Plan). p.leaving) is)
      by_task p so (Task.Initialize (Some g)) is =
          let ended : (effect_of v).answer ≡ (Ok tt) = answered _ (so ∙ ap Ok is) in
          absurd (never (cc (ended, failed)))
      by_task p so Task.Restore is = with_answer _ (ap leaving_of so ∙ ap (λ (p : Plan). p.leaving) is)
      by_task p so (Task.Seek t) is = with_answer _ (ap leaving_of so ∙ ap (λ (p : Plan). p.leaving) is)
      by_task p so (Task.Format k) is = with_answer _ (ap leaving_of so ∙ ap (λ (p : Plan). p.leaving) is)
      by_task p so (Task.Map k) is = with_answer _ (ap leaving_of so ∙ ap (λ (p : Plan). p.leaving) is)

      by_verdict : (x : Result Plan Refusal) → verdict_of v ≡ x → holder (effect_of v).unit ≡ holder u
      by_verdict (Err q) so = with_answer AsItWas (ap leaving_of so)
      by_verdict (Ok p) so = by_task p so (asked_of v).task (own_plan (asked_of v) p so)

  -- and so does a handshake.
  pub handshake_keeps_holder : (block_of v).command ≡ 0x86 → holder (effect_of v).unit ≡ holder u
  unfolding task_of
  handshake_keeps_holder is =
      let task : (asked_of v).task ≡ Task.Handshake = rw is in
      left_holder AsItWas (ap leaving_of (as_task _ task ∙ handshake v.world.controller u (asked_of v).image v.world.host))

  -- Every other that succeeds takes or keeps the drive with RV, and gives it up without.
  pub ended_reserves :
      (effect_of v).answer ≡ Ok tt → ((block_of v).command ≡ 0x86 → ⊥) →
      holder (effect_of v).unit ≡ reserved_by v.world.controller (block_of v).options.reserve
  ended_reserves ended other = by_verdict (verdict_of v) refl
    where
      with_answer : (l : Leaving) → leaving_of (verdict_of v) ≡ l → holder (effect_of v).unit ≡ holder (left_then v (Ok tt) (effect_of v).sectors l)
      with_answer l is = left_holder l is ∙ ap (λ (answer : BlockAnswer). holder (left_then v answer (effect_of v).sectors l)) ended

      not_refused : (r : Refusal) → verdict_of v ≡ Err r → ⊥
      not_refused r so =
          let failed : (effect_of v).answer ≡ Err r = answered (Err r) so in
          never (cc (ended, failed))

      by_task :
          (p : Plan) → verdict_of v ≡ Ok p → (t : Task) → (asked_of v).task ≡ t → p ≡ plan_of u t →
          holder (effect_of v).unit ≡ reserved_by v.world.controller (block_of v).options.reserve
      by_task p so Task.Unknown task is = absurd (not_refused _ (as_task _ task ∙ unknown _ _ _ _))
      by_task p so Task.Handshake task is = absurd (other (only_86_identifies u v.world.host (block_of v) (ap (λ (t : Task). (plan_of u t).report) task)))
      by_task p so (Task.Initialize None) task is =
          absurd
          (⊎_elim (λ held. not_refused _ (as_task _ task ∙ held)) (λ own. not_refused _ (as_task _ task ∙ own ∙ shape_misplaced _ _ _ _))
          (own_unless_held v.world.controller u (asked_of v).image v.world.host (Task.Initialize None) tt))
      by_task p so (Task.Initialize (Some g)) task is = with_answer _ (ap leaving_of so ∙ ap (λ (p : Plan). p.leaving) is)
      by_task p so (Task.Move m) task is = with_answer _ (ap leaving_of so ∙ ap (λ (p : Plan). p.leaving) is)
      by_task p so Task.Restore task is = with_answer _ (ap leaving_of so ∙ ap (λ (p : Plan). p.leaving) is)
      by_task p so (Task.Seek t) task is = with_answer _ (ap leaving_of so ∙ ap (λ (p : Plan). p.leaving) is)
      by_task p so (Task.Format k) task is = with_answer _ (ap leaving_of so ∙ ap (λ (p : Plan). p.leaving) is)
      by_task p so (Task.Map k) task is = with_answer _ (ap leaving_of so ∙ ap (λ (p : Plan). p.leaving) is)

      by_verdict :
          (x : Result Plan Refusal) → verdict_of v ≡ x → holder (effect_of v).unit ≡ reserved_by v.world.controller (block_of v).options.reserve
      by_verdict (Err r) so = absurd (not_refused r so)
      by_verdict (Ok p) so = by_task p so (asked_of v).task refl (own_plan (asked_of v) p so)
