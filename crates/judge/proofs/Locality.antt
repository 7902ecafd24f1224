-- Two host memories of one length that agree on the bytes read get the same verdict.
-- What a block asks looks at its UIB alone, and what is judged of it at its list, each where it is read.
use Rattle.std.proofs.Common.{None, Option, Some}
use Prim.Native.Nat.{ℕ, ◌*◌, ◌≤◌}
use mathlib.Core.List.{List}
use mathlib.Core.Logic.{by_cases}
use mathlib.Core.Path.{◌≡◌, sym, ap, subst, ◌∙◌}
use native.Mathlib.Decide.{ℕ_discrete}
use lib.Dec.{T}
use lib.ListN.{get_or, length}
use Rattle.answers.specs.declared.Refusal.{Refusal}
use Rattle.iopb.specs.declared.Block.{Block}
use Rattle.iopb.specs.Ask.{shape_at, task_of}
use Rattle.iopb.proofs.Answers.{shape_at_inside}
use Rattle.iopb.proofs.Locality.{asked_by_87, shape_local, task_apart}
use Rattle.memory.specs.Readable.{ListPlace}
use Rattle.request.specs.declared.Buffer.TheVariants.{List as Elements}
use Rattle.request.specs.declared.Move.{Move}
use Rattle.request.specs.declared.Task.{Task}
use Rattle.request.specs.declared.Task.TheVariants.{Move as Moves, Initialize}
use Rattle.wire.specs.Among.{Among}
use Rattle.wire.proofs.Decided.{test?}
use Rattle.wire.proofs.Promises.{never}
use Rattle.geometry.specs.declared.Geometry.{Geometry}
use Rattle.judge.specs.Asks.{checks_of}
use Rattle.judge.specs.Given.{Asked, on}
use Rattle.judge.specs.Reads.{InList, InUib}
use Rattle.judge.specs.Verdict.{verdict}
use Rattle.unit.specs.declared.Controller.{Controller}
use Rattle.unit.specs.Holding.{held_by_other}
use Rattle.unit.specs.Standing.{UnitRecord, holder}
use Rattle.judge.proofs.EachTask.{stopped_by_holder, verdict_local}
use Rattle.judge.specs.Passed.{NoneGiven, before, checks}

module _ (c : Controller) (u : UnitRecord) (image : ℕ) (h k : List ℕ) (long : length h ≡ length k) where
  -- ---- the verdict on a block

  module _ (b : Block) where
    abbrev asked_in : List ℕ → Asked
    asked_in host = on c u image (task_of host b) host

    module _
        (uib : (i : ℕ) → InUib (asked_in h) b.address 18 i → get_or h i 0 ≡ get_or k i 0)
        (list : (i : ℕ) → InList (asked_in h) i → get_or h i 0 ≡ get_or k i 0) where
      same_task : task_of h b ≡ task_of k b → verdict (asked_in h) ≡ verdict (asked_in k)
      same_task same = verdict_local c u image h k long (task_of h b) list ∙ ap (λ (t : Task). verdict (on c u image t k)) same

      -- An 87: where a check before its UIB refuses it the UIB is not looked at, and elsewhere it is where it can be.
      renewing : b.command ≡ 0x87 → verdict (asked_in h) ≡ verdict (asked_in k)
      unfolding verdict NoneGiven
      renewing is =
          let in_h = asked_by_87 h b is in
          let in_k = asked_by_87 k b is in
          let a = on c u image (Initialize (shape_at h b.address)) h in
          by_cases (test? (held_by_other c (holder u)))
          (λ held. ap (λ (t : Task). verdict (on c u image t h)) in_h ∙ stopped_by_holder a tt held
          ∙ sym (ap (λ (t : Task). verdict (on c u image t k)) in_k ∙ stopped_by_holder (on c u image (Initialize (shape_at k b.address)) k) tt held))
          (λ free.
          same_task
          (in_h
          ∙ ap Initialize
          (shape_local h k long b.address
          (λ place x among.
          uib x
          (record {
            shape = shape_at h b.address;
            asks = in_h;
            passed =
                subst (λ (t : Task). NoneGiven (before Refusal.UibOutsideLimits (checks (on c u image t h)))) (sym in_h)
                (rw (shape_at_inside h b.address place) (free, tt));
            among = among;
          })))
          ∙ sym in_k))

      pub block_local : verdict (asked_in h) ≡ verdict (asked_in k)
      block_local =
          by_cases (ℕ_discrete b.command 0x87) renewing (λ other. same_task (task_apart h k b other))

-- ---- what is read, and what is not

-- A UIB that lies in memory is read by an 87 on a drive that the other controller does not hold.
pub placed_uib_read :
    (a : Asked) (at bytes x : ℕ) (s : Option Geometry) (g : Geometry) → a.task ≡ Initialize s → s ≡ Some g →
    (T (held_by_other a.controller (holder a.unit)) → ⊥) → Among at bytes x → InUib a at bytes x
unfolding NoneGiven
placed_uib_read a at bytes x s g is given free among =
    record {
      shape = s;
      asks = is;
      passed = subst (λ (t : Task). NoneGiven (before Refusal.UibOutsideLimits (checks_of a t))) (sym (is ∙ ap Initialize given)) (free, tt);
      among = among;
    }

-- And one that is read lies in memory, on such a drive: a UIB that failed check 12 is not read.
pub read_uib_placed :
    (a : Asked) (at bytes x : ℕ) → InUib a at bytes x →
    ((g : Geometry) × (a.task ≡ Initialize (Some g))) × (T (held_by_other a.controller (holder a.unit)) → ⊥)
unfolding NoneGiven
read_uib_placed a at bytes x uib =
    by_shape uib.shape uib.asks (subst (λ (t : Task). NoneGiven (before Refusal.UibOutsideLimits (checks_of a t))) uib.asks uib.passed)
  where
    by_shape :
        (s : Option Geometry) → a.task ≡ Initialize s → NoneGiven (before Refusal.UibOutsideLimits (checks_of a (Initialize s))) →
        ((g : Geometry) × (a.task ≡ Initialize (Some g))) × (T (held_by_other a.controller (holder a.unit)) → ⊥)
    by_shape None is passed = absurd (passed.1.0 tt)
    by_shape (Some g) is passed = ((g, is), passed.0)

pub misplaced_uib_unread : (a : Asked) (at bytes x : ℕ) → a.task ≡ Initialize None → InUib a at bytes x → ⊥
misplaced_uib_unread a at bytes x is uib = let read = read_uib_placed a at bytes x uib in never (cc (is, read.0.1))

-- A list is read wherever it can be and no check before 18 refuses the block, whatever is then found in it.
pub refused_list_read :
    (a : Asked) (m : Move) (at n x : ℕ) → a.task ≡ Moves m → m.buffer ≡ Elements at n →
    NoneGiven (before Refusal.ListBad (checks a)) → 1 ≤ n → ListPlace a.host at n → Among at (8 * n) x → InList a x
refused_list_read a m at n x asks buffer passed some list among =
    record {
      move = m;
      asks = asks;
      at = at;
      elements = n;
      buffer = buffer;
      passed = passed;
      some = some;
      most = list.most;
      place = list.place;
      among = among;
    }
