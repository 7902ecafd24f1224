-- What stands in a unit's table past the pairs that count is nothing to a block: it does the same whatever stands there, and leaves it alone, but for an 87 and an 85.
-- The verdict is the same, and so are the places of the sectors; of the record that is left an 87 has cleared the table, and an 85 has stored its pair.
use Rattle.answers.specs.declared.Refusal.{Refusal}
use Rattle.std.proofs.Common.{Err, Ok, Result}
use Prim.Native.Nat.{ℕ, ◌+◌, ◌%◌, ◌<◌}
use mathlib.Core.Bool.{Bool, false, not, ◌&&◌}
use mathlib.Core.List.{List, ◌++◌}
use mathlib.Core.Logic.{if_pos}
use mathlib.Core.Path.{◌≡◌, refl, sym, ap, ◌∙◌}
use native.Mathlib.Decide.{dec_lt}
use lib.ListN.{length}
use Rattle.answers.specs.Numbers.{BlockAnswer}
use Rattle.geometry.specs.declared.VolumeNumber.{VolumeNumber}
use Rattle.spares.specs.Lands.{counted}
use Rattle.spares.specs.Table.{with_pair}
use Rattle.iopb.specs.Ask.{task_of}
use Rattle.iopb.specs.Layout.{block_at}
use Rattle.judge.specs.declared.Leaving.{Leaving}
use Rattle.judge.specs.declared.Leaving.TheVariants.{AsItWas, HeadsAt, HeadsAtLastTried, Fresh, Mapped}
use Rattle.judge.specs.declared.Moving.{Moving}
use Rattle.judge.specs.declared.Moving.TheVariants.{Nothing, Sectors, Track}
use Rattle.judge.specs.declared.Plan.{Plan}
use Rattle.judge.specs.Fits.{LeavingFits}
use Rattle.judge.specs.Given.{Asked, on}
use Rattle.judge.specs.Verdict.{verdict}
use Rattle.judge.proofs.EachTask.{verdict_alike}
use Rattle.judge.proofs.LetThrough.{plan_fits}
use Rattle.transfer.specs.Data.{Transfer, data_on, moving, progress_on}
use Rattle.transfer.specs.Progress.{last_tried}
use Rattle.unit.specs.declared.Controller.{Controller}
use Rattle.unit.specs.declared.Spot.{Spot}
use Rattle.unit.specs.Landing.{spot_of}
use Rattle.unit.specs.Standing.{UnitRecord, by_value, cylinder, fresh, geometry, mapped, moved_to, no_tracks, pairs, table, unit_of}
use Rattle.unit.proofs.Alike.{spot_alike}
use Rattle.block.specs.Block.{Effect, begun, data_byte, effect_on, finish, held_after, holder_left, judged, left_by, performed, reported, transfer_of, travelled}
use Rattle.block.specs.Steps.{drive_with}

-- A way to write a table anew past the pairs that count, of which a block takes no notice.
pub record PastPairs (F : (pairs : ℕ) → List ℕ → List ℕ) : Type 0 where
  pub same : (n : ℕ) (ts : List ℕ) → length ts ≡ 64 → counted n (F n ts) ≡ counted n ts
  pub long : (n : ℕ) (ts : List ℕ) → length ts ≡ 64 → length (F n ts) ≡ 64
  pub cleared : F 0 no_tracks ≡ no_tracks
  pub added :
      (n : ℕ) (ts : List ℕ) (b s : ℕ) → length ts ≡ 64 → n < 32 → s % 256 ≡ 0 → F (n + 1) (with_pair n ts b s) ≡ with_pair n (F n ts) b s

-- A record with its table written anew so, and what a block comes to with the record that it leaves written anew.
abbrev pub past : (ℕ → List ℕ → List ℕ) → UnitRecord → UnitRecord
past F u = unit_of (by_value u) (F (pairs u) (table u))

abbrev pub past_effect : (ℕ → List ℕ → List ℕ) → Effect → Effect
past_effect F e = record { stores = e.stores; unit = past F e.unit; answer = e.answer; sectors = e.sectors }

module _ (F : ℕ → List ℕ → List ℕ) (p : PastPairs F) where
  -- Another holder is no matter of the table.
  ended_past : (c : Controller) (reserve : Bool) (answer : BlockAnswer) (u : UnitRecord) → held_after c reserve answer (past F u) ≡ past F (held_after c reserve answer u)
  ended_past c reserve (Ok _) u = refl
  ended_past c reserve (Err r) u = refl

  holder_past :
      (c : Controller) (reserve : Bool) (l : Leaving) (answer : BlockAnswer) (u : UnitRecord) →
      holder_left c reserve l answer (past F u) ≡ past F (holder_left c reserve l answer u)
  holder_past c reserve AsItWas answer u = refl
  holder_past c reserve (HeadsAt x) answer u = ended_past c reserve answer u
  holder_past c reserve (HeadsAtLastTried s) answer u = ended_past c reserve answer u
  holder_past c reserve (Fresh g) answer u = ended_past c reserve answer u
  holder_past c reserve (Mapped bad spare) answer u = ended_past c reserve answer u

  module _ (u : UnitRecord) (long : length (table u) ≡ 64) where
    same_pairs : counted (pairs u) (F (pairs u) (table u)) ≡ counted (pairs u) (table u)
    same_pairs = p.same (pairs u) (table u) long

    spot_past : (v : VolumeNumber) (n : ℕ) → spot_of (past F u) v n ≡ spot_of u v n
    spot_past v n = spot_alike (by_value u) (F (pairs u) (table u)) (table u) same_pairs v n

    -- The transfer is the same.
    moving_past :
        (to_host past_marks : Bool) (v : VolumeNumber) (first count : ℕ) (host_at : ℕ → ℕ) →
        moving (past F u) to_host past_marks v first count host_at ≡ moving u to_host past_marks v first count host_at
    moving_past to_host past_marks v first count host_at =
        λ i.
        record {
          geometry = geometry u;
          to_host = to_host;
          heeds = to_host && not past_marks;
          count = count;
          place = λ j. (spot_past v (first + j) i).place;
          host_at = host_at;
        }

    transfer_past : (host : List ℕ) (m : Moving) → transfer_of host (past F u) m ≡ transfer_of host u m
    transfer_past host Nothing = moving_past false false VolumeNumber.Zero 0 0 (λ k. 0)
    transfer_past host (Sectors j) =
        moving_past j.to_host j.past_marks j.span.volume j.span.first j.span.count (data_byte host j.buffer)
    transfer_past host (Track spot at) = refl

    -- What becomes of the record: an 87 clears the table, an 85 stores its pair, and nothing else touches it.
    left_past : (moved : ℕ) (l : Leaving) → LeavingFits u l → left_by (past F u) moved l ≡ past F (left_by u moved l)
    left_past moved AsItWas fits = refl
    left_past moved (HeadsAt c) fits = refl
    left_past moved (HeadsAtLastTried s) fits =
        ap (λ (x : Spot). moved_to (past F u) x.cylinder) (spot_past s.volume (s.first + last_tried moved s.count))
    left_past moved (Fresh g) fits = ap (unit_of (by_value (fresh g))) (sym p.cleared)
    left_past moved (Mapped bad spare) fits =
        ap (unit_of (by_value (mapped u bad spare)))
        (sym (p.added (pairs u) (table u) bad spare long fits.1.room fits.1.spare_on.last)
        ∙ ap (λ (n : ℕ). F n (with_pair (pairs u) (table u) bad spare)) (sym (if_pos (dec_lt (pairs u) 32) fits.1.room _ _)))

  module _ (c : Controller) (host : List ℕ) (u : UnitRecord) (image : List ℕ) (at i : ℕ) (long : length (table u) ≡ 64) where
    -- What a plan comes to with a transfer, and with the record that is left as it is before the holder changes.
    abbrev comes_to : Plan → Transfer → UnitRecord → Effect
    comes_to plan t left =
        let b = block_at host at in
        let made = progress_on image t in
        let travel = travelled (cylinder u) plan.leaving (cylinder left) in
        record {
          stores = begun at ++ data_on image t ++ reported at plan.report ++ finish b at i made.answer travel;
          unit = holder_left c b.options.reserve plan.leaving made.answer left;
          answer = made.answer;
          sectors = made.sectors;
        }

    performed_past :
        (plan : Plan) → LeavingFits u plan.leaving →
        performed c host (drive_with (past F u) image) at i plan ≡ past_effect F (performed c host (drive_with u image) at i plan)
    performed_past plan fits =
        let t = transfer_of host u plan.moving in
        let made = progress_on image t in
        let left = left_by u made.sectors plan.leaving in
        let e = performed c host (drive_with u image) at i plan in
        ap (λ (x : Transfer). comes_to plan x (left_by (past F u) (progress_on image x).sectors plan.leaving)) (transfer_past u long host plan.moving)
        ∙ ap (comes_to plan t) (left_past u long made.sectors plan.leaving fits)
        ∙ ap (λ (x : UnitRecord). record { stores = e.stores; unit = x; answer = e.answer; sectors = e.sectors })
        (holder_past c (block_at host at).options.reserve plan.leaving made.answer left)

    abbrev asked : Asked
    asked = on c u (length image) (task_of host (block_at host at)) host

    -- A block does the same, and the record that it leaves is the same, with its table written anew so.
    pub effect_past : effect_on c host (drive_with (past F u) image) at i ≡ past_effect F (effect_on c host (drive_with u image) at i)
    unfolding effect_on
    effect_past =
        ap (judged c host (drive_with (past F u) image) at i)
        (sym
        (verdict_alike c u (length image) host (F (pairs u) (table u)) (sym (same_pairs u long)) long (p.long (pairs u) (table u) long) asked.task))
        ∙ by_verdict (verdict asked) refl
      where
        by_verdict : (v : Result Plan Refusal) → verdict asked ≡ v → judged c host (drive_with (past F u) image) at i v ≡ past_effect F (judged c host (drive_with u image) at i v)
        by_verdict (Err r) is = refl
        by_verdict (Ok plan) is = performed_past plan (plan_fits asked plan is).leaving
