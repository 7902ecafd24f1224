-- Bytes after the marks are not read by a block either: on two images that hold the same sectors and marks, in its record's geometry, it comes to the same
-- and leaves such images.
-- The judge asks whether an image is long enough, what is moved stands on the drive, and no other store reaches the image.
use Rattle.answers.specs.declared.Refusal.{Refusal}
use Rattle.std.proofs.Common.{Err, Ok, Result}
use Prim.Native.Nat.{ℕ, ◌+◌, ◌*◌}
use mathlib.Core.List.{List, [], ◌∷◌, ◌++◌}
use mathlib.Core.Path.{◌≡◌, refl, sym, ap, ◌∙◌}
use native.Mathlib.Omega.{arith}
use lib.ListN.{length}
use lib.IntN.{ℤ}
use Rattle.answers.specs.Numbers.{BlockAnswer, status_of}
use Rattle.geometry.specs.Drive.{need}
use Rattle.iopb.specs.Ask.{task_of}
use Rattle.iopb.specs.declared.Block.{Block}
use Rattle.iopb.specs.Errors.{error_byte}
use Rattle.iopb.specs.Layout.{block_at}
use Rattle.judge.specs.declared.Moving.{Moving}
use Rattle.judge.specs.declared.Moving.TheVariants.{Nothing, Sectors, Track}
use Rattle.judge.specs.declared.Plan.{Plan}
use Rattle.judge.specs.Fits.{MovingFits}
use Rattle.judge.specs.Given.{on}
use Rattle.judge.specs.Verdict.{verdict}
use Rattle.judge.proofs.LetThrough.{plan_fits}
use Rattle.judge.proofs.LongEnough.{long_enough_alike}
use Rattle.transfer.specs.Data.{data_on}
use Rattle.transfer.specs.SameSectors.{SameButPast, SameSectors}
use Rattle.transfer.specs.Stores.{after, bytes_from, event_byte, host_byte}
use Rattle.transfer.proofs.Marks.{StandsOnDrive, formatting_on_drive, moving_on_drive}
use Rattle.transfer.proofs.PastMarks.{Below, below_both, comes_alike, data_alike, data_below, events_below, host_below, leave_alike}
use Rattle.unit.specs.declared.Controller.{Controller}
use Rattle.unit.specs.Standing.{UnitRecord, cylinder, geometry}
use Rattle.block.specs.Block.{begun, data_byte, effect_on, finish, left_by, reported, transfer_of, travelled}
use Rattle.block.specs.Events.{entry}
use Rattle.block.specs.Steps.{acted_on, drive_with, finished, three}
use Rattle.block.proofs.Effects.{effect_finished, finished_by, reported_row}

-- The end of a block reaches word 1 and its entry.
finish_below : (n : ℕ) (b : Block) (at i : ℕ) (answer : BlockAnswer) (travel : ℤ) → Below n (finish b at i answer travel)
finish_below n b at i answer travel =
    below_both n (bytes_from host_byte (at + 2) (status_of answer ∷ error_byte answer ∷ [])) (bytes_from event_byte (8 * i) (entry b answer travel))
    (host_below n (at + 2) _) (events_below n (8 * i) (entry b answer travel))

-- What is moved, where it fits, stands on the drive.
pub moving_stands : (u : UnitRecord) (image : ℕ) (host : List ℕ) (m : Moving) → MovingFits u image host m → StandsOnDrive (transfer_of host u m)
moving_stands u image host Nothing fits = λ j less. absurd (omega arith)
moving_stands u image host (Sectors j) fits =
    moving_on_drive u j.to_host j.past_marks j.span.volume j.span.first j.span.count (data_byte host j.buffer) fits.span.inside
moving_stands u image host (Track spot at) fits = formatting_on_drive u spot at fits.track

pub moving_geometry : (u : UnitRecord) (host : List ℕ) (m : Moving) → (transfer_of host u m).geometry ≡ geometry u
moving_geometry u host Nothing = refl
moving_geometry u host (Sectors j) = refl
moving_geometry u host (Track spot at) = refl

module _
    (c : Controller) (host : List ℕ) (u : UnitRecord) (image other : List ℕ) (alike : SameSectors (geometry u) image other) (at i : ℕ) where
  verdict_on : List ℕ → Result Plan Refusal
  verdict_on im = verdict (on c u (length im) (task_of host (block_at host at)) host)

  one_verdict : verdict_on image ≡ verdict_on other
  unfolding verdict_on
  one_verdict = long_enough_alike c u (length image) (length other) host alike.long alike.other_long (task_of host (block_at host at))

  stands : (p : Plan) → verdict_on image ≡ Ok p → StandsOnDrive (transfer_of host u p.moving)
  unfolding verdict_on
  stands p is = moving_stands u (length image) host p.moving (plan_fits _ p is).moving

  same_sectors : (m : Moving) → SameSectors (transfer_of host u m).geometry image other
  same_sectors m = rw (moving_geometry u host m) alike

  one_performance : (v : Result Plan Refusal) → verdict_on image ≡ v → acted_on host (drive_with u image) at v ≡ acted_on host (drive_with u other) at v
  one_performance (Err r) is = refl
  one_performance (Ok p) is =
      let t = transfer_of host u p.moving in
      let comes = comes_alike t (stands p is) image other (same_sectors p.moving) in
      let moved = data_alike t (stands p is) image other (same_sectors p.moving) in
      λ k. record {
        stores = begun at ++ moved k ++ reported at p.report;
        unit = left_by u (comes k).sectors p.leaving;
        answer = (comes k).answer;
        sectors = (comes k).sectors;
        travel = travelled (cylinder u) p.leaving (cylinder (left_by u (comes k).sectors p.leaving));
      }

  pub one_effect : effect_on c host (drive_with u image) at i ≡ effect_on c host (drive_with u other) at i
  unfolding verdict_on
  one_effect =
      effect_finished c host (drive_with u image) at i
      ∙ ap (finished c (block_at host at) at i (verdict_on image)) (one_performance (verdict_on image) refl)
      ∙ ap (finished_by c host (drive_with u other) at i) one_verdict
      ∙ sym (effect_finished c host (drive_with u other) at i)

  -- No store of the block reaches a byte after the marks, or takes one from there.
  stores_below : (v : Result Plan Refusal) → verdict_on image ≡ v → Below (need (geometry u)) (acted_on host (drive_with u image) at v).stores
  stores_below (Err r) is = tt
  stores_below (Ok p) is =
      let t = transfer_of host u p.moving in
      let moved : Below (need (geometry u)) (data_on image t) = rw (moving_geometry u host p.moving) at (data_below image t (stands p is)) in
      let n = need (geometry u) in
      let words = reported_row at p.report in
      below_both n (begun at ++ data_on image t) (reported at p.report)
      (below_both n (begun at) (data_on image t) (host_below n (at + 2) (0x81 ∷ 0x00 ∷ [])) moved)
      (rw words.1.1 (host_below n words.0 words.1.0))

  pub left_alike :
      (events : List ℕ) → let stores = (effect_on c host (drive_with u image) at i).stores in
      SameButPast (geometry u) (after stores (three host image events)) (after stores (three host other events))
  unfolding verdict_on
  left_alike events =
      let p = acted_on host (drive_with u image) at (verdict_on image) in
      rw (effect_finished c host (drive_with u image) at i)
      (leave_alike (geometry u) _ (three host image events) (three host other events)
      (below_both (need (geometry u)) p.stores (finish (block_at host at) at i p.answer p.travel) (stores_below (verdict_on image) refl)
      (finish_below (need (geometry u)) (block_at host at) at i p.answer p.travel))
      (record { host = refl; events = refl; image = alike }))
