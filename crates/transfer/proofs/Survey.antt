-- A survey run by run: what is left to come decides, once all sectors so far are moved.
-- A run that comes to its end leads on; one that is stopped stops the whole.
use Rattle.std.proofs.Common.{Err, Ok}
use Prim.Native.Nat.{ℕ, ◌+◌, ◌-◌, ◌≤◌, ◌<◌}
use mathlib.Core.Bool.{Bool}
use mathlib.Core.List.{List}
use mathlib.Core.Path.{◌≡◌, sym, ap, ◌∙◌}
use native.Mathlib.Nat.{add_assoc, add-zero, sub-add-eq, sub-zero, zero-add}
use native.Mathlib.Omega.{arith}
use Rattle.answers.specs.declared.Refusal.{Refusal}
use Rattle.geometry.specs.declared.VolumeNumber.{VolumeNumber}
use Rattle.unit.specs.Landing.{spot_of}
use Rattle.unit.specs.Standing.{UnitRecord, geometry}
use Rattle.transfer.specs.declared.Moved.{Moved}
use Rattle.transfer.specs.Progress.{Progress, progress, stops_at}
use Rattle.transfer.specs.Runs.{Advanced, progress_from, reached, place_from}
use Rattle.transfer.proofs.Progress.{leads_on, progress_counts, progress_most, progress_same, progress_shift, progress_then}

module _ (image : List ℕ) (u : UnitRecord) (v : VolumeNumber) (first count : ℕ) (heeds : Bool) where
  abbrev stops : ℕ → Bool
  stops j = stops_at image (geometry u) heeds (place_from u v first j)

  -- Where a survey stands: `done` sectors are moved.
  pub record Surveying (done : ℕ) : Type 0 where
    pub most : done ≤ count
    pub so_far : progress_from image u v heeds first count ≡ progress stops done (count - done)

  pub survey_begins : Surveying 0
  survey_begins = record { most = omega arith; so_far = rw sub-zero }

  module _ (done : ℕ) (now : Surveying done) where
    module _ (m : Moved) (a : Advanced image u v (first + done) (count - done) heeds m) where
      here : progress stops done a.run ≡ record { sectors = done + m.sectors; answer = m.answer }
      here =
          rw add-zero at (progress_shift stops done 0 a.run)
          ∙ ap (λ (p : Progress). record { sectors = done + p.sectors; answer = p.answer })
          (progress_same (λ i. stops (done + i)) _ 0 a.run
          (λ i h. ap (λ (n : ℕ). stops_at image (geometry u) heeds (spot_of u v n).place) (sym (add_assoc first done (0 + i))))
          ∙ a.comes)

      onward :
          progress_from image u v heeds first count ≡
          leads_on m.answer (record { sectors = done + m.sectors; answer = m.answer })
          (progress stops (done + a.run) (count - done - a.run))
      onward =
          let parts : count - done ≡ a.run + (count - done - a.run) = omega (arith, a.asked) in
          now.so_far
          ∙ ap (λ (n : ℕ). progress stops done n) parts
          ∙ rw here at (progress_then stops done a.run (count - done - a.run))

      pub advanced_most : done + m.sectors ≤ count
      advanced_most =
          let most : m.sectors ≤ 0 + a.run =
          rw a.comes at (progress_most (λ j. stops_at image (geometry u) heeds (place_from u v (first + done) j)) 0 a.run) in
          omega (arith, a.asked, now.most)

      -- A run that is stopped: the whole is stopped there.
      pub survey_stopped :
          (r : Refusal) → m.answer ≡ Err r →
          record { sectors = done + m.sectors; answer = Err r } ≡
          reached (progress_from image u v heeds first count)
      survey_stopped r stopped = ap reached (sym (rw stopped at onward))

      -- A run that came to its end: all of it is moved.
      every : m.answer ≡ Ok tt → m.sectors ≡ a.run
      every ended =
          rw (zero-add, a.comes, ended) at (progress_counts (λ j. stops_at image (geometry u) heeds (place_from u v (first + done) j)) 0 a.run).1

      pub survey_grows : m.answer ≡ Ok tt → 0 < m.sectors
      survey_grows ended = omega (arith, every ended, a.some)

      pub survey_on : m.answer ≡ Ok tt → Surveying (done + m.sectors)
      survey_on ended = record { most = advanced_most; so_far = rw (every ended, sub-add-eq) (rw ended at onward) }

    -- All sectors are moved.
    pub survey_ends :
        count ≤ done →
        record { sectors = done; answer = (Ok tt) } ≡ reached (progress_from image u v heeds first count)
    unfolding progress
    survey_ends all =
        let none : count - done ≡ 0 = omega arith in
        ap reached (sym (rw none at now.so_far))
