-- Answer 20 in its case: a transfer that heeds the marks stops before the first of its sectors whose mark is not 0, and where there is none it comes whole.
-- The sectors before the first such are passed over together; 20 is the one answer that a transfer can be stopped with.
use Rattle.std.proofs.Common.{Err, Ok}
use Prim.Native.Nat.{ℕ, zero, suc, ◌+◌, ◌<◌}
use mathlib.Core.Bool.{Bool, true, false, cond, not, false≢true}
use mathlib.Core.List.{List}
use mathlib.Core.Logic.{◌↔◌}
use mathlib.Core.Path.{◌≡◌, refl, sym, ap, ◌∙◌}
use native.Mathlib.Nat.{zero-add}
use native.Mathlib.Omega.{arith}
use borrow.Author.Tests.{eq-eqb, eqb-false, eqb-true, ne_eqb}
use lib.Dec.{eqb}
use lib.ListN.{get_or}
use Rattle.wire.proofs.Promises.{never}
use Rattle.answers.specs.Numbers.{BlockAnswer}
use Rattle.answers.specs.declared.Refusal.{Refusal}
use Rattle.geometry.specs.declared.Geometry.{Geometry}
use Rattle.geometry.specs.Sectors.{mark_byte}
use Rattle.transfer.specs.Data.{Transfer, progress_on}
use Rattle.transfer.specs.Runs.{stopped, whole}
use Rattle.transfer.specs.Progress.{progress, stops_at}
use Rattle.transfer.specs.Unreadable.{MeetsUnreadable, StopsBefore, mark_of}
use Rattle.transfer.proofs.Progress.{progress_counts, progress_moved, stops_at_lem}

-- The sector after those that were moved is the one that stopped a transfer, and its answer is 20.
stopped_there :
    (stops : ℕ → Bool) (j n : ℕ) (r : Refusal) →
    (progress stops j n).answer ≡ Err r → (stops (progress stops j n).sectors ≡ true) × (r ≡ Refusal.Unreadable)
unfolding progress
stopped_there stops j zero r is = absurd (never cc)
stopped_there stops j (suc n) r is = by_value (stops j) refl is (stopped_there stops (suc j) n r)
  where
    by_value :
        (f : Bool) → stops j ≡ f → (cond f (stopped j) (progress stops (suc j) n)).answer ≡ Err r →
        ((progress stops (suc j) n).answer ≡ Err r →
        (stops (progress stops (suc j) n).sectors ≡ true) × (r ≡ Refusal.Unreadable)) →
        (stops (cond f (stopped j) (progress stops (suc j) n)).sectors ≡ true) × (r ≡ Refusal.Unreadable)
    by_value false here is rest = rest is
    by_value true here is rest = (here, cc)

module _ (image : List ℕ) (g : Geometry) (place : ℕ) where
  abbrev mark : ℕ
  mark = get_or image (mark_byte g place) 0

  bad_mark : (zero? : Bool) → eqb mark 0 ≡ zero? → not zero? ≡ true → mark ≡ 0 → ⊥
  bad_mark true e same good = never cc
  bad_mark false e same good = eqb-false mark 0 e good

  good_mark : (zero? : Bool) → eqb mark 0 ≡ zero? → not zero? ≡ false → mark ≡ 0
  good_mark true e same = eqb-true mark 0 e
  good_mark false e same = absurd (never cc)

  stops_marked : (heeds : Bool) → stops_at image g heeds place ≡ true → (heeds ≡ true) × (mark ≡ 0 → ⊥)
  unfolding stops_at
  stops_marked true is = (refl, bad_mark (eqb mark 0) refl is)
  stops_marked false is = absurd (never cc)

  passes_good : stops_at image g true place ≡ false → mark ≡ 0
  unfolding stops_at
  passes_good is = good_mark (eqb mark 0) refl is

  good_passes : (heeds : Bool) → mark ≡ 0 → stops_at image g heeds place ≡ false
  unfolding stops_at
  good_passes true good = rw (eq-eqb mark 0 good)
  good_passes false good = refl

-- A transfer that is stopped has 20.
pub stopped_with :
    (image : List ℕ) (t : Transfer) (r : Refusal) → (progress_on image t).answer ≡ Err r → r ≡ Refusal.Unreadable
stopped_with image t r is = (stopped_there (λ j. stops_at image t.geometry t.heeds (t.place j)) 0 t.count r is).1

module _ (image : List ℕ) (t : Transfer) where
  abbrev stops : ℕ → Bool
  stops j = stops_at image t.geometry t.heeds (t.place j)

  -- "At a non-zero mark they stop before that sector": the sectors moved are those before the first unreadable one.
  pub stops_before_the_first : (j : ℕ) → StopsBefore image t j → progress_on image t ≡ stopped j
  unfolding stops_at
  stops_before_the_first j first =
      rw zero-add at
      (stops_at_lem stops 0 j t.count first.there
      (λ i i<. rw zero-add (good_passes image t.geometry (t.place i) t.heeds (first.good i i<)))
      (rw (zero-add, first.heeds, ne_eqb (mark_of image t j) 0 first.bad) refl))

  -- The sector before which a transfer stops is the first unreadable one.
  pub stopped_before : (progress_on image t).answer ≡ Err Refusal.Unreadable → StopsBefore image t (progress_on image t).sectors
  stopped_before is =
      let s = (progress_on image t).sectors in
      let stop = stops_marked image t.geometry (t.place s) t.heeds (stopped_there stops 0 t.count Refusal.Unreadable is).0 in
      let short : s < 0 + t.count = rw is at (progress_counts stops 0 t.count).1 in
      record {
        heeds = stop.0;
        there = rw zero-add at short;
        bad = stop.1;
        good = λ j j<.
            passes_good image t.geometry (t.place j)
            (rw stop.0 at (progress_moved stops 0 t.count j (omega arith) j<));
      }

  -- Where none of the sectors is unreadable, or the marks are not heeded, it comes whole.
  pub whole_where_readable :
      (MeetsUnreadable image t → ⊥) → progress_on image t ≡ whole t.count
  whole_where_readable none = by_answer (progress_on image t).answer refl
    where
      by_answer : (x : BlockAnswer) → (progress_on image t).answer ≡ x → progress_on image t ≡ whole t.count
      by_answer (Ok _) is =
          let all : (progress_on image t).sectors ≡ t.count = rw (is, zero-add) at (progress_counts stops 0 t.count).1 in
          λ i. record { sectors = all i; answer = is i }
      by_answer (Err r) is =
          let first = stopped_before (is ∙ ap (λ (x : Refusal). Err x) (stopped_with image t r is)) in
          absurd (none (record { heeds = first.heeds; sector = _; there = first.there; bad = first.bad }))

  -- So 20 is the answer exactly where the transfer heeds the marks and one of its sectors is unreadable.
  pub unreadable_exactly : ((progress_on image t).answer ≡ Err Refusal.Unreadable) ↔ MeetsUnreadable image t
  unreadable_exactly = (
    λ is. let first = stopped_before is in record { heeds = first.heeds; sector = _; there = first.there; bad = first.bad },
    λ meets. by_answer meets (progress_on image t).answer refl,
  )
    where
      by_answer :
          MeetsUnreadable image t → (x : BlockAnswer) → (progress_on image t).answer ≡ x →
          (progress_on image t).answer ≡ Err Refusal.Unreadable
      by_answer meets (Ok _) is =
          let all : (progress_on image t).sectors ≡ t.count = rw (is, zero-add) at (progress_counts stops 0 t.count).1 in
          absurd
          (meets.bad
          (passes_good image t.geometry (t.place meets.sector)
          (rw meets.heeds at (progress_moved stops 0 t.count meets.sector (omega arith) (omega (arith, all, meets.there))))))
      by_answer meets (Err r) is = is ∙ ap (λ (x : Refusal). Err x) (stopped_with image t r is)

  -- 82, A2 and 8C "ignore marks": a transfer that does not heed them comes whole.
  pub whole_unheeding : t.heeds ≡ false → progress_on image t ≡ whole t.count
  whole_unheeding ignores = whole_where_readable (λ meets. false≢true (sym ignores ∙ meets.heeds))
