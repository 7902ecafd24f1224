-- A pair added to a good table: the table stays good, the pair serves its bad track, and what serves any other track is as before.
-- The two tracks stand at the end, so that every place before them is as it was.
use Rattle.std.proofs.Common.{Some}
use Prim.Native.Nat.{ℕ, zero, suc, ◌+◌, ◌*◌, ◌≤◌, ◌<◌, min}
use mathlib.Core.List.{List}
use mathlib.Core.Logic.{by_cases, if_pos}
use mathlib.Core.Path.{◌≡◌, sym, ap, subst, ◌∙◌}
use native.Mathlib.Decide.{dec_lt}
use native.Mathlib.Nat.{add-zero, min-eq_left, zero-add}
use native.Mathlib.Numerals.{add-one}
use native.Mathlib.Omega.{arith}
use lib.ListN.{get_or, length, length-set, set}
use lib.Seq.{get_or-set_other, get_or-set_same}
use Rattle.geometry.specs.declared.Geometry.{Geometry}
use Rattle.spares.specs.Table.{Free, Good, bad_of, served_from, spare_of, with_pair}
use Rattle.spares.specs.Tracks.{TrackOn, stands_for}
use Rattle.spares.proofs.Laws.{served_by_its_spare, serves_first, serves_later, serves_none}
use Rattle.spares.specs.Lands.{Serves, serves?, served, InTable}

module _ (g : Geometry) (t : ℕ) where
  -- A last pair that does not serve a track is nothing to it.
  without_the_last : (ts : List ℕ) (i n : ℕ) → (Serves g ts (i + n) t → ⊥) → served_from g ts i (suc n) t ≡ served_from g ts i n t
  without_the_last ts i zero not_it =
      serves_later g ts t i 0 (λ it. not_it (subst (λ (x : ℕ). Serves g ts x t) (sym (add-zero i)) it)) ∙ serves_none g ts t (suc i) ∙
      sym (serves_none g ts t i)
  without_the_last ts i (suc n) not_it =
      by_cases (serves? g ts i t) (λ it. serves_first g ts t i (suc n) it ∙ sym (serves_first g ts t i n it))
      (λ no-first.
      let next : suc i + n ≡ i + suc n = omega arith in
      serves_later g ts t i (suc n) no-first ∙
      without_the_last ts (suc i) n (λ it. not_it (subst (λ (x : ℕ). Serves g ts x t) next it)) ∙
      sym (serves_later g ts t i n no-first))

  -- Two tables with the same tracks in the same places serve alike.
  pub serve_alike :
      (ts us : List ℕ) (i n : ℕ) → ((j : ℕ) → j < 2 * (i + n) → get_or ts j 0 ≡ get_or us j 0) → served_from g ts i n t ≡ served_from g us i n t
  serve_alike ts us i zero same = serves_none g ts t i ∙ sym (serves_none g us t i)
  serve_alike ts us i (suc n) same =
      let spares = same (2 * i + 1) (omega arith) in
      let bads = same (2 * i) (omega arith) in
      by_cases (serves? g ts i t)
      (λ it.
      serves_first g ts t i n it ∙ ap (λ (x : ℕ). Some (stands_for x)) spares ∙
      sym (serves_first g us t i n (record { bad = sym bads ∙ it.bad; on = subst (TrackOn g) spares it.on })))
      (λ not_it.
      serves_later g ts t i n not_it ∙ serve_alike ts us (suc i) n (λ j less. same j (omega arith)) ∙
      sym (serves_later g us t i n (λ it. not_it (record { bad = bads ∙ it.bad; on = subst (TrackOn g) (sym spares) it.on }))))

module _ (n : ℕ) (ts : List ℕ) (b s : ℕ) (room : n < 32) (long : length ts ≡ 64) where
  -- With room the pair stands in its place.
  stored : with_pair n ts b s ≡ set (set ts (2 * n) b) (2 * n + 1) s
  stored = if_pos (dec_lt n 32) room _ _

  pub long_still : length (with_pair n ts b s) ≡ 64
  long_still = ap length stored ∙ simp length-set long

  -- Beside it the table is as it was.
  pub beside_the_pair : (i : ℕ) → (i ≡ 2 * n → ⊥) → (i ≡ 2 * n + 1 → ⊥) → get_or (with_pair n ts b s) i 0 ≡ get_or ts i 0
  beside_the_pair i not_bad not_spare =
      ap (λ (l : List ℕ). get_or l i 0) stored ∙ get_or-set_other (set ts (2 * n) b) (2 * n + 1) i s 0 not_spare ∙ get_or-set_other ts (2 * n) i b 0 not_bad

  pub before_the_pair : (i : ℕ) → i < 2 * n → get_or (with_pair n ts b s) i 0 ≡ get_or ts i 0
  before_the_pair i less = beside_the_pair i (λ same. omega arith) (λ same. omega arith)

  pub its_bad : bad_of (with_pair n ts b s) n ≡ b
  its_bad =
      ap (λ (l : List ℕ). get_or l (2 * n) 0) stored ∙ get_or-set_other (set ts (2 * n) b) (2 * n + 1) (2 * n) s 0 (λ same. omega arith) ∙
      get_or-set_same ts (2 * n) b 0 (omega arith)

  pub its_spare : spare_of (with_pair n ts b s) n ≡ s
  its_spare =
      ap (λ (l : List ℕ). get_or l (2 * n + 1) 0) stored ∙
      get_or-set_same (set ts (2 * n) b) (2 * n + 1) s 0 (omega (arith, length-set ts (2 * n) b))

  module _ (g : Geometry) where
    -- What a place of the table holds now: what it held, or one of the two.
    data Place (i : ℕ) : Type 0 where
      earlier : i < 2 * n → get_or (with_pair n ts b s) i 0 ≡ get_or ts i 0 → Place i
      bad : i ≡ 2 * n → get_or (with_pair n ts b s) i 0 ≡ b → Place i
      spare : i ≡ 2 * n + 1 → get_or (with_pair n ts b s) i 0 ≡ s → Place i

    place : (i : ℕ) → i < 2 * (n + 1) → Place i
    place i less =
        by_cases (dec_lt i (2 * n)) (λ before. earlier before (before_the_pair i before))
        (λ past.
        by_cases (dec_lt (2 * n) i) (λ last. let here : i ≡ 2 * n + 1 = omega arith in spare here (rw here its_spare))
        (λ first. let here : i ≡ 2 * n = omega arith in bad here (rw here its_bad)))

    module _
        (good : Good g n ts) (bad_on : TrackOn g b) (spare_on : TrackOn g s) (free : Free n ts b s) where
      all_count : min n 32 ≡ n
      all_count = min-eq_left (omega arith)

      new : (x : ℕ) → (InTable n ts x → ⊥) → (i : ℕ) → i < 2 * n → get_or ts i 0 ≡ x → ⊥
      new x not_in i less is = not_in (record { at = i; less = omega (arith, all_count); here = is })

      pub stays_good : Good g (n + 1) (with_pair n ts b s)
      stays_good =
          record {
            long = long_still;
            room = omega arith;
            on = λ i less. on_drive i (place i less);
            once = λ i j less j-in same. apart i j less (place i (omega arith)) (place j j-in) same;
          }
        where
          on_drive : (i : ℕ) → Place i → TrackOn g (get_or (with_pair n ts b s) i 0)
          on_drive i (earlier before is) = subst (TrackOn g) (sym is) (good.on i before)
          on_drive i (bad here is) = subst (TrackOn g) (sym is) bad_on
          on_drive i (spare here is) = subst (TrackOn g) (sym is) spare_on

          apart : (i j : ℕ) → i < j → Place i → Place j → get_or (with_pair n ts b s) i 0 ≡ get_or (with_pair n ts b s) j 0 → ⊥
          apart i j less (earlier i-in is) (earlier j-in js) same = good.once i j less j-in (sym is ∙ same ∙ js)
          apart i j less (earlier i-in is) (bad here js) same = new b free.bad_new i i-in (sym is ∙ same ∙ js)
          apart i j less (earlier i-in is) (spare here js) same = new s free.spare_new i i-in (sym is ∙ same ∙ js)
          apart i j less (bad there is) (earlier j-in js) same = omega arith
          apart i j less (bad there is) (bad here js) same = omega arith
          apart i j less (bad there is) (spare here js) same = free.differ (sym is ∙ same ∙ js)
          apart i j less (spare there is) (earlier j-in js) same = omega arith
          apart i j less (spare there is) (bad here js) same = omega arith
          apart i j less (spare there is) (spare here js) same = omega arith

      -- The pair serves its bad track, and every other track is served as before.
      pub serves_its_bad : served g (n + 1) (with_pair n ts b s) b ≡ Some (stands_for s)
      serves_its_bad =
          ap (served g (n + 1) (with_pair n ts b s)) (sym its_bad) ∙
          served_by_its_spare g (n + 1) (with_pair n ts b s) stays_good n (omega arith) ∙ ap (λ (x : ℕ). Some (stands_for x)) its_spare

    pub others_as_before : (t : ℕ) → (t ≡ b → ⊥) → served g (n + 1) (with_pair n ts b s) t ≡ served g n ts t
    others_as_before t other =
        let fits : n + 1 ≤ 32 = omega arith in
        let now-all : min (n + 1) 32 ≡ suc n = min-eq_left fits ∙ add-one n in
        let then-all : min n 32 ≡ n = min-eq_left (omega arith) in
        rw (now-all, then-all)
        (without_the_last g t (with_pair n ts b s) 0 n
        (λ it. other (sym it.bad ∙ ap (bad_of (with_pair n ts b s)) (zero-add n) ∙ its_bad)) ∙
        serve_alike g t (with_pair n ts b s) ts 0 n (λ j less. before_the_pair j (omega arith)))
