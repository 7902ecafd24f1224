-- A chain of two blocks: it fetches the first, and then, from what that left, the one at its link, and comes to what both come to.
-- What it names, reads and writes is what a chain of the one and a chain of the other do.
use Rattle.std.proofs.Common.{Ok}
use Prim.Native.Nat.{ℕ, ◌+◌}
use mathlib.Core.Bool.{true, false}
use mathlib.Core.List.{List, [], ◌∷◌, ◌++◌}
use mathlib.Core.Logic.{◌⊎◌, inl, inr, ⊎_elim, if_pos}
use mathlib.Core.Path.{◌≡◌, sym, ap, subst, ◌∙◌}
use native.Mathlib.Omega.{arith}
use Rattle.answers.specs.declared.RunAnswer.{RunAnswer}
use Rattle.unit.specs.declared.UnitNumber.{UnitNumber}
use Rattle.board.specs.Chain.{ends, nothing, ran}
use Rattle.board.proofs.Runs.{ran_chain}
use Rattle.demands.specs.Footprint.{ReadsHost, RunNames, RunReads, RunWrites, SomeBlock, WritesHost, names}
use Rattle.demands.specs.Visits.{Passes, Visit, block_of, effect_of, fetched_by, passes?, visits, world_left}
use Rattle.demands.proofs.Endings.{fetched_step, visits_step}
use Rattle.demands.proofs.Written.{effect_is}
use Rattle.independence.proofs.Carried.{Alone, Lies}
use Rattle.independence.proofs.OneBlock.{In, by_block, none_onwards}
use Rattle.board.specs.World.{World}

in_first : (rs qs : List (ℕ × ℕ)) (x : ℕ) → In rs x → In (rs ++ qs) x
in_first [] qs x there = elim there [ ]
in_first (r ∷ rs) qs x (inl here) = inl here
in_first (r ∷ rs) qs x (inr there) = inr (in_first rs qs x there)

in_second : (rs qs : List (ℕ × ℕ)) (x : ℕ) → In qs x → In (rs ++ qs) x
in_second [] qs x there = there
in_second (r ∷ rs) qs x there = inr (in_second rs qs x there)

-- A block after i others. How many came before says nothing of how it ends.
abbrev pub visit : World → (at i : ℕ) → Visit
visit w at i = record { at = at; index = i; world = w }

ends_alike :
    (w : World) (at i : ℕ) →
    ((effect_of (visit w at i)).answer ≡ (effect_of (visit w at 0)).answer) × ((effect_of (visit w at i)).sectors ≡ (effect_of (visit w at 0)).sectors)
ends_alike w at i = (
  ap (λ e. e.answer) (effect_is (visit w at i)) ∙ sym (ap (λ e. e.answer) (effect_is (visit w at 0))),
  ap (λ e. e.sectors) (effect_is (visit w at i)) ∙ sym (ap (λ e. e.sectors) (effect_is (visit w at 0))),
)

-- A block that leads to another, which stands in the world that the first left.
pub record Leads (at : ℕ) (w : World) (next : ℕ) (then : World) : Type 0 where
  pub first : Passes at 1 w
  pub second : Passes next 1 then
  pub ended : (effect_of (visit w at 0)).answer ≡ Ok tt
  pub linked : (block_of (visit w at 0)).options.link ≡ true
  pub goes : (block_of (visit w at 0)).link ≡ next
  pub left : world_left (visit w at 0) ≡ then

module _ {at : ℕ} {w : World} {next : ℕ} {then : World} (l : Leads at w next then) where
  passes : Passes at 2 w
  passes = record { events = l.first.events; least = omega arith; most = omega arith; place = l.first.place }

  fetches_two : fetched_by at 2 w ≡ visit w at 0 ∷ visit then next 1 ∷ []
  unfolding fetched_by visits
  fetches_two =
      if_pos (passes? at 2 w) passes _ _ ∙ visits_step 1 nothing at w l.first.place ∙
      rw (l.ended, l.linked, l.goes, l.left)
      (ap (λ vs. visit w at 0 ∷ vs)
      (visits_step 0 (record { blocks = 1; sectors = 0 }) next then l.second.place ∙
      ap (λ vs. visit then next 1 ∷ vs) (none_onwards (effect_of (visit then next 1)).answer (block_of (visit then next 1)).options.link)))

  -- What the run does, one of the two does, and the other way round.
  of_either : (P : Visit → Type 0) → SomeBlock P (fetched_by at 2 w) → P (visit w at 0) ⊎ P (visit then next 1)
  of_either P does = here (subst (SomeBlock P) fetches_two does)
    where
      here : SomeBlock P (visit w at 0 ∷ visit then next 1 ∷ []) → P (visit w at 0) ⊎ P (visit then next 1)
      here (inl p) = inl p
      here (inr (inl p)) = inr p
      here (inr (inr none)) = absurd none

  pub by_second : (P : Visit → Type 0) → P (visit then next 1) → SomeBlock P (fetched_by at 2 w)
  by_second P p = subst (SomeBlock P) (sym fetches_two) (inr (inl p))

  -- Where the second ends 80 and has no link, the run is done.
  pub done_both :
      (m n : ℕ) → (effect_of (visit w at 0)).sectors ≡ m → (effect_of (visit then next 0)).sectors ≡ n →
      (effect_of (visit then next 0)).answer ≡ Ok tt → (block_of (visit then next 0)).options.link ≡ false →
      ran at 2 w ≡ ends RunAnswer.Done 0 (record { blocks = 2; sectors = 0 + m + n }) (world_left (visit then next 1))
  done_both m n moved moved-too ended-too unlinked =
      let alike = ends_alike then next 1 in
      ran_chain at 2 w passes.events (passes.least, passes.most) passes.place ∙ fetched_step 1 nothing at w passes.place ∙
      rw (l.ended, l.linked, l.goes, moved, l.left)
      (fetched_step 0 (record { blocks = 1; sectors = 0 + m }) next then l.second.place ∙
      rw (alike.0 ∙ ended-too, unlinked, alike.1 ∙ moved-too))

  -- What both name, read and write.
  pub lies_in_both :
      {u : UnitNumber} {rs ws qs vs : List (ℕ × ℕ)} → Alone at w u rs ws → Alone next then u qs vs →
      Lies (RunNames at 2 w) (RunReads at 2 w) (RunWrites at 2 w) u (rs ++ qs) (ws ++ vs)
  lies_in_both {u} {rs} {ws} {qs} {vs} f g =
      record {
        names_it =
            λ n a.
            ⊎_elim (λ b. f.names_it n (by_block at w l.first (λ v. names v ≡ n) b))
            (λ b. g.names_it n (by_block next then l.second (λ v. names v ≡ n) b)) (of_either (λ v. names v ≡ n) a);
        reads_there =
            λ x a.
            ⊎_elim (λ b. in_first rs qs x (f.reads_there x (by_block at w l.first (λ v. ReadsHost v x) b)))
            (λ b. in_second rs qs x (g.reads_there x (by_block next then l.second (λ v. ReadsHost v x) b))) (of_either (λ v. ReadsHost v x) a);
        writes_there =
            λ x a.
            ⊎_elim (λ b. in_first ws vs x (f.writes_there x (by_block at w l.first (λ v. WritesHost v x) b)))
            (λ b. in_second ws vs x (g.writes_there x (by_block next then l.second (λ v. WritesHost v x) b)))
            (of_either (λ v. WritesHost v x) a);
      }
