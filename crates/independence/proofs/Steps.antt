-- Steps in a row are local where each is, and two local steps that are apart can be made in either order.
-- What one step writes the other finds as it was, so each goes as it goes alone; and cell by cell what is left is the same, whether the
-- cell is written by the one, by the other or by none.
use mathlib.Core.Logic.Iff
use mathlib.Core.Logic.{◌↔◌, ◌⊎◌, inl, inr, ⊎_elim, ⊎_map}
use mathlib.Core.Path.{◌≡◌, sym, ◌∙◌, ap, subst}
use Rattle.independence.specs.Local.{AgreeOn, Undisturbed, EitherOrder, Extensional, Kind, LeadsAlike, Local, Stable, Step, then}

either : {A B C D : Type 0} → A ↔ C → B ↔ D → (A ⊎ B) ↔ (C ⊎ D)
either h k = (⊎_map h.0 k.0, ⊎_map h.1 k.1)

module _ (K : Kind) where
  -- A step that writes nothing that another reads is not noticed by it.
  pub unnoticed :
      {A B : Type 0} (S : Step K A) (T : Step K B) → Local K S → Local K T → (s : K.State) →
      ((c : K.Cell) → T.Writes s c → S.Reads s c → ⊥) → LeadsAlike K S s (T.left s)
  unnoticed S T one two s unread =
      one.local s (T.left s)
      (record { shape = two.shape s; cells = λ c r. sym (two.frame s c (λ w. unread c w r)) })

  -- Two steps that write no cell in common store the same where both write.
  pub none_in_common :
      {A B : Type 0} (S : Step K A) (T : Step K B) (s : K.State) → ((c : K.Cell) → S.Writes s c → T.Writes s c → ⊥) →
      (c : K.Cell) → S.Writes s c → T.Writes s c → K.get (S.left s) c ≡ K.get (T.left s) c
  none_in_common S T s none c w v = absurd (none c w v)

  -- Where the cells make the state, steps in either order leave one state.
  pub one_state :
      {A B : Type 0} (S : Step K A) (T : Step K B) (s : K.State) → Extensional K → EitherOrder K S T s →
      T.left (S.left s) ≡ S.left (T.left s)
  one_state S T s cells-are-all e = cells-are-all.extensional _ _ e.shape e.cells

module _ (K : Kind) (values : Stable K) where
  -- An equation of values may be proved by cases on any statement.
  by_case :
      (P : Type 0) (c : K.Cell) (x y : K.Value c) → (P → x ≡ y) → ((P → ⊥) → x ≡ y) → x ≡ y
  by_case P c x y yes-is no-is = values.stable c x y (λ differ. differ (no-is (λ p. differ (yes-is p))))

  -- After a local step from two states that agree on what it reads, they agree on what it wrote and on all that they agreed on.
  agree_after :
      {A : Type 0} (S : Step K A) → Local K S → (P : K.Cell → Type 0) (s t : K.State) → AgreeOn K (S.Reads s) s t →
      ((c : K.Cell) → P c → K.get s c ≡ K.get t c) → AgreeOn K P (S.left s) (S.left t)
  agree_after S local P s t reads same =
      let leads = local.local s t reads in
      record {
        shape = sym (local.shape s) ∙ reads.shape ∙ local.shape t;
        cells = λ c p.
            by_case (S.Writes s c) c _ _ (λ w. leads.stored c w)
            (λ none. local.frame s c none ∙ same c p ∙ sym (local.frame t c (λ w. none ((leads.written c).1 w))));
      }

  -- Steps in a row.
  in_a_row :
      {A B : Type 0} (S : Step K A) (T : A → Step K B) → Local K S → ((a : A) → Local K (T a)) → (s t : K.State) →
      AgreeOn K ((then S T).Reads s) s t → LeadsAlike K (then S T) s t
  in_a_row S T one two s t agree =
      let reads : AgreeOn K (S.Reads s) s t = record { shape = agree.shape; cells = λ c r. agree.cells c (inl r) } in
      let leads = one.local s t reads in
      let same = leads.outcome in
      let next = T (S.out s) in
      let between = agree_after S one (λ c. next.Reads (S.left s) c) s t reads (λ c r. agree.cells c (inr r)) in
      let further = (two (S.out s)).local (S.left s) (S.left t) between in
      record {
        outcome = further.outcome ∙ ap (λ a. (T a).out (S.left t)) same;
        read = λ c.
            either (leads.read c)
            (Iff.trans (further.read c) (subst (λ a. next.Reads (S.left t) c ↔ (T a).Reads (S.left t) c) same Iff.rfl));
        written = λ c.
            either (leads.written c)
            (Iff.trans (further.written c) (subst (λ a. next.Writes (S.left t) c ↔ (T a).Writes (S.left t) c) same Iff.rfl));
        stored = λ c w.
            by_case (next.Writes (S.left s) c) c _ _ (λ later. further.stored c later)
            (λ none.
            (two (S.out s)).frame (S.left s) c none ∙
            ⊎_elim (λ earlier. leads.stored c earlier) (λ later. absurd (none later)) w ∙
            sym ((two (S.out s)).frame (S.left t) c (λ later. none ((further.written c).1 later)))) ∙
            ap (λ a. K.get ((T a).left (S.left t)) c) same;
      }

  pub then_local :
      {A B : Type 0} (S : Step K A) (T : A → Step K B) → Local K S → ((a : A) → Local K (T a)) → Local K (then S T)
  then_local S T one two =
      record {
        shape = λ s. one.shape s ∙ (two (S.out s)).shape (S.left s);
        frame = λ s c none.
            (two (S.out s)).frame (S.left s) c (λ w. none (inr w)) ∙ one.frame s c (λ w. none (inl w));
        local = λ s t agree. in_a_row S T one two s t agree;
      }

  -- Two steps that are apart, in either order.
  pub either_order :
      {A B : Type 0} (S : Step K A) (T : Step K B) → Local K S → Local K T → (s : K.State) → Undisturbed K S T s → EitherOrder K S T s
  either_order S T one two s apart =
      let first = unnoticed K S T one two s apart.unread_by_first in
      let second = unnoticed K T S two one s apart.unread_by_second in
      let by_second : (c : K.Cell) → T.Writes s c → K.get (T.left (S.left s)) c ≡ K.get (T.left s) c =
      λ c w. sym (second.stored c w) in
      let by_first : (c : K.Cell) → S.Writes s c → K.get (T.left (S.left s)) c ≡ K.get (S.left s) c =
      λ c w.
      by_case (T.Writes s c) c _ _ (λ v. by_second c v ∙ sym (apart.written c w v))
      (λ none. two.frame (S.left s) c (λ v. none ((second.written c).1 v))) in
      record {
        first = sym first.outcome;
        second = sym second.outcome;
        by_first = by_first;
        by_second = by_second;
        shape = sym (two.shape (S.left s)) ∙ sym (one.shape s) ∙ two.shape s ∙ one.shape (T.left s);
        cells = λ c.
            by_case (S.Writes s c) c _ _ (λ w. by_first c w ∙ first.stored c w)
            (λ none.
            let unchanged = one.frame (T.left s) c (λ v. none ((first.written c).1 v)) in
            by_case (T.Writes s c) c _ _ (λ w. by_second c w ∙ sym unchanged)
            (λ neither.
            two.frame (S.left s) c (λ v. neither ((second.written c).1 v)) ∙ one.frame s c none ∙ sym (two.frame s c neither) ∙
            sym unchanged));
      }
