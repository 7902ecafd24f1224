-- A step that is one local step or another, as the state has it, is local, if what it reads settles which.
-- At each state it is the same as one of them, and two states that agree on what it reads have the same one.
use mathlib.Core.Logic.Iff
use mathlib.Core.Logic.{◌↔◌, by_cases}
use mathlib.Core.Path.{◌≡◌, refl, sym, ◌∙◌, ap}
use Rattle.independence.specs.Local.{AgreeOn, Kind, LeadsAlike, Local, Step}

module _ (K : Kind) {A : Type 0} where
  -- Steps that are the same at a state.
  pub record SameAt (U S : Step K A) (s : K.State) : Type 0 where
    pub out : U.out s ≡ S.out s
    pub left : U.left s ≡ S.left s
    pub reads : (c : K.Cell) → U.Reads s c ↔ S.Reads s c
    pub writes : (c : K.Cell) → U.Writes s c ↔ S.Writes s c

  module _ (U S : Step K A) (local : Local K S) where
    shape_at : (s : K.State) → SameAt U S s → K.shape s ≡ K.shape (U.left s)
    shape_at s same = local.shape s ∙ ap K.shape (sym same.left)

    frame_at : (s : K.State) → SameAt U S s → (c : K.Cell) → (U.Writes s c → ⊥) → K.get (U.left s) c ≡ K.get s c
    frame_at s same c none = ap (λ u. K.get u c) same.left ∙ local.frame s c (λ w. none ((same.writes c).1 w))

    local_at : (s u : K.State) → SameAt U S s → SameAt U S u → AgreeOn K (U.Reads s) s u → LeadsAlike K U s u
    local_at s u here there agree =
        let leads = local.local s u (record { shape = agree.shape; cells = λ c r. agree.cells c ((here.reads c).1 r) }) in
        record {
          outcome = here.out ∙ leads.outcome ∙ sym there.out;
          read = λ c. Iff.trans (here.reads c) (Iff.trans (leads.read c) (Iff.symm (there.reads c)));
          written = λ c. Iff.trans (here.writes c) (Iff.trans (leads.written c) (Iff.symm (there.writes c)));
          stored = λ c w.
              ap (λ x. K.get x c) here.left ∙ leads.stored c ((here.writes c).0 w) ∙ ap (λ x. K.get x c) (sym there.left);
        }

  -- A step that is one local step where a statement holds, and another where it does not.
  pub branch_local :
      (P : K.State → Type 0) (P? : (s : K.State) → Dec (P s)) (U S T : Step K A) →
      ((s u : K.State) → AgreeOn K (U.Reads s) s u → P s ↔ P u) → Local K S → Local K T →
      ((s : K.State) → P s → SameAt U S s) → ((s : K.State) → (P s → ⊥) → SameAt U T s) → Local K U
  branch_local P P? U S T settled one two there else =
      record {
        shape = λ s. by_cases (P? s) (λ p. shape_at U S one s (there s p)) (λ n. shape_at U T two s (else s n));
        frame = λ s c none.
            by_cases (P? s) (λ p. frame_at U S one s (there s p) c none) (λ n. frame_at U T two s (else s n) c none);
        local = λ s u agree.
            by_cases (P? s) (λ p. local_at U S one s u (there s p) (there u ((settled s u agree).0 p)) agree)
            (λ n. local_at U T two s u (else s n) (else u (λ p. n ((settled s u agree).1 p))) agree);
      }

  -- A step that changes nothing, and comes to what some cells have it come to.
  abbrev pub still : (K.Cell → Type 0) → (K.State → A) → Step K A
  still P out = record { out = out; left = λ s. s; Reads = λ s. P; Writes = λ s. P }

  pub still_local :
      (P : K.Cell → Type 0) (out : K.State → A) → ((s u : K.State) → AgreeOn K P s u → out s ≡ out u) → Local K (still P out)
  still_local P out settled =
      record {
        shape = λ s. refl;
        frame = λ s c none. refl;
        local = λ s u agree.
            record { outcome = settled s u agree; read = λ c. Iff.rfl; written = λ c. Iff.rfl; stored = agree.cells };
      }
