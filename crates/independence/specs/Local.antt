-- Steps that depend on some cells of a state and change some: when two of them can be made in either order (00, demand 3). Nothing here
-- knows a block or a chain; a kind of state is given by its cells.
use Rattle.std.specs.Prelude.{◌⊎◌, ◌↔◌, ◌≡◌}

-- A kind of state: it has a shape, which a local step keeps, and each cell of it holds a value.
pub record Kind : Type 1 where
  pub State : Type 0
  pub Shape : Type 0
  pub shape : State → Shape
  pub Cell : Type 0
  pub Value : Cell → Type 0
  pub get : State → (c : Cell) → Value c

-- What a law may ask of a kind, each where it needs it: an equation of values that cannot fail holds;
pub record Stable (K : Kind) : Type 0 where
  pub stable : (c : K.Cell) (x y : K.Value c) → ((x ≡ y → ⊥) → ⊥) → x ≡ y

-- and states of one shape that differ in no cell are one.
pub record Extensional (K : Kind) : Type 0 where
  pub extensional : (s t : K.State) → K.shape s ≡ K.shape t → ((c : K.Cell) → K.get s c ≡ K.get t c) → s ≡ t

-- A step: what it comes to, what it leaves, and its footprint, all from the state that it finds.
pub record Step (K : Kind) (Out : Type 0) : Type 1 where
  pub out : K.State → Out
  pub left : K.State → K.State
  pub Reads : K.State → K.Cell → Type 0
  pub Writes : K.State → K.Cell → Type 0

-- Two states of one shape that hold the same in some cells.
pub record AgreeOn (K : Kind) (P : K.Cell → Type 0) (s t : K.State) : Type 0 where
  pub shape : K.shape s ≡ K.shape t
  pub cells : (c : K.Cell) → P c → K.get s c ≡ K.get t c

-- What two states lead a step to is the same: its outcome, what it reads, where it stores, and what.
pub record LeadsAlike (K : Kind) {Out : Type 0} (S : Step K Out) (s t : K.State) : Type 0 where
  pub outcome : S.out s ≡ S.out t
  pub read : (c : K.Cell) → S.Reads s c ↔ S.Reads t c
  pub written : (c : K.Cell) → S.Writes s c ↔ S.Writes t c
  pub stored : (c : K.Cell) → S.Writes s c → K.get (S.left s) c ≡ K.get (S.left t) c

-- A step is local: it keeps the shape, changes nothing that it does not write, and two states of one shape that agree on all that it
-- reads lead it to the same.
pub record Local (K : Kind) {Out : Type 0} (S : Step K Out) : Type 0 where
  pub shape : (s : K.State) → K.shape s ≡ K.shape (S.left s)
  pub frame : (s : K.State) (c : K.Cell) → (S.Writes s c → ⊥) → K.get (S.left s) c ≡ K.get s c
  pub local : (s t : K.State) → AgreeOn K (S.Reads s) s t → LeadsAlike K S s t

-- One step and then another, which may go by what the first came to.
abbrev pub then : {K : Kind} {A B : Type 0} → Step K A → (A → Step K B) → Step K B
then S T =
    record {
      out = λ s. (T (S.out s)).out (S.left s);
      left = λ s. (T (S.out s)).left (S.left s);
      Reads = λ s c. S.Reads s c ⊎ (T (S.out s)).Reads (S.left s) c;
      Writes = λ s c. S.Writes s c ⊎ (T (S.out s)).Writes (S.left s) c;
    }

-- A state that is seen in a larger one, from a place there: what is seen, the larger state once something is put back, and the cells of the
-- larger state that are some of its cells.
pub record Place (K L : Kind) : Type 1 where
  pub seen : L.State → K.State
  pub back : L.State → K.State → L.State
  pub Cells : (K.Cell → Type 0) → L.Cell → Type 0

-- A step on what is seen, as a step on the larger state.
abbrev pub placed : {K L : Kind} {A : Type 0} → Place K L → Step K A → Step L A
placed p S =
    record {
      out = λ s. S.out (p.seen s);
      left = λ s. p.back s (S.left (p.seen s));
      Reads = λ s. p.Cells (S.Reads (p.seen s));
      Writes = λ s. p.Cells (S.Writes (p.seen s));
    }

-- No cell that one step writes is read by the other, and where both write they store the same.
pub record Undisturbed (K : Kind) {A B : Type 0} (S : Step K A) (T : Step K B) (s : K.State) : Type 0 where
  pub written : (c : K.Cell) → S.Writes s c → T.Writes s c → K.get (S.left s) c ≡ K.get (T.left s) c
  pub unread_by_second : (c : K.Cell) → S.Writes s c → T.Reads s c → ⊥
  pub unread_by_first : (c : K.Cell) → T.Writes s c → S.Reads s c → ⊥

-- Two steps in either order: what each comes to and stores is what it comes to and stores alone, and what is left has one shape and holds
-- the same in every cell.
pub record EitherOrder (K : Kind) {A B : Type 0} (S : Step K A) (T : Step K B) (s : K.State) : Type 0 where
  pub first : S.out (T.left s) ≡ S.out s
  pub second : T.out (S.left s) ≡ T.out s
  pub by_first : (c : K.Cell) → S.Writes s c → K.get (T.left (S.left s)) c ≡ K.get (S.left s) c
  pub by_second : (c : K.Cell) → T.Writes s c → K.get (T.left (S.left s)) c ≡ K.get (T.left s) c
  pub shape : K.shape (T.left (S.left s)) ≡ K.shape (S.left (T.left s))
  pub cells : (c : K.Cell) → K.get (T.left (S.left s)) c ≡ K.get (S.left (T.left s)) c
