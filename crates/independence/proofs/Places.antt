-- A local step on what is seen from a place of a larger state is local on the larger state.
-- All that a place is asked for is that what is seen goes by its cells, and that putting something back changes these and no others.
use mathlib.Core.Logic.{◌↔◌}
use mathlib.Core.Path.{◌≡◌}
use Rattle.independence.specs.Local.{Kind, Local, Place, Step, placed}

pub record Faithful {K L : Kind} (p : Place K L) : Type 1 where
  -- The same cells of what is seen are the same cells.
  pub same : (P Q : K.Cell → Type 0) → ((c : K.Cell) → P c ↔ Q c) → (d : L.Cell) → p.Cells P d ↔ p.Cells Q d
  -- The shape of what is seen goes by the shape, and something of the same shape is put back in the same shape.
  pub shape_seen : (s t : L.State) → L.shape s ≡ L.shape t → K.shape (p.seen s) ≡ K.shape (p.seen t)
  pub shape_back : (s : L.State) (w : K.State) → K.shape (p.seen s) ≡ K.shape w → L.shape s ≡ L.shape (p.back s w)
  -- Where states agree on some of its cells, what is seen of them agrees there.
  pub seen :
      (P : K.Cell → Type 0) (s t : L.State) → ((d : L.Cell) → p.Cells P d → L.get s d ≡ L.get t d) → (c : K.Cell) → P c →
      K.get (p.seen s) c ≡ K.get (p.seen t) c
  -- Where what is put back agrees on some of its cells, so do the states.
  pub back :
      (P : K.Cell → Type 0) (s t : L.State) (w u : K.State) → ((c : K.Cell) → P c → K.get w c ≡ K.get u c) → (d : L.Cell) →
      p.Cells P d → L.get (p.back s w) d ≡ L.get (p.back t u) d
  -- What is put back with nothing changed but some of its cells changes no other cell.
  pub kept :
      (P : K.Cell → Type 0) (s : L.State) (w : K.State) → ((c : K.Cell) → (P c → ⊥) → K.get w c ≡ K.get (p.seen s) c) →
      (d : L.Cell) → (p.Cells P d → ⊥) → L.get (p.back s w) d ≡ L.get s d

pub placed_local :
    {K L : Kind} {A : Type 0} (p : Place K L) → Faithful p → (S : Step K A) → Local K S → Local L (placed p S)
placed_local p faithful S local =
    record {
      shape = λ s. faithful.shape_back s _ (local.shape (p.seen s));
      frame = λ s d none. faithful.kept (S.Writes (p.seen s)) s _ (local.frame (p.seen s)) d none;
      local = λ s t agree.
          let leads =
          local.local (p.seen s) (p.seen t)
          (record {
            shape = faithful.shape_seen s t agree.shape;
            cells = faithful.seen (S.Reads (p.seen s)) s t agree.cells;
          }) in
          record {
            outcome = leads.outcome;
            read = faithful.same _ _ leads.read;
            written = faithful.same _ _ leads.written;
            stored = faithful.back (S.Writes (p.seen s)) s t _ _ leads.stored;
          };
    }
