-- What is done on a world as a block is done, by an effect on one unit's drive, is a local step if it goes by what it reads.
-- Two worlds that agree on what it reads lead it to one effect; the stores take their values from bytes that agree, and so leave the same
-- where they go, and elsewhere nothing changes.
use Prim.Native.Nat.{ℕ}
use mathlib.Core.Logic.Iff
use mathlib.Core.Logic.{◌↔◌, ◌⊎◌, inr}
use mathlib.Core.Path.{◌≡◌, refl, sym, ◌∙◌, ap, subst}
use lib.ListN.{get_or, length}
use Rattle.unit.specs.declared.UnitNumber.{UnitNumber}
use Rattle.unit.specs.declared.UnitNumber.TheVariants.{Zero, One}
use Rattle.transfer.specs.Stores.{Buffers, after, byte_in, host_byte}
use Rattle.transfer.proofs.Stays.{lengths_stay, unstored_stays}
use Rattle.block.specs.Block.{Effect}
use Rattle.independence.specs.Local.{AgreeOn, LeadsAlike, Local, Step}
use Rattle.independence.specs.Worlds.{WorldCell, Touches, byte, disk, events, holds, worlds}
use Rattle.independence.proofs.Meets.{Meet, Sourced, stores_meet}
use Rattle.unit.specs.Standing.{UnitRecord}
use Rattle.board.specs.World.{World, buffers_of, changed, drive_of}
use Rattle.transfer.specs.Targets.{Stored}

-- Work on a world: the unit that it names, its effect on that unit's drive, what else it comes to, and the host bytes that it reads and
-- writes, all from the world that it finds.
pub record Work (Out : Type 0) : Type 1 where
  pub names : World → UnitNumber
  pub effect : World → Effect
  pub out : World → Out
  pub Reads : World → ℕ → Type 0
  pub Writes : World → ℕ → Type 0

-- The world that it leaves, and the step that it is.
abbrev pub leaves : {Out : Type 0} → Work Out → World → World
leaves k w = changed w (k.names w) (after (k.effect w).stores (buffers_of w (k.names w))) (k.effect w).unit

abbrev pub working : {Out : Type 0} → Work Out → Step worlds Out
working k =
    record {
      out = k.out;
      left = leaves k;
      Reads = λ w. Touches (k.Reads w) (λ n. k.names w ≡ n);
      Writes = λ w. Touches (k.Writes w) (λ n. k.names w ≡ n);
    }

-- It goes alike on two worlds.
pub record GoesAlike {Out : Type 0} (k : Work Out) (w u : World) : Type 0 where
  pub names : k.names w ≡ k.names u
  pub effect : k.effect w ≡ k.effect u
  pub out : k.out w ≡ k.out u
  pub reads : (x : ℕ) → k.Reads w x ↔ k.Reads u x

-- It goes by what it reads: it goes alike on worlds that agree on that, each host byte that a store takes its value from is read, and what
-- it writes of host memory is what its stores have as targets.
pub record ByWhatItReads {Out : Type 0} (k : Work Out) : Type 0 where
  pub alike : (w u : World) → AgreeOn worlds ((working k).Reads w) w u → GoesAlike k w u
  pub sources : (w : World) (x : ℕ) → Sourced (k.effect w).stores x → k.Reads w x
  pub written : (w : World) (x : ℕ) → k.Writes w x ↔ Stored (k.effect w).stores (host_byte x)

-- ---- a world with one drive changed

-- The run's controller stays.
run_by_changed : (w : World) (m : Buffers) (u : UnitRecord) (n : UnitNumber) → w.controller ≡ (changed w n m u).controller
run_by_changed w m u Zero = refl
run_by_changed w m u One = refl

module _ (w : World) (m : Buffers) (r : UnitRecord) where
  buffers_changed : (n : UnitNumber) → buffers_of (changed w n m r) n ≡ m
  buffers_changed Zero = refl
  buffers_changed One = refl

  other_drive : (n k : UnitNumber) → (n ≡ k → ⊥) → drive_of (changed w n m r) k ≡ drive_of w k
  other_drive Zero Zero other = absurd (other refl)
  other_drive Zero One other = refl
  other_drive One Zero other = refl
  other_drive One One other = absurd (other refl)

-- Two worlds of which one drive is changed alike.
module _ (P : ℕ → Type 0) (w u : World) (m n : Buffers) (meet : Meet P m n) (r : UnitRecord) where
  host_changed : (k : UnitNumber) (x : ℕ) → P x → get_or (changed w k m r).host x 0 ≡ get_or (changed u k n r).host x 0
  host_changed Zero x p = meet.host x p
  host_changed One x p = meet.host x p

  events_changed : (k : UnitNumber) → (changed w k m r).events ≡ (changed u k n r).events
  events_changed Zero = meet.events
  events_changed One = meet.events

  drive_changed : (k : UnitNumber) → drive_of (changed w k m r) k ≡ drive_of (changed u k n r) k
  drive_changed Zero = λ i. record { unit = r; image = meet.image i }
  drive_changed One = λ i. record { unit = r; image = meet.image i }

-- ---- the work

touched_alike :
    {P Q : ℕ → Type 0} {M N : UnitNumber → Type 0} → ((x : ℕ) → P x ↔ Q x) → ((n : UnitNumber) → M n ↔ N n) → (c : WorldCell) →
    Touches P M c ↔ Touches Q N c
touched_alike bytes units (byte x) = bytes x
touched_alike bytes units (disk n) = units n
touched_alike bytes units events = Iff.rfl

module _ {Out : Type 0} (k : Work Out) (by : ByWhatItReads k) where
  frame : (w : World) (c : WorldCell) → ((working k).Writes w c → ⊥) → holds (leaves k w) c ≡ holds w c
  frame w (byte x) none =
      ap (λ b. byte_in b (host_byte x)) (buffers_changed w _ _ (k.names w)) ∙
      unstored_stays (k.effect w).stores (buffers_of w (k.names w)) (host_byte x) (λ stored. none ((by.written w x).1 stored))
  frame w (disk n) none = other_drive w _ _ (k.names w) n none
  frame w events none = absurd (none tt)

  module _ (w u : World) (agree : AgreeOn worlds ((working k).Reads w) w u) where
    same : GoesAlike k w u
    same = by.alike w u agree

    abbrev n : UnitNumber
    n = k.names w

    abbrev e : Effect
    e = k.effect w

    -- What is left of the other world, by the effect in this one.
    left_there : leaves k u ≡ changed u n (after e.stores (buffers_of u n)) e.unit
    left_there =
        let names = sym same.names in
        let effect = sym same.effect in
        λ i. changed u (names i) (after (effect i).stores (buffers_of u (names i))) (effect i).unit

    met : Meet (k.Reads w) (buffers_of w n) (buffers_of u n)
    met =
        record {
          long = ap (λ p. p.1) agree.shape;
          host = λ x read. agree.cells (byte x) read;
          image = ap (λ d. d.image) (agree.cells (disk n) refl);
          events = agree.cells events tt;
        }

    left_met :
        Meet (λ x. k.Reads w x ⊎ Stored e.stores (host_byte x)) (after e.stores (buffers_of w n))
        (after e.stores (buffers_of u n))
    left_met = stores_meet e.stores (k.Reads w) _ _ met (by.sources w)

    stored : (c : WorldCell) → (working k).Writes w c → holds (leaves k w) c ≡ holds (leaves k u) c
    stored (byte x) written =
        host_changed _ w u _ _ left_met e.unit n x (inr ((by.written w x).0 written)) ∙ ap (λ s. get_or s.host x 0) (sym left_there)
    stored (disk m) named =
        subst (λ m. drive_of (leaves k w) m ≡ drive_of (leaves k u) m) named
        (drive_changed _ w u _ _ left_met e.unit n ∙ ap (λ s. drive_of s n) (sym left_there))
    stored events always = events_changed _ w u _ _ left_met e.unit n ∙ ap (λ s. s.events) (sym left_there)

    named : (m : UnitNumber) → (k.names w ≡ m) ↔ (k.names u ≡ m)
    named m = (λ is. sym same.names ∙ is, λ is. same.names ∙ is)

    written : (x : ℕ) → k.Writes w x ↔ k.Writes u x
    written x = (
      λ w'. (by.written u x).1 (rw same.effect at ((by.written w x).0 w')),
      λ w'. (by.written w x).1 (rw (← same.effect) at ((by.written u x).0 w')),
    )

    leads : LeadsAlike worlds (working k) w u
    leads =
        record { outcome = same.out; read = touched_alike same.reads named; written = touched_alike written named; stored = stored }

  pub work_local : Local worlds (working k)
  work_local =
      record {
        shape = λ w.
            let long : length w.host ≡ length (leaves k w).host =
            sym (lengths_stay (k.effect w).stores (buffers_of w (k.names w))).0
            ∙ ap (λ b. length b.host) (sym (buffers_changed w _ _ (k.names w))) in
            λ i. (run_by_changed w (after (k.effect w).stores (buffers_of w (k.names w))) (k.effect w).unit (k.names w) i, long i);
        frame = frame;
        local = leads;
      }
