-- What two chains work on is a stable and extensional kind of state, and the world of each of the two lies there at a faithful place.
-- All goes cell by cell: a drive is that of either world, a byte that of its controller's, and an event buffer is one chain's own or the other's.
use mathlib.Core.Logic.Iff
use mathlib.Core.Logic.{◌↔◌}
use mathlib.Core.List.{List}
use mathlib.Core.Path.{◌≡◌, refl, sym, ap, subst, ◌∙◌}
use Prim.Native.Nat.{ℕ}
use lib.ListN.{get_or, length}
use lib.Seq.{ext_get_or}
use Rattle.wire.proofs.Promises.{never}
use Rattle.unit.specs.declared.UnitNumber.TheVariants.{Zero, One}
use Rattle.unit.specs.declared.Controller.{Controller}
use Rattle.unit.specs.declared.Controller.TheVariants.{First as FirstController, Second as SecondController}
use Rattle.independence.specs.Chains.{Both, BothCell, First, Holds, Second, Which, both, cells_of, drive, event_buffer, holds, memory_byte, host_of, leaving, place_of, world_for}
use Rattle.independence.specs.Local.{Extensional, Stable}
use Rattle.independence.specs.Worlds.{byte, disk, events, holds as found, worlds}
use Rattle.independence.proofs.Places.{Faithful}
use Rattle.independence.proofs.Worlds.{buffer_certain, byte_certain, drive_certain}
use Rattle.board.specs.World.{World}

-- ---- the kind of state

stable : (c : BothCell) (x y : Holds c) → ((x ≡ y → ⊥) → ⊥) → x ≡ y
stable (memory_byte c n) = byte_certain
stable (drive n) = drive_certain
stable (event_buffer t) = buffer_certain

pub both_stable : Stable both
both_stable = record { stable = stable }

extensional : (s t : Both) → both.shape s ≡ both.shape t → ((c : BothCell) → holds s c ≡ holds t c) → s ≡ t
extensional s t long same =
    let one = ext_get_or 0 s.host1 t.host1 (ap (λ p. p.0) long) (λ i less. same (memory_byte FirstController i)) in
    let two = ext_get_or 0 s.host2 t.host2 (ap (λ p. p.1) long) (λ i less. same (memory_byte SecondController i)) in
    λ i.
    record {
      host1 = one i;
      host2 = two i;
      drive0 = same (drive Zero) i;
      drive1 = same (drive One) i;
      events1 = same (event_buffer First) i;
      events2 = same (event_buffer Second) i;
    }

pub both_extensional : Extensional both
both_extensional = record { extensional = extensional }

-- ---- the places

pub no_chain_is_both : First ≡ Second → ⊥
no_chain_is_both e = never cc

no_controller_is_both : FirstController ≡ SecondController → ⊥
no_controller_is_both e = never cc

same :
    (t : Which) (c : Controller) (P Q : worlds.Cell → Type 0) → ((c : worlds.Cell) → P c ↔ Q c) → (d : BothCell) → cells_of t c P d ↔ cells_of t c Q d
same t c P Q is (memory_byte d x) = Iff.and Iff.rfl (is (byte x))
same t c P Q is (drive n) = is (disk n)
same t c P Q is (event_buffer u) = Iff.and Iff.rfl (is events)

-- What is put in one memory or one buffer is found there, and the other is as it was.
put_found : (c : Controller) (t : Which) (s : Both) (w : World) → host_of (leaving t c s w) c ≡ w.host
put_found FirstController First s w = refl
put_found FirstController Second s w = refl
put_found SecondController First s w = refl
put_found SecondController Second s w = refl

long_seen : (t : Which) (c : Controller) (s s' : Both) → both.shape s ≡ both.shape s' → worlds.shape (world_for t c s) ≡ worlds.shape (world_for t c s')
long_seen t FirstController s s' long = λ i. (FirstController, (long i).0)
long_seen t SecondController s s' long = λ i. (SecondController, (long i).1)

long_back :
    (t : Which) (c : Controller) (s : Both) (w : World) → worlds.shape (world_for t c s) ≡ worlds.shape w → both.shape s ≡ both.shape (leaving t c s w)
long_back First FirstController s w long = λ i. ((long i).1, length s.host2)
long_back Second FirstController s w long = λ i. ((long i).1, length s.host2)
long_back First SecondController s w long = λ i. (length s.host1, (long i).1)
long_back Second SecondController s w long = λ i. (length s.host1, (long i).1)

seen :
    (t : Which) (c : Controller) (P : worlds.Cell → Type 0) (s s' : Both) → ((d : BothCell) → cells_of t c P d → holds s d ≡ holds s' d) →
    (x : worlds.Cell) → P x → found (world_for t c s) x ≡ found (world_for t c s') x
seen t c P s s' agree (byte x) p = agree (memory_byte c x) (refl, p)
seen t c P s s' agree (disk Zero) p = agree (drive Zero) p
seen t c P s s' agree (disk One) p = agree (drive One) p
seen t c P s s' agree events p = agree (event_buffer t) (refl, p)

back :
    (t : Which) (c : Controller) (P : worlds.Cell → Type 0) (s s' : Both) (w w' : World) → ((c : worlds.Cell) → P c → found w c ≡ found w' c) →
    (d : BothCell) → cells_of t c P d → holds (leaving t c s w) d ≡ holds (leaving t c s' w') d
back t c P s s' w w' agree (memory_byte d x) (is, p) =
    subst (λ (d : Controller). get_or (host_of (leaving t c s w) d) x 0 ≡ get_or (host_of (leaving t c s' w') d) x 0) is
    (ap (λ (l : List ℕ). get_or l x 0) (put_found c t s w) ∙ agree (byte x) p ∙ sym (ap (λ (l : List ℕ). get_or l x 0) (put_found c t s' w')))
back t c P s s' w w' agree (drive Zero) p = agree (disk Zero) p
back t c P s s' w w' agree (drive One) p = agree (disk One) p
back First c P s s' w w' agree (event_buffer First) p = agree events p.1
back First c P s s' w w' agree (event_buffer Second) p = absurd (no_chain_is_both p.0)
back Second c P s s' w w' agree (event_buffer First) p = absurd (no_chain_is_both (sym p.0))
back Second c P s s' w w' agree (event_buffer Second) p = agree events p.1

kept :
    (t : Which) (c : Controller) (P : worlds.Cell → Type 0) (s : Both) (w : World) →
    ((x : worlds.Cell) → (P x → ⊥) → found w x ≡ found (world_for t c s) x) → (d : BothCell) → (cells_of t c P d → ⊥) →
    holds (leaving t c s w) d ≡ holds s d
kept First FirstController P s w agree (memory_byte FirstController x) none = agree (byte x) (λ p. none (refl, p))
kept First FirstController P s w agree (memory_byte SecondController x) none = refl
kept First SecondController P s w agree (memory_byte FirstController x) none = refl
kept First SecondController P s w agree (memory_byte SecondController x) none = agree (byte x) (λ p. none (refl, p))
kept Second FirstController P s w agree (memory_byte FirstController x) none = agree (byte x) (λ p. none (refl, p))
kept Second FirstController P s w agree (memory_byte SecondController x) none = refl
kept Second SecondController P s w agree (memory_byte FirstController x) none = refl
kept Second SecondController P s w agree (memory_byte SecondController x) none = agree (byte x) (λ p. none (refl, p))
kept t c P s w agree (drive Zero) none = agree (disk Zero) none
kept t c P s w agree (drive One) none = agree (disk One) none
kept First c P s w agree (event_buffer First) none = agree events (λ p. none (refl, p))
kept First FirstController P s w agree (event_buffer Second) none = refl
kept First SecondController P s w agree (event_buffer Second) none = refl
kept Second FirstController P s w agree (event_buffer First) none = refl
kept Second SecondController P s w agree (event_buffer First) none = refl
kept Second c P s w agree (event_buffer Second) none = agree events (λ p. none (refl, p))

pub faithful : (t : Which) (c : Controller) → Faithful (place_of t c)
faithful t c =
    record {
      same = same t c;
      shape_seen = long_seen t c;
      shape_back = long_back t c;
      seen = seen t c;
      back = back t c;
      kept = kept t c;
    }
