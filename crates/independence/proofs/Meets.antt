-- Stores from two states of the buffers that agree on every byte that a store takes from host memory leave the same in every byte that
-- a store goes to. One store after the other: its value is the same in both, so what they agree on grows by its target.
use Prim.Native.Nat.{ℕ, zero, suc}
use mathlib.Core.List.{List, [], ◌∷◌}
use mathlib.Core.Logic.{◌⊎◌, inl, inr, ⊎_elim}
use mathlib.Core.Path.{◌≡◌, refl, sym, ◌∙◌, ap}
use native.Mathlib.Omega.{arith}
use lib.ListN.{get_or, length, length-set, set}
use Rattle.wire.proofs.Promises.{never}
use Rattle.transfer.specs.Stores.{Buffers, ByteAt, Store, Value, after, copy_of, event_byte, host_byte, image_byte, number, with, worth}
use Rattle.transfer.specs.Targets.{Stored}

-- Some store of a list takes its value from this byte of host memory.
unfoldable pub Sourced : List Store → ℕ → Type 0
Sourced [] x = ⊥
Sourced (s ∷ ss) x = (s.value ≡ copy_of (host_byte x)) ⊎ Sourced ss x

-- Two states of the buffers that agree on some bytes of host memory, and on all else.
pub record Meet (P : ℕ → Type 0) (m n : Buffers) : Type 0 where
  pub long : length m.host ≡ length n.host
  pub host : (x : ℕ) → P x → get_or m.host x 0 ≡ get_or n.host x 0
  pub image : m.image ≡ n.image
  pub events : m.events ≡ n.events

-- ---- one store

set_meets :
    (h k : List ℕ) (y a x : ℕ) → length h ≡ length k → (y ≡ x) ⊎ (get_or h x 0 ≡ get_or k x 0) → get_or (set h y a) x 0 ≡ get_or (set k y a) x 0
set_meets [] [] y a x long alike = refl
set_meets [] (d ∷ k) y a x long alike = absurd (omega (arith, long))
set_meets (b ∷ h) [] y a x long alike = absurd (omega (arith, long))
set_meets (b ∷ h) (d ∷ k) zero a zero long alike = refl
set_meets (b ∷ h) (d ∷ k) zero a (suc x) long (inl e) = absurd (omega (arith, e))
set_meets (b ∷ h) (d ∷ k) zero a (suc x) long (inr e) = e
set_meets (b ∷ h) (d ∷ k) (suc y) a zero long (inl e) = absurd (omega (arith, e))
set_meets (b ∷ h) (d ∷ k) (suc y) a zero long (inr e) = e
set_meets (b ∷ h) (d ∷ k) (suc y) a (suc x) long (inl e) = set_meets h k y a x (omega (arith, long)) (inl (omega (arith, e)))
set_meets (b ∷ h) (d ∷ k) (suc y) a (suc x) long (inr e) = set_meets h k y a x (omega (arith, long)) (inr e)

worth_meets : (P : ℕ → Type 0) (m n : Buffers) → Meet P m n → (v : Value) → ((x : ℕ) → v ≡ copy_of (host_byte x) → P x) → worth m v ≡ worth n v
worth_meets P m n meet (number a) from = refl
worth_meets P m n meet (copy_of (host_byte x)) from = meet.host x (from x refl)
worth_meets P m n meet (copy_of (image_byte x)) from = ap (λ b. get_or b x 0) meet.image
worth_meets P m n meet (copy_of (event_byte x)) from = ap (λ b. get_or b x 0) meet.events

with_meets :
    (P : ℕ → Type 0) (m n : Buffers) → Meet P m n → (c : ByteAt) (a b : ℕ) → a ≡ b →
    Meet (λ x. P x ⊎ (c ≡ host_byte x)) (with m c a) (with n c b)
with_meets P m n meet (host_byte y) a b same =
    record {
      long = length-set m.host y a ∙ meet.long ∙ sym (length-set n.host y b);
      host = λ x known.
          ap (λ v. get_or (set m.host y v) x 0) same ∙
          set_meets m.host n.host y b x meet.long
          (⊎_elim (λ p. inr (meet.host x p)) (λ e. inl cc) known);
      image = meet.image;
      events = meet.events;
    }
with_meets P m n meet (image_byte y) a b same =
    record {
      long = meet.long;
      host = λ x known. ⊎_elim (λ p. meet.host x p) (λ e. absurd (never cc)) known;
      image = λ i. set (meet.image i) y (same i);
      events = meet.events;
    }
with_meets P m n meet (event_byte y) a b same =
    record {
      long = meet.long;
      host = λ x known. ⊎_elim (λ p. meet.host x p) (λ e. absurd (never cc)) known;
      image = meet.image;
      events = λ i. set (meet.events i) y (same i);
    }

-- ---- all stores

pub stores_meet :
    (ss : List Store) (P : ℕ → Type 0) (m n : Buffers) → Meet P m n → ((x : ℕ) → Sourced ss x → P x) →
    Meet (λ x. P x ⊎ Stored ss (host_byte x)) (after ss m) (after ss n)
unfolding after Sourced Stored
stores_meet [] P m n meet from =
    record {
      long = meet.long;
      host = λ x known. ⊎_elim (λ p. meet.host x p) (λ none. absurd none) known;
      image = meet.image;
      events = meet.events;
    }
stores_meet (s ∷ ss) P m n meet from =
    let same = worth_meets P m n meet s.value (λ x is. from x (inl is)) in
    let one = with_meets P m n meet s.to (worth m s.value) (worth n s.value) same in
    let rest = stores_meet ss (λ x. P x ⊎ (s.to ≡ host_byte x)) _ _ one (λ x later. inl (from x (inr later))) in
    record {
      long = rest.long;
      host = λ x known.
          rest.host x (⊎_elim (λ p. inl (inl p)) (λ to. ⊎_elim (λ here. inl (inr here)) (λ later. inr later) to) known);
      image = rest.image;
      events = rest.events;
    }
