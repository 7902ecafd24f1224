-- Counting by sector, head, cylinder, over plain numbers: (c * H + h) * S + s, on tracks of S sectors and cylinders of H heads. An order that
-- exchanges the two has its slower number for c and its quicker one for h.
-- Each law goes by the last digit twice: first the sector off the track, then the head off the cylinder.
use Prim.Native.Nat.{ℕ, ◌+◌, ◌*◌, ◌/◌, ◌%◌, ◌<◌}
use mathlib.Core.Path.{◌≡◌, sym, ap, ◌∙◌}
use mathlib.Core.Logic.{⊎_elim}
use native.Mathlib.Nat.{div-add-mod', div-div-eq-div-mul, div-lt_iff_lt-mul, eq-zero-or-pos, mod-lt, mul_comm, mul-pos, zero-mul}
use native.Mathlib.Omega.{arith}
use lib.Arith.{digits_div, digits_lt, digits_mod}

-- A product above 0 has no factor 0.
left_above : (a b : ℕ) → 0 < a * b → 0 < a
left_above a b ab = ⊎_elim (λ a0. absurd (omega (arith, zero-mul b, rw a0 at ab))) (λ a+. a+) (eq-zero-or-pos a)

right_above : (a b : ℕ) → 0 < a * b → 0 < b
right_above a b ab = left_above b a (rw mul_comm at ab)

module _ (H S : ℕ) where
  pub counted_below : (C c h s : ℕ) → c < C → h < H → s < S → (c * H + h) * S + s < C * H * S
  counted_below C c h s c< h< s< = digits_lt (digits_lt c< h<) s<

  pub sector_back : (c h s : ℕ) → s < S → ((c * H + h) * S + s) % S ≡ s
  sector_back c h s s< = digits_mod (c * H + h) s<

  track_back : (c h s : ℕ) → s < S → ((c * H + h) * S + s) / S ≡ c * H + h
  track_back c h s s< = digits_div (c * H + h) s<

  pub head_back : (c h s : ℕ) → h < H → s < S → ((c * H + h) * S + s) / S % H ≡ h
  head_back c h s h< s< = rw (track_back c h s s<) (digits_mod c h<)

  pub cylinder_back : (c h s : ℕ) → h < H → s < S → ((c * H + h) * S + s) / (S * H) ≡ c
  cylinder_back c h s h< s< = rw (← (div-div-eq-div-mul ((c * H + h) * S + s) S H), track_back c h s s<) (digits_div c h<)

  -- Two counts that are equal have equal digits.
  pub counted_once :
      (c h s c' h' s' : ℕ) →
      h < H → s < S → h' < H → s' < S →
      (c * H + h) * S + s ≡ (c' * H + h') * S + s' →
      (c ≡ c') × ((h ≡ h') × (s ≡ s'))
  counted_once c h s c' h' s' h< s< h'< s'< same = (
    sym (cylinder_back c h s h< s<) ∙ ap (λ (n : ℕ). n / (S * H)) same ∙ cylinder_back c' h' s' h'< s'<,
    (
      sym (head_back c h s h< s<) ∙ ap (λ (n : ℕ). n / S % H) same ∙ head_back c' h' s' h'< s'<,
      sym (sector_back c h s s<) ∙ ap (λ (n : ℕ). n % S) same ∙ sector_back c' h' s' s'<,
    ),
  )

  -- Every number is the count of its own digits.
  pub counted_back : (n : ℕ) → (n / (S * H) * H + n / S % H) * S + n % S ≡ n
  counted_back n = rw (← (div-div-eq-div-mul n S H), div-add-mod' (n / S) H) (div-add-mod' n S)

  -- A number below C * H * S has three digits: a cylinder below C, a head below H, a sector below S.
  pub record Digits (C n : ℕ) : Type 0 where
    pub heads : 0 < H
    pub sectors : 0 < S
    pub cylinder : n / (S * H) < C
    pub head : n / S % H < H
    pub sector : n % S < S

  pub digits_of : (C n : ℕ) → n < C * H * S → Digits C n
  digits_of C n below =
      let H+ : 0 < H = right_above C H (left_above (C * H) S (omega arith)) in
      let S+ : 0 < S = right_above (C * H) S (omega arith) in
      record {
        heads = H+;
        sectors = S+;
        cylinder = (div-lt_iff_lt-mul (mul-pos S+ H+)).1 (omega arith);
        head = mod-lt (n / S) H+;
        sector = mod-lt n S+;
      }
