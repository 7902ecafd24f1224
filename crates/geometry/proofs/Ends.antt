-- The ends of the volumes, and the limits told by them: what a program compares is an end, what the limits say is of heads.
-- A volume that is present ends at start head plus heads and one that is absent at 0, and two intervals share no head where one ends before the other starts.
use Prim.Native.Nat.{◌+◌, ◌≤◌, ◌<◌, max}
use mathlib.Core.Logic.{◌⊎◌, inl, inr, ⊎_elim, by_cases, if_pos, if_neg}
use mathlib.Core.Path.{◌≡◌, ◌∙◌}
use native.Mathlib.Decide.{dec_le, dec_lt}
use native.Mathlib.Nat.{eq-zero-or-pos}
use native.Mathlib.Omega.{arith}
use Rattle.geometry.specs.declared.Geometry.{Geometry}
use Rattle.geometry.specs.declared.Volume.{Volume}
use Rattle.geometry.specs.declared.VolumeNumber.{VolumeNumber}
use Rattle.geometry.specs.declared.VolumeNumber.TheVariants.{Zero, One}
use Rattle.geometry.specs.Drive.{N, drive_heads, end, start, volume}
use Rattle.geometry.specs.Drive.Inside.{drive_heads_is, end_is}
use Rattle.geometry.specs.Limits.{Has, Present, VolumesWithin}

pub end_present : (v : Volume) → 0 < N v → end v ≡ start v + N v
end_present v some = end_is v ∙ if_pos (dec_lt 0 (N v)) some (start v + N v) 0

pub end_absent : (v : Volume) → N v ≡ 0 → end v ≡ 0
end_absent v gone = end_is v ∙ if_neg (dec_lt 0 (N v)) (λ some. omega arith) (start v + N v) 0

-- An end above 0 is that of a volume that is present.
pub ended : (v : Volume) → 0 < end v → (0 < N v) × (end v ≡ start v + N v)
ended v some =
    ⊎_elim (λ gone. omega (arith, end_absent v gone)) (λ here. (here, end_present v here)) (eq-zero-or-pos (N v))

-- The whole drive's heads reach to the end of each volume.
pub end_reached : (g : Geometry) (v : VolumeNumber) → end (volume g v) ≤ drive_heads g
end_reached g Zero = omega (arith, drive_heads_is g)
end_reached g One = omega (arith, drive_heads_is g)

pub heads_reached : (g : Geometry) (v : VolumeNumber) → N (volume g v) ≤ drive_heads g
heads_reached g v =
    ⊎_elim (λ gone. omega arith) (λ here. omega (arith, end_present (volume g v) here, end_reached g v))
    (eq-zero-or-pos (N (volume g v)))

module _ (g : Geometry) where
  abbrev v0 : Volume
  v0 = volume g Zero

  abbrev v1 : Volume
  v1 = volume g One

  pub within_of_ends :
      0 < end v0 → end v0 ≤ 64 → end v1 ≤ 64 → (end v1 ≤ start v0) ⊎ (end v0 ≤ start v1) → VolumesWithin g
  unfolding Present Has
  within_of_ends some low0 low1 aside =
      record {
        one_head = (ended v0 some).0;
        ends = λ v. elim v as (λ (w : VolumeNumber). Present (volume g w) → start (volume g w) + N (volume g w) ≤ 64) [ Zero ↦ λ p. omega (arith, ended v0 some) | One ↦ λ p. omega (arith, end_present v1 p) ];
        apart =
            λ p head h0 h1. ⊎_elim (λ e. omega (arith, end_present v1 p)) (λ e. omega (arith, ended v0 some)) aside;
      }

  pub some_of_within : VolumesWithin g → 0 < end v0
  unfolding Present
  some_of_within w = omega (arith, end_present v0 w.one_head)

  pub low_of_within : VolumesWithin g → (v : VolumeNumber) → end (volume g v) ≤ 64
  unfolding Present
  low_of_within w v =
      ⊎_elim (λ gone. omega (arith, end_absent (volume g v) gone))
      (λ here. omega (arith, end_present (volume g v) here, w.ends v here))
      (eq-zero-or-pos (N (volume g v)))

  pub heads_of_within : VolumesWithin g → drive_heads g ≤ 64
  heads_of_within w = omega (arith, drive_heads_is g, low_of_within w Zero, low_of_within w One)

  -- Where each starts below the other's end, the higher start head is shared.
  pub not_aside : VolumesWithin g → start v0 < end v1 → start v1 < end v0 → ⊥
  unfolding Present Has
  not_aside w in1 in0 =
      let e0 = ended v0 (omega arith) in
      let e1 = ended v1 (omega arith) in
      w.apart e1.0 (max (start v0) (start v1)) (omega arith) (omega arith)

  -- So one of two volumes inside the limits ends before the other starts.
  aside_of_within : VolumesWithin g → (end v1 ≤ start v0) ⊎ (end v0 ≤ start v1)
  aside_of_within w =
      by_cases (dec_le (end v1) (start v0)) (λ aside. inl aside)
      (λ in1. by_cases (dec_le (end v0) (start v1)) (λ aside. inr aside) (λ in0. absurd (not_aside w (omega arith) (omega arith))))

  -- So volumes are inside the limits where volume 0 has a head, both ends are low, and one ends before the other starts.
  pub within_of_parts :
      Present v0 → (end v0 ≤ 64) × (end v1 ≤ 64) → (end v1 ≤ start v0) ⊎ (end v0 ≤ start v1) → VolumesWithin g
  unfolding Present
  within_of_parts some low aside = within_of_ends (omega (arith, end_present v0 some)) low.0 low.1 aside

  pub parts_of_within : VolumesWithin g → ((end v0 ≤ 64) × (end v1 ≤ 64)) × ((end v1 ≤ start v0) ⊎ (end v0 ≤ start v1))
  parts_of_within w = ((low_of_within w Zero, low_of_within w One), aside_of_within w)
