-- The kind of worlds is stable.
-- Each cell holds a number, a list of numbers or a drive, and whether two of these are equal is decided.
use Prim.Native.Nat.{ℕ}
use mathlib.Core.List.{List, List-discrete}
use mathlib.Core.Logic.Dec
use mathlib.Core.Logic.{by_cases}
use mathlib.Core.Path.{◌≡◌, ap}
use native.Mathlib.Decide.{map_dec, ℕ_discrete}
use Rattle.unit.proofs.Decided.{same_with_table?}
use Rattle.independence.specs.Local.{Stable}
use Rattle.independence.specs.Worlds.{WorldCell, Holds, byte, disk, events, worlds}
use Rattle.block.specs.Block.{Drive}

-- ---- what a cell may hold

drive? : (d e : Drive) → Dec (d ≡ e)
drive? d e =
    map_dec (λ p i. record { unit = p.0 i; image = p.1 i }) (λ p. (ap (λ x. x.unit) p, ap (λ x. x.image) p))
    (Dec.and (same_with_table? d.unit e.unit) (List-discrete ℕ_discrete d.image e.image))

certain : {A : Type 0} {x y : A} → Dec (x ≡ y) → ((x ≡ y → ⊥) → ⊥) → x ≡ y
certain d not-not = by_cases d (λ same. same) (λ differ. absurd (not-not differ))

pub byte_certain : (x y : ℕ) → ((x ≡ y → ⊥) → ⊥) → x ≡ y
byte_certain x y h = certain (ℕ_discrete x y) h

pub drive_certain : (x y : Drive) → ((x ≡ y → ⊥) → ⊥) → x ≡ y
drive_certain x y h = certain (drive? x y) h

pub buffer_certain : (x y : List ℕ) → ((x ≡ y → ⊥) → ⊥) → x ≡ y
buffer_certain x y h = certain (List-discrete ℕ_discrete x y) h

-- ---- the kind

stable : (c : WorldCell) (x y : Holds c) → ((x ≡ y → ⊥) → ⊥) → x ≡ y
stable (byte n) = byte_certain
stable (disk n) = drive_certain
stable events = buffer_certain

pub worlds_stable : Stable worlds
worlds_stable = record { stable = stable }
