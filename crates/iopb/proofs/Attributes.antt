-- Which bit of a UIB says the order, by the manual's own UIB and the small drive's: bit 04 of byte E alone.
-- Each line is the definition at eighteen bytes.
use Prim.Native.Nat.{ℕ}
use mathlib.Core.Bool.{false}
use mathlib.Core.List.{List, [], ◌∷◌}
use mathlib.Core.Path.{◌≡◌, refl}
use Rattle.geometry.specs.declared.Geometry.{Geometry}
use Rattle.geometry.specs.Default.{table11}
use Rattle.geometry.specs.Drive.{geometry_of, volume_of, with_increment}
use Rattle.wire.specs.Words.{word}
use Rattle.iopb.specs.Layout.{uib_at}

-- Table 11 of source document 000 makes the default, its attributes 05 called "increment by head, and reseek".
pub table_11_is_by_head :
    uib_at (0 ∷ 10 ∷ 0 ∷ 0 ∷ 64 ∷ 0 ∷ 2 ∷ 0 ∷ 0x10 ∷ 0x20 ∷ 1 ∷ 3 ∷ 2 ∷ 0x84 ∷ 0x05 ∷ 0 ∷ 1 ∷ 0xFF ∷ []) 0 ≡ table11
unfolding word
table_11_is_by_head = refl

-- The small drive of 01, with any attributes.
abbrev uib : ℕ → List ℕ
uib attributes = 0 ∷ 2 ∷ 2 ∷ 1 ∷ 4 ∷ 0 ∷ 0 ∷ 64 ∷ 0x10 ∷ 0x20 ∷ 1 ∷ 3 ∷ 0 ∷ 10 ∷ attributes ∷ 0 ∷ 1 ∷ 0xFF ∷ []

abbrev drive : Geometry
drive = geometry_of 10 4 64 (volume_of 0 2) (volume_of 2 1)

-- The bit alone, and all the others.
pub bit_04_is_by_head : uib_at (uib 0x04) 0 ≡ drive
unfolding word
bit_04_is_by_head = refl

pub no_other_bit_is : uib_at (uib 0xFB) 0 ≡ with_increment false drive
unfolding word
no_other_bit_is = refl
