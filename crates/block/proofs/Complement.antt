-- A signed number and its two's complement, as they stand in 32 bits.
-- The complement is what the machine holds of the number, and what it holds, read as signed, is the number again.
use mathlib.Core.Path.{◌≡◌, refl, sym, ap, ◌∙◌}
use native.Mathlib.Numerals.{add-one}
use lib.IntN.{ℤ, pos, negsuc}
use mir.Syntax.{w32}
use mir.Val.{SFits, of_z, to_z}
use mir.ValLaws.{to_z-of_z}
use Rattle.block.specs.Events.{twos_complement}

pub complement_held : (z : ℤ) → twos_complement z ≡ of_z w32 z
complement_held (pos n) = refl
complement_held (negsuc n) = rw add-one

-- Two numbers of 32 bits with one complement are one number.
pub complements_differ : (y z : ℤ) → SFits w32 y → SFits w32 z → twos_complement y ≡ twos_complement z → y ≡ z
complements_differ y z f g same =
    sym (to_z-of_z w32 y f)
    ∙ ap (to_z w32) (sym (complement_held y) ∙ same ∙ complement_held z)
    ∙ to_z-of_z w32 z g
