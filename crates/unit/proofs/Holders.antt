-- A holder is found again by its number, so that two holders with one number are one.
use Rattle.std.proofs.Common.{None, Some}
use mathlib.Core.Path.{◌≡◌, refl, sym, ap, ◌∙◌}
use Rattle.unit.specs.declared.Controller.TheVariants.{First, Second}
use Rattle.unit.specs.Holding.{Holder}
use Rattle.unit.specs.HolderNumbers.{holder_number, holder_of}

pub holder_back : (h : Holder) → holder_of (holder_number h) ≡ h
unfolding holder_of
holder_back None = refl
holder_back (Some First) = refl
holder_back (Some Second) = refl

pub holders_differ : (h k : Holder) → holder_number h ≡ holder_number k → h ≡ k
holders_differ h k same = sym (holder_back h) ∙ ap holder_of same ∙ holder_back k
