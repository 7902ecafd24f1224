-- The numbers that stand for holders where a record is lent or crosses as bytes (02, K10).
use Rattle.std.specs.Prelude.{ℕ, cond, eqb, None, Some}
use Rattle.unit.specs.declared.Controller.TheVariants.{First, Second}
use Rattle.unit.specs.Holding.{Holder}

-- Each holder has a number.
abbrev pub holder_number : Holder → ℕ
holder_number None = 0
holder_number (Some First) = 1
holder_number (Some Second) = 2

-- The holder with a number; any other number is nobody's.
unfoldable pub holder_of : ℕ → Holder
holder_of n = cond (eqb n 1) (Some First) (cond (eqb n 2) (Some Second) None)
