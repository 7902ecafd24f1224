-- Who holds a drive that two controllers share (02, K10).
use Rattle.std.specs.Prelude.{Bool, true, false, Option, None, Some}
use Rattle.unit.specs.declared.Controller.{Controller}
use Rattle.unit.specs.declared.Controller.TheVariants.{First, Second}

-- "A holder field says none, first or second".
abbrev pub Holder : Type 0
Holder = Option Controller

-- A controller as the holder of a drive.
abbrev pub as_holder : Controller → Holder
as_holder c = Some c

-- "a drive held by the other controller"
abbrev pub held_by_other : Controller → Holder → Bool
held_by_other First None = false
held_by_other First (Some First) = false
held_by_other First (Some Second) = true
held_by_other Second None = false
held_by_other Second (Some First) = true
held_by_other Second (Some Second) = false

-- Who holds the drive once a block of a controller, other than 86, has succeeded: "RV on a successful block takes or keeps the drive; a successful block without RV
-- gives it up".
abbrev pub reserved_by : Controller → (reserve : Bool) → Holder
reserved_by c true = as_holder c
reserved_by c false = None
