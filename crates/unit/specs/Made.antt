-- Records that code and examples make, and one without its table.
use Rattle.std.specs.Prelude.{ℕ, Bool, false, List, [], None}
use Rattle.geometry.specs.declared.Geometry.{Geometry}
use Rattle.geometry.specs.Drive.{geometry_of, volume_of}
use Rattle.unit.specs.declared.Record.{Record}
use Rattle.unit.specs.Standing.{UnitRecord, by_value, fresh, held_by, value_of, mapped, moved_to, no_tracks, unit_of}
use Rattle.unit.specs.Holding.{Holder}

-- What goes by value alone, for whoever asks it what no table tells. Without a table it never counts as initialized.
abbrev pub bare : Record → UnitRecord
bare r = unit_of r []

-- What becomes of what goes by value: a unit just initialized, one with another holder, one with its heads on a cylinder, and one with a pair more.
abbrev pub freshly : Geometry → Record
freshly g = by_value (fresh g)

abbrev pub with_holder : Record → Holder → Record
with_holder r h = by_value (held_by (bare r) h)

abbrev pub heads_on : Record → ℕ → Record
heads_on r c = by_value (moved_to (bare r) c)

abbrev pub more_held : Record → Record
more_held r = by_value (mapped (bare r) 0 0)

-- A unit of which each thing is said, with nobody holding it: its four by value, and its table.
abbrev pub record_of : Bool → Geometry → ℕ → ℕ → List ℕ → UnitRecord
record_of initialized geometry cylinder pairs ts = unit_of (value_of initialized geometry cylinder pairs None) ts

-- A unit of which nothing is said.
abbrev pub nothing_said : Record
nothing_said = value_of false (geometry_of 0 0 0 (volume_of 0 0) (volume_of 0 0)) 0 0 None

abbrev pub blank : UnitRecord
blank = unit_of nothing_said no_tracks
