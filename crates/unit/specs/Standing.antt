-- The unit record and when it counts as initialized (01, Geometry; 02, K5 and K10).
use Rattle.std.specs.Prelude.{ℕ, ◌<◌, Bool, true, List, ◌≡◌, replicate, None}
use Rattle.geometry.specs.declared.Geometry.{Geometry}
use Rattle.geometry.specs.Drive.{C}
use Rattle.geometry.specs.Limits.{Within}
use Rattle.spares.specs.Table.{Good, one_pair_more, with_pair}
use Rattle.unit.specs.Holding.{Holder}
use Rattle.unit.specs.declared.Record.{Record}
use Rattle.unit.specs.declared.Unit.{Unit}

-- A unit's record: "whether the unit is initialized, its geometry and its cylinder", "a table of 32 pairs" (02, K5), of which so many count, and who
-- holds the drive (02, K10).
-- Whoever stands above takes one apart and makes one by the names that follow and by no other, so that a record can come to hold more.
abbrev pub UnitRecord : Type 0
UnitRecord = Unit

abbrev pub initialized : UnitRecord → Bool
initialized u = u.value.initialized

abbrev pub geometry : UnitRecord → Geometry
geometry u = u.value.geometry

abbrev pub cylinder : UnitRecord → ℕ
cylinder u = u.value.cylinder

-- How many pairs of the table count, and its tracks.
abbrev pub pairs : UnitRecord → ℕ
pairs u = u.value.pairs

abbrev pub table : UnitRecord → List ℕ
table u = u.tracks

-- Who holds the drive.
abbrev pub holder : UnitRecord → Holder
holder u = u.value.holder

-- A record in two parts, as the code has it: what goes by value, and the table, which is lent.
abbrev pub unit_of : Record → List ℕ → UnitRecord
unit_of r ts = record { value = r; tracks = ts }

abbrev pub by_value : UnitRecord → Record
by_value u = u.value

-- What goes by value, from what it is to say.
abbrev pub value_of : Bool → Geometry → (cylinder pairs : ℕ) → Holder → Record
value_of initialized geometry cylinder pairs holder =
    record { initialized = initialized; geometry = geometry; cylinder = cylinder; pairs = pairs; holder = holder }

-- A table without pairs.
abbrev pub no_tracks : List ℕ
no_tracks = replicate 64 0

-- A unit that has just been initialized: "cylinder 0" (01, One run, 87), and "A successful 87 clears the table" (02, K5). Nobody
-- holds it here: the block that initialized it says who does.
abbrev pub fresh : Geometry → UnitRecord
fresh g = unit_of (value_of true g 0 0 None) no_tracks

-- The same unit with another holder (02, K10).
abbrev pub held_by : UnitRecord → Holder → UnitRecord
held_by u h = unit_of (value_of (initialized u) (geometry u) (cylinder u) (pairs u) h) (table u)

-- The same unit with its heads on a cylinder.
abbrev pub moved_to : UnitRecord → ℕ → UnitRecord
moved_to u c = unit_of (value_of (initialized u) (geometry u) c (pairs u) (holder u)) (table u)

-- The same unit with a pair more at the end of its table (02, K5): 85 "moves neither data nor heads".
abbrev pub mapped : UnitRecord → (bad spare : ℕ) → UnitRecord
mapped u bad spare =
    let more = value_of (initialized u) (geometry u) (cylinder u) (one_pair_more (pairs u)) (holder u) in
    unit_of more (with_pair (pairs u) (table u) bad spare)

-- A record that says so counts as initialized, but not "with a geometry outside the limits, or a cylinder of C or more", nor with a table that is
-- not good (02, K5). Who holds the drive is not asked.
pub record CountsAsInitialized (u : UnitRecord) : Type 0 where
  pub said : initialized u ≡ true
  pub within : Within (geometry u)
  pub cylinder : cylinder u < C (geometry u)
  pub good : Good (geometry u) (pairs u) (table u)
