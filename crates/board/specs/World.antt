-- What a run works on (01, What the board answers for): host memory, two disk images with their unit records, the event buffer; and which controller
-- runs it (02, K10), whose host memory and event buffer they are.
use Rattle.std.specs.Prelude.{ℕ, List}
use Rattle.unit.specs.declared.UnitNumber.{UnitNumber}
use Rattle.unit.specs.declared.UnitNumber.TheVariants.{Zero, One}
use Rattle.iopb.specs.Ask.{unit_asked}
use Rattle.iopb.specs.Layout.{block_at}
use Rattle.transfer.specs.Stores.{Buffers, after}
use Rattle.unit.specs.declared.Controller.{Controller}
use Rattle.unit.specs.Standing.{UnitRecord}
use Rattle.block.specs.Block.{Drive, Effect, effect_on}

pub record World : Type 0 where
  pub controller : Controller
  pub host : List ℕ
  pub drive0 : Drive
  pub drive1 : Drive
  pub events : List ℕ

-- The drive of a unit.
abbrev pub drive_of : World → UnitNumber → Drive
drive_of w Zero = w.drive0
drive_of w One = w.drive1

-- What a block for that unit works on, and the world once it has: the other unit's drive stays.
abbrev pub buffers_of : World → UnitNumber → Buffers
buffers_of w n = record { host = w.host; image = (drive_of w n).image; events = w.events }

abbrev pub changed : World → UnitNumber → Buffers → UnitRecord → World
changed w Zero m u =
    record { controller = w.controller; host = m.host; drive0 = record { unit = u; image = m.image }; drive1 = w.drive1; events = m.events }
changed w One m u =
    record { controller = w.controller; host = m.host; drive0 = w.drive0; drive1 = record { unit = u; image = m.image }; events = m.events }

-- The unit that the block at an address names, and what the block does to the world: it works on that unit's drive.
abbrev pub unit_at : World → ℕ → UnitNumber
unit_at w at = unit_asked (block_at w.host at)

unfoldable pub effect_at : ℕ → ℕ → World → Effect
effect_at at i w = effect_on w.controller w.host (drive_of w (unit_at w at)) at i

unfoldable pub world_after : ℕ → ℕ → World → World
world_after at i w =
    let e = effect_at at i w in
    changed w (unit_at w at) (after e.stores (buffers_of w (unit_at w at))) e.unit
