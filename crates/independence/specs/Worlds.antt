-- A world as a state with cells (Local): what a block or a chain on it touches.
use Rattle.std.specs.Prelude.{ℕ, List, get_or, length}
use Rattle.unit.specs.declared.UnitNumber.{UnitNumber}
use Rattle.unit.specs.declared.Controller.{Controller}
use Rattle.independence.specs.Local.{Kind}
use Rattle.block.specs.Block.{Drive}
use Rattle.board.specs.World.{World, drive_of}

-- The cells: each byte of host memory, each unit's drive, its record with table and holder and its image, and the event buffer. Host memory keeps its length, and the run
-- its controller (02, K10).
pub data WorldCell : Type 0 where
  byte : ℕ → WorldCell
  disk : UnitNumber → WorldCell
  events : WorldCell

abbrev pub Holds : WorldCell → Type 0
Holds (byte x) = ℕ
Holds (disk n) = Drive
Holds events = List ℕ

abbrev pub holds : World → (c : WorldCell) → Holds c
holds w (byte x) = get_or w.host x 0
holds w (disk n) = drive_of w n
holds w events = w.events

abbrev pub worlds : Kind
worlds =
    record {
      State = World;
      Shape = Controller × ℕ;
      shape = λ w. (w.controller, length w.host);
      Cell = WorldCell;
      Value = Holds;
      get = holds;
    }

-- Some bytes of host memory, the drives of some units, and the event buffer. Drives and event buffer are taken whole, as read and written:
-- more than a chain touches, and all that demand 3 asks.
abbrev pub Touches : (ℕ → Type 0) → (UnitNumber → Type 0) → WorldCell → Type 0
Touches bytes units (byte x) = bytes x
Touches bytes units (disk n) = units n
Touches bytes units events = Unit {0}
