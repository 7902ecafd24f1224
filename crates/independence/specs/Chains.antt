-- A chain run on its world, and two chains, each run by either controller, on the memories of the two, the drives that they share, and an event
-- buffer for each chain (00, demand 3; 02, K10), as steps with a footprint.
use Rattle.std.specs.Prelude.{ℕ, List, ◌≡◌, get_or, length}
use Rattle.board.specs.declared.chain.Outcome.{Outcome}
use Rattle.unit.specs.declared.UnitNumber.{UnitNumber}
use Rattle.unit.specs.declared.UnitNumber.TheVariants.{Zero, One}
use Rattle.unit.specs.declared.Controller.{Controller}
use Rattle.unit.specs.declared.Controller.TheVariants.{First as FirstController, Second as SecondController}
use Rattle.board.specs.Ends.{end_of}
use Rattle.board.specs.Chain.{ran}
use Rattle.demands.specs.Footprint.{RunNames, RunReads, RunWrites}
use Rattle.independence.specs.Local.{Kind, Place, Step, placed}
use Rattle.independence.specs.Worlds.{Touches, byte, disk, events, worlds}
use Rattle.block.specs.Block.{Drive}
use Rattle.board.specs.World.{World}

-- A chain as it is asked for: the controller that runs it, and "the address of a first IOPB (a "block") and an allowance".
pub record Chain : Type 0 where
  pub controller : Controller
  pub first : ℕ
  pub allowance : ℕ

-- What a chain followed alone names, reads and writes: its units and its bytes of host memory.
module _ (c : Chain) (w : World) where
  abbrev pub Names : UnitNumber → Type 0
  Names = RunNames c.first c.allowance w

  abbrev pub HostReads : ℕ → Type 0
  HostReads = RunReads c.first c.allowance w

  abbrev pub HostWrites : ℕ → Type 0
  HostWrites = RunWrites c.first c.allowance w

-- The run of a chain as a step on its world. Its footprint is that of the chain followed alone.
abbrev pub run_on : Chain → Step worlds Outcome
run_on c =
    record {
      out = λ w. end_of (ran c.first c.allowance w);
      left = λ w. (ran c.first c.allowance w).world;
      Reads = λ w. Touches (HostReads c w) (Names c w);
      Writes = λ w. Touches (HostWrites c w) (Names c w);
    }

-- ---- two of them

-- Which of two chains, by name and not by order.
pub data Which : Type 0 where
  First : Which
  Second : Which

-- "Each has its own host memory" (02, K10): host1 is the first controller's, host2 the second's. An event buffer
-- is a chain's.
pub record Both : Type 0 where
  pub host1 : List ℕ
  pub host2 : List ℕ
  pub drive0 : Drive
  pub drive1 : Drive
  pub events1 : List ℕ
  pub events2 : List ℕ

abbrev pub events_of : Both → Which → List ℕ
events_of s First = s.events1
events_of s Second = s.events2

abbrev pub host_of : Both → Controller → List ℕ
host_of s FirstController = s.host1
host_of s SecondController = s.host2

abbrev pub drive_in : Both → UnitNumber → Drive
drive_in s Zero = s.drive0
drive_in s One = s.drive1

-- The world that a chain run by a controller finds, and what is there when it has left its world.
abbrev pub world_for : Which → Controller → Both → World
world_for t c s = record { controller = c; host = host_of s c; drive0 = s.drive0; drive1 = s.drive1; events = events_of s t }

-- Of two memories or two event buffers, the one of a controller or a chain is put, and the other stays.
abbrev pub put_host : Controller → List ℕ → Both → Both
put_host FirstController h s = record { host1 = h; host2 = s.host2; drive0 = s.drive0; drive1 = s.drive1; events1 = s.events1; events2 = s.events2 }
put_host SecondController h s = record { host1 = s.host1; host2 = h; drive0 = s.drive0; drive1 = s.drive1; events1 = s.events1; events2 = s.events2 }

abbrev pub put_events : Which → List ℕ → Both → Both
put_events First e s = record { host1 = s.host1; host2 = s.host2; drive0 = s.drive0; drive1 = s.drive1; events1 = e; events2 = s.events2 }
put_events Second e s = record { host1 = s.host1; host2 = s.host2; drive0 = s.drive0; drive1 = s.drive1; events1 = s.events1; events2 = e }

abbrev pub put_drives : Drive → Drive → Both → Both
put_drives d e s = record { host1 = s.host1; host2 = s.host2; drive0 = d; drive1 = e; events1 = s.events1; events2 = s.events2 }

abbrev pub leaving : Which → Controller → Both → World → Both
leaving t c s w = put_drives w.drive0 w.drive1 (put_events t w.events (put_host c w.host s))

-- The cells: each byte of each controller's memory, each unit's drive, its record with table and holder and its image, and each event buffer. The memories keep
-- their lengths.
pub data BothCell : Type 0 where
  memory_byte : Controller → ℕ → BothCell
  drive : UnitNumber → BothCell
  event_buffer : Which → BothCell

abbrev pub Holds : BothCell → Type 0
Holds (memory_byte c x) = ℕ
Holds (drive n) = Drive
Holds (event_buffer t) = List ℕ

abbrev pub holds : Both → (c : BothCell) → Holds c
holds s (memory_byte c x) = get_or (host_of s c) x 0
holds s (drive n) = drive_in s n
holds s (event_buffer t) = events_of s t

abbrev pub both : Kind
both =
    record {
      State = Both;
      Shape = ℕ × ℕ;
      shape = λ s. (length s.host1, length s.host2);
      Cell = BothCell;
      Value = Holds;
      get = holds;
    }

-- The cells that are some cells of the world of one of the two chains, which a controller runs.
abbrev pub cells_of : Which → Controller → (worlds.Cell → Type 0) → BothCell → Type 0
cells_of t c P (memory_byte d x) = (c ≡ d) × P (byte x)
cells_of t c P (drive n) = P (disk n)
cells_of t c P (event_buffer u) = (t ≡ u) × P events

-- Where the world of one of the two lies: everywhere but in the event buffer of the other chain, and in the memory of the other controller.
abbrev pub place_of : Which → Controller → Place worlds both
place_of t c = record { seen = world_for t c; back = leaving t c; Cells = cells_of t c }

-- The run of a chain, as one of the two.
abbrev pub run_of : Which → Chain → Step both Outcome
run_of t k = placed (place_of t k.controller) (run_on k)
