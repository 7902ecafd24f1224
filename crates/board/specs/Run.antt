-- What `run` promises (01, What the board answers for): what a caller lends and says, as a world, and that the call came to what the chain comes to.
use Rattle.std.specs.Prelude.{ℕ, List, ◌≡◌}
use Rattle.unit.specs.declared.Controller.{Controller}
use Rattle.board.specs.declared.Units.{Units}
use Rattle.board.specs.World.{World}
use Rattle.board.specs.declared.chain.Outcome.{Outcome}
use Rattle.board.specs.Chain.{Ending}

-- What a caller lends and says, as a world.
abbrev pub world_of : Controller → (host image0 image1 events : List ℕ) → Units → World
world_of c host image0 image1 events units =
    record {
      controller = c;
      host = host;
      drive0 = record { unit = units.zero; image = image0 };
      drive1 = record { unit = units.one; image = image1 };
      events = events;
    }

-- The units of a world.
abbrev pub units_of : World → Units
units_of w = record { zero = w.drive0.unit; one = w.drive1.unit }

-- What a run came to: how its chain ended.
abbrev pub outcome_of : Ending → Outcome
outcome_of e = record { answer = e.answer; failed = e.failed; blocks = e.tally.blocks; sectors = e.tally.sectors }

-- A call that left the world w and returned r came to what the chain comes to.
pub record CameTo (e : Ending) (w : World) (r : Outcome) : Type 0 where
  pub result : r ≡ outcome_of e
  pub world : w ≡ e.world
