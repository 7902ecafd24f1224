-- Demand 3. Take any two host memories, one of each controller (02, K10), two drives of any contents and lengths, and two separate event buffers; take
-- two chains, each by the controller that runs it, the address of its first block and its allowance, and follow each alone from there. If the
-- blocks that they fetch name no unit in common, and, where one controller runs both, no host byte that one writes is read or written by the
-- other, then running the first and then the second, and the second and then the first, leaves the same memories, images, unit records,
-- holders and event buffers; and each chain gives the same answer, failed number and counts in both orders, which are those that it gives
-- alone. A run that is refused fetches no block and is covered too; so is a chain that writes over its own blocks, for a chain may read what
-- it wrote itself.
use Rattle.std.specs.Prelude.{ℕ, ◌≡◌}
use Rattle.board.specs.declared.chain.Outcome.{Outcome}
use Rattle.unit.specs.declared.Controller.{Controller}
use Rattle.unit.specs.declared.UnitNumber.{UnitNumber}
use Rattle.independence.specs.Chains.{Both, BothCell, Chain, First, HostReads, HostWrites, Names, Second, Which, both, drive_in, events_of, holds, host_of, run_of, world_for}
use Rattle.independence.specs.Local.{Step}
use Rattle.board.specs.World.{World}

module _ (one two : Chain) (s : Both) where
  -- What each finds, followed alone.
  abbrev pub first_finds : World
  first_finds = world_for First one.controller s

  abbrev pub second_finds : World
  second_finds = world_for Second two.controller s

  -- "the blocks they fetch name no unit in common": "the chains share no drive, whichever controller runs them" (02, K10)
  abbrev pub NoUnitInCommon : Type 0
  NoUnitInCommon = (n : UnitNumber) → Names one first_finds n → Names two second_finds n → ⊥

  -- A host byte is a controller and an index: what chains on two controllers read and write is never the same byte.
  abbrev pub OnOneController : Type 0
  OnOneController = one.controller ≡ two.controller

  -- "no host byte that one writes is .. written by the other"
  abbrev pub NoByteWrittenByBoth : Type 0
  NoByteWrittenByBoth = OnOneController → (x : ℕ) → HostWrites one first_finds x → HostWrites two second_finds x → ⊥

  -- "no host byte that one writes is read .. by the other"
  abbrev pub NoByteReadByOther : Type 0
  NoByteReadByOther =
      OnOneController → (x : ℕ) →
      (HostWrites one first_finds x → HostReads two second_finds x → ⊥) × (HostWrites two second_finds x → HostReads one first_finds x → ⊥)

  -- The condition. That "their event buffers are separate" is in `Both`, which has two.
  pub record Independent : Type 0 where
    pub units : NoUnitInCommon
    pub written : NoByteWrittenByBoth
    pub read : NoByteReadByOther

  -- The two runs, and all that is there once both are made.
  abbrev first_run : Step both Outcome
  first_run = run_of First one

  abbrev second_run : Step both Outcome
  second_run = run_of Second two

  abbrev pub first_then_second : Both
  first_then_second = second_run.left (first_run.left s)

  abbrev pub second_then_first : Both
  second_then_first = first_run.left (second_run.left s)

  -- How each ends where it comes first, and where it comes after the other.
  abbrev pub first_alone : Outcome
  first_alone = first_run.out s

  abbrev pub first_after : Outcome
  first_after = first_run.out (second_run.left s)

  abbrev pub second_alone : Outcome
  second_alone = second_run.out s

  abbrev pub second_after : Outcome
  second_after = second_run.out (first_run.left s)

  -- "running them in either order gives the same memory, images, unit records, events, answers and counts": the first and then the second, beside the
  -- second and then the first. A unit's record has its table and its holder.
  pub record EitherWay : Type 0 where
    pub memory : (c : Controller) → host_of first_then_second c ≡ host_of second_then_first c
    pub images : (n : UnitNumber) → (drive_in first_then_second n).image ≡ (drive_in second_then_first n).image
    pub records : (n : UnitNumber) → (drive_in first_then_second n).unit ≡ (drive_in second_then_first n).unit
    pub events : (t : Which) → events_of first_then_second t ≡ events_of second_then_first t
    pub answers : (first_alone.answer ≡ first_after.answer) × (second_after.answer ≡ second_alone.answer)
    pub failed_numbers : (first_alone.failed ≡ first_after.failed) × (second_after.failed ≡ second_alone.failed)
    pub blocks : (first_alone.blocks ≡ first_after.blocks) × (second_after.blocks ≡ second_alone.blocks)
    pub sectors : (first_alone.sectors ≡ first_after.sectors) × (second_after.sectors ≡ second_alone.sectors)

  -- And more than is asked for: each stores, in every cell that it writes, what it stores alone.
  pub record StoresAsAlone : Type 0 where
    pub by_first : (c : BothCell) → first_run.Writes s c → holds first_then_second c ≡ holds (first_run.left s) c
    pub by_second : (c : BothCell) → second_run.Writes s c → holds first_then_second c ≡ holds (second_run.left s) c

abbrev pub Demand3 : Type 0
Demand3 = (one two : Chain) (s : Both) → Independent one two s → EitherWay one two s

abbrev pub AsEachAlone : Type 0
AsEachAlone = (one two : Chain) (s : Both) → Independent one two s → StoresAsAlone one two s
