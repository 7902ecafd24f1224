-- Pairs of chains where a drive is held, and pairs on two controllers (02, K10).
use Rattle.std.specs.Prelude.{ℕ, List, ◌++◌, ◌≡◌, replicate, Some}
use Rattle.board.specs.declared.chain.Outcome.{Outcome}
use Rattle.wire.specs.Among.{Among}
use Rattle.answers.specs.declared.RunAnswer.{RunAnswer}
use Rattle.unit.specs.declared.Controller.TheVariants.{Second as SecondController}
use Rattle.unit.specs.Standing.{held_by}
use Rattle.independence.specs.Chains.{Both, Chain, First, HostReads, HostWrites, Second, run_of, world_for}
use Rattle.independence.specs.Demand3.{EitherWay, Independent, NoUnitInCommon, NoByteReadByOther, NoByteWrittenByBoth}
use Rattle.independence.specs.TwoChains.{block, come, drive_with, first_in, of_first, of_second, one, scatter, starting, two, two_by}
use Rattle.block.specs.Block.{Drive}
use Rattle.board.specs.World.{World}

-- ---- on one controller, the first

-- A drive that the second holds.
abbrev pub held_drive : Drive
held_drive = let d = drive_with 9 0 in record { unit = held_by d.unit (Some SecondController); image = d.image }

-- A read from unit 0 to bytes 56 to 119, and an initialize of unit 1 whose UIB begins at 56.
abbrev pub held_uib : Both
held_uib = starting (block 0x81 0x10 0 1 56) (block 0x87 0x80 0 0 56) (drive_with 7 0) held_drive

-- The same read, and a scatter from unit 1 whose list of one element begins at 56.
abbrev pub held_list : Both
held_list = starting (block 0x81 0x10 0 1 56) (scatter 0x90 1 56) (drive_with 7 0) held_drive

-- ---- on two controllers: the first chain is the first one's, and the second chain the second one's

abbrev pub other : Chain
other = two_by SecondController

abbrev pub other_in : Both → World
other_in s = world_for Second SecondController s

abbrev pub of_other : Both → Outcome
of_other s = (run_of Second other).out s

-- The first block at 0 of the first memory, the second at 28 of the second; both have 320 bytes.
abbrev pub on_two : List ℕ → List ℕ → Both
on_two first second =
    record {
      host1 = first ++ replicate 292 0;
      host2 = replicate 28 0 ++ second ++ replicate 264 0;
      drive0 = drive_with 7 0;
      drive1 = drive_with 9 0;
      events1 = replicate 512 0;
      events2 = replicate 512 0;
    }

-- A read from unit 0 to bytes 28 to 91 of the one memory, where the second block stands in the other; and a read from unit 1 to bytes 0 to 63 of
-- the other, where the first block stands in the one.
abbrev pub same_bytes : Both
same_bytes = on_two (block 0x81 0x10 0 1 28) (block 0x81 0x90 0 1 0)

-- Two restores of unit 0, the first with RV, which is 08.
abbrev pub shared_drive : Both
shared_drive = on_two (block 0x89 0x08 0 0 0) (block 0x89 0x00 0 0 0)

-- ---- what becomes of them

pub record MetByTwo : Type 0 where
  -- byte 56, which the first writes, is one of the UIB that the second asked for
  pub held_uib_lem : Independent one two held_uib
  pub uib_not_read : (of_second held_uib ≡ come RunAnswer.BlockFailed 24 0) × (Among 56 18 56 × HostWrites one (first_in held_uib) 56)
  -- and of the list
  pub held_list_lem : Independent one two held_list
  pub list_not_read : (of_second held_list ≡ come RunAnswer.BlockFailed 24 0) × (Among 56 8 56 × HostWrites one (first_in held_list) 56)
  -- byte 30 is written by both, each in its own memory, and read by the second
  pub same_bytes_lem : Independent one other same_bytes
  pub both_move : (of_first same_bytes ≡ come RunAnswer.Done 0 1) × (of_other same_bytes ≡ come RunAnswer.Done 0 1)
  pub byte_30 :
      HostWrites one (first_in same_bytes) 30 × (HostWrites other (other_in same_bytes) 30 × HostReads other (other_in same_bytes) 30)

-- The second is done alone, and refused once the first has taken the drive.
pub record FailsByTwo : Type 0 where
  pub alone : of_other shared_drive ≡ come RunAnswer.Done 0 0
  pub after_the_first : of_other ((run_of First one).left shared_drive) ≡ come RunAnswer.BlockFailed 24 0
  pub shared_drive_lem :
      (NoUnitInCommon one other shared_drive → ⊥) ×
      (NoByteWrittenByBoth one other shared_drive × (NoByteReadByOther one other shared_drive × (EitherWay one other shared_drive → ⊥)))
