-- Pairs of chains for demand 3 (00; 02, K10): what its condition lets through, and what goes wrong where one part of it fails. In every pair the
-- first chain is the block at 0 and the second the block at 28, each with an allowance of 1. Both are run by the first controller. NotCounted has
-- pairs that show what does not count, FromDisk a chain of two blocks, and TwoControllers the pairs of K10.
use Rattle.std.specs.Prelude.{ℕ, false, List, [], ◌∷◌, ◌++◌, ◌⊎◌, ◌↔◌, ◌≡◌, replicate}
use Rattle.board.specs.declared.chain.Outcome.{Outcome}
use Rattle.wire.specs.Among.{Among}
use Rattle.answers.specs.declared.RunAnswer.{RunAnswer}
use Rattle.geometry.specs.declared.Geometry.{Geometry}
use Rattle.geometry.specs.Drive.{geometry_of, volume_of}
use Rattle.unit.specs.declared.Controller.{Controller}
use Rattle.unit.specs.declared.Controller.TheVariants.{First as FirstController}
use Rattle.unit.specs.Standing.{fresh, no_tracks}
use Rattle.independence.specs.Chains.{Both, Chain, First, HostReads, HostWrites, Second, run_of, world_for}
use Rattle.independence.specs.Demand3.{EitherWay, Independent, NoUnitInCommon, NoByteReadByOther, NoByteWrittenByBoth}
use Rattle.block.specs.Block.{Drive}
use Rattle.board.specs.World.{World}
use Rattle.unit.specs.Made.{record_of}

-- One head, and so many cylinders with so many sectors of 64 bytes each. The pairs have two cylinders with one sector; an image has 130 bytes, of
-- which the last two are the marks.
abbrev pub shaped : (cylinders sectors : ℕ) → Geometry
shaped cylinders sectors = geometry_of cylinders sectors 64 (volume_of 0 1) (volume_of 0 0)

abbrev pub tiny : Geometry
tiny = shaped 2 1

-- A drive with the heads on cylinder 0; and one whose data bytes are all alike, with the mark of its second sector.
abbrev pub drive_on : List ℕ → Drive
drive_on image = record { unit = fresh tiny; image = image }

abbrev pub drive_with : ℕ → ℕ → Drive
drive_with byte mark = drive_on (replicate 128 byte ++ (0 ∷ mark ∷ []))

-- One that is not initialized.
abbrev pub new_drive : Drive
new_drive = record { unit = record_of false tiny 0 0 no_tracks; image = [] }

-- A block without link or interrupt: its command and options, the logical number of its first sector, its count, and the address of its
-- buffer or its UIB. Options 10 are XL, and 80 is UN.
abbrev pub block : (command options number count address : ℕ) → List ℕ
block command options number count address =
    command ∷ options ∷ 0 ∷ 0 ∷ 0 ∷ 0 ∷ 0 ∷ number ∷ 0 ∷ count ∷ 0 ∷ 0 ∷ 0 ∷ address ∷ replicate 14 0

-- A scatter of the first sector, with a list of so many elements at an address.
abbrev pub scatter : (options elements list : ℕ) → List ℕ
scatter options elements list = 0xa1 ∷ options ∷ 0 ∷ 0 ∷ 0 ∷ 0 ∷ 0 ∷ 0 ∷ 0 ∷ 1 ∷ 0 ∷ 0 ∷ 0 ∷ list ∷ replicate 13 0 ++ (elements ∷ [])

-- A block of which the words from 2 on are a UIB that says `tiny`, as long as nobody has written them: 1 head from head 0 on, no second
-- volume, 1 sector, 64 bytes, 2 cylinders, increment by head.
abbrev pub over_uib : (command options : ℕ) → List ℕ
over_uib command options =
    command ∷ options ∷ 0 ∷ 0 ∷ 0 ∷ 1 ∷ 0 ∷ 0 ∷ 1 ∷ 0 ∷ 0 ∷ 64 ∷ 0 ∷ 0 ∷ 0 ∷ 0 ∷ 0 ∷ 2 ∷ 4 ∷ replicate 9 0

-- A format of the first track with data from byte 256 on, and with a sector number that says nothing. Its words from 4 on are a UIB: start head 0,
-- no second volume, 1 sector, 64 bytes, 2 cylinders, increment by head. The number of heads stands in the lower byte of word 4: it is 0 until the format says there
-- that 1 sector was formatted, and then the UIB says `tiny`.
abbrev pub format_over_uib : List ℕ
format_over_uib =
    0x8c ∷ 0 ∷ 0 ∷ 0 ∷ 0 ∷ 0 ∷ 0 ∷ 9 ∷ 0 ∷ 0 ∷ 0 ∷ 0 ∷ 1 ∷ 0 ∷ 0 ∷ 64 ∷ 0 ∷ 0 ∷ 0 ∷ 0 ∷ 0 ∷ 2 ∷ 4 ∷ replicate 5 0

-- Two blocks at 0 and 28, and what stands behind them from 56 on: 264 bytes, where nothing else is said.
abbrev pub starting_on : List ℕ → List ℕ → List ℕ → Drive → Drive → Both
starting_on behind one two drive0 drive1 =
    record {
      host1 = one ++ two ++ behind;
      host2 = [];
      drive0 = drive0;
      drive1 = drive1;
      events1 = replicate 512 0;
      events2 = replicate 512 0;
    }

abbrev pub starting : List ℕ → List ℕ → Drive → Drive → Both
starting = starting_on (replicate 264 0)

abbrev pub one_by : Controller → Chain
one_by c = record { controller = c; first = 0; allowance = 1 }

abbrev pub two_by : Controller → Chain
two_by c = record { controller = c; first = 28; allowance = 1 }

abbrev pub one : Chain
one = one_by FirstController

abbrev pub two : Chain
two = two_by FirstController

-- What each of them finds.
abbrev pub first_in : Both → World
first_in s = world_for First FirstController s

abbrev pub second_in : Both → World
second_in s = world_for Second FirstController s

-- What a chain of a pair comes to, alone.
abbrev pub of_first : Both → Outcome
of_first s = (run_of First one).out s

abbrev pub of_second : Both → Outcome
of_second s = (run_of Second two).out s

abbrev pub come_by : (blocks : ℕ) → RunAnswer → (failed sectors : ℕ) → Outcome
come_by blocks answer failed sectors = record { answer = answer; failed = failed; blocks = blocks; sectors = sectors }

abbrev pub come : RunAnswer → (failed sectors : ℕ) → Outcome
come = come_by 1

-- ---- the condition is met

-- A read from unit 0 to bytes 56 to 119, and a write to unit 1 of the bytes from 120 on, which is the very next: data moves on both drives.
abbrev pub adjacent : Both
adjacent = starting (block 0x81 0x10 0 1 56) (block 0x82 0x90 0 1 120) (drive_with 7 0) (drive_with 9 0)

-- A write whose data lie over the second's block, and a read from unit 1. Unit 0 is not initialized, so the write is refused, and what it
-- asked for is not read.
abbrev pub refused_data : Both
refused_data = starting (block 0x82 0x10 0 1 28) (block 0x81 0x90 0 1 56) new_drive (drive_with 9 0)

-- A read of two sectors to bytes 56 to 183, stopped at the second, which is unreadable; and a write of the bytes from 120 on, where the
-- rest would have come.
abbrev pub stopped_read : Both
stopped_read = starting (block 0x81 0x10 0 2 56) (block 0x82 0x90 0 1 120) (drive_with 7 1) (drive_with 9 0)

-- A format of unit 0, and a write to unit 1 of the bytes from 10 on, directly after what the format reports.
abbrev pub beside_format : Both
beside_format = starting format_over_uib (block 0x82 0x90 0 1 10) (drive_with 7 0) (drive_with 9 0)

-- The same format of a unit that is not initialized, which is refused and reports nothing, and a write of the bytes from 6 on.
abbrev pub refused_format : Both
refused_format = starting format_over_uib (block 0x82 0x90 0 1 6) new_drive (drive_with 9 0)

pub record Met : Type 0 where
  pub adjacent_buffers : Independent one two adjacent
  pub both_move : (of_first adjacent ≡ come RunAnswer.Done 0 1) × (of_second adjacent ≡ come RunAnswer.Done 0 1)
  pub refused_block : Independent one two refused_data
  -- byte 30, which the second writes, lies in the data that it asked for
  pub data_not_read : (of_first refused_data ≡ come RunAnswer.BlockFailed 11 0) × (Among 28 64 30 × HostWrites two (second_in refused_data) 30)
  pub stopped_read_lem : Independent one two stopped_read
  -- beside word 1 it writes the sector that it moved
  pub sector_written : (x : ℕ) → HostWrites one (first_in stopped_read) x → Among 2 2 x ⊎ Among 56 64 x
  -- byte 120, which the second reads, lies in the buffer that it asked for
  pub rest_not_written : (of_first stopped_read ≡ come RunAnswer.BlockFailed 20 1) × (Among 56 128 120 × HostReads two (second_in stopped_read) 120)
  pub beside_format_lem : Independent one two beside_format
  -- beside word 1 the format writes bytes 7 to 9 and no other: not byte 6, its head, nor byte 10, which the second reads
  pub three_bytes_written :
      (of_first beside_format ≡ come RunAnswer.Done 0 1) ×
      (((x : ℕ) → HostWrites one (first_in beside_format) x ↔ (Among 2 2 x ⊎ Among 7 3 x)) ×
      HostReads two (second_in beside_format) 10)
  pub refused_format_lem : Independent one two refused_format
  -- bytes 7 to 9, which an accepted format writes, are among those that the second reads
  pub words_not_written :
      (of_first refused_format ≡ come RunAnswer.BlockFailed 11 0) × ((x : ℕ) → Among 7 3 x → HostReads two (second_in refused_format) x)

-- ---- one part of it fails, and the orders differ

-- An initialize and a restore, both of unit 0; the UIB stands in the second's block, where nobody writes.
abbrev pub shared_unit : Both
shared_unit = starting (block 0x87 0x00 0 0 32) (over_uib 0x89 0x00) new_drive (drive_with 9 0)

-- A handshake of unit 0, whose words are the UIB of the second's initialize.
abbrev pub read_by_other : Both
read_by_other = starting (over_uib 0x86 0x00) (block 0x87 0x80 0 0 4) (drive_with 7 0) new_drive

-- A format of unit 0, and an initialize of unit 1 whose UIB is the format's words from 4 on: it has as many heads as sectors were formatted.
abbrev pub format_read : Both
format_read = starting format_over_uib (block 0x87 0x80 0 0 8) (drive_with 7 0) new_drive

-- Reads from both units to bytes 56 to 119.
abbrev pub written_twice : Both
written_twice = starting (block 0x81 0x10 0 1 56) (block 0x81 0x90 0 1 56) (drive_with 7 0) (drive_with 9 0)

pub record Fails : Type 0 where
  pub shared_unit_lem :
      (NoUnitInCommon one two shared_unit → ⊥) ×
      (NoByteWrittenByBoth one two shared_unit × (NoByteReadByOther one two shared_unit × (EitherWay one two shared_unit → ⊥)))
  pub read_by_other_lem :
      (NoByteReadByOther one two read_by_other → ⊥) ×
      (NoUnitInCommon one two read_by_other × (NoByteWrittenByBoth one two read_by_other × (EitherWay one two read_by_other → ⊥)))
  pub format_read_lem :
      (NoByteReadByOther one two format_read → ⊥) ×
      (NoUnitInCommon one two format_read × (NoByteWrittenByBoth one two format_read × (EitherWay one two format_read → ⊥)))
  pub written_twice_lem :
      (NoByteWrittenByBoth one two written_twice → ⊥) ×
      (NoUnitInCommon one two written_twice × (NoByteReadByOther one two written_twice × (EitherWay one two written_twice → ⊥)))
