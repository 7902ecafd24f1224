-- Pairs of chains that meet the condition of demand 3 because of what does not count (01, One run: "Host bytes read, for demand 3"): a list or a UIB
-- that is not read, the byte after a format's data, the block of a run that is refused. A footprint that has more in it keeps demand 3 true and
-- makes it say less; these are what it would no longer let through.
use Rattle.std.specs.Prelude.{ℕ, false, List, ◌≡◌, replicate}
use Rattle.wire.specs.Among.{Among}
use Rattle.wire.specs.Memory.{InMemory}
use Rattle.answers.specs.declared.RunAnswer.{RunAnswer}
use Rattle.unit.specs.declared.UnitNumber.TheVariants.{Zero}
use Rattle.unit.specs.declared.Controller.TheVariants.{First as FirstController}
use Rattle.unit.specs.Standing.{fresh, no_tracks}
use Rattle.independence.specs.Chains.{Both, Chain, HostReads, HostWrites, Names, Second, run_of}
use Rattle.independence.specs.Demand3.{Independent}
use Rattle.independence.specs.TwoChains.{block, come, come_by, drive_with, first_in, new_drive, of_first, of_second, one, scatter, second_in, shaped, starting, starting_on, tiny, two}
use Rattle.block.specs.Block.{Drive}
use Rattle.unit.specs.Made.{record_of}

-- A restore of unit 1. It writes its word 1, bytes 30 and 31, and nothing else.
abbrev pub restore : List ℕ
restore = block 0x89 0x80 0 0 0

-- A drive that lacks nothing but an initialize.
abbrev pub unready_drive : Drive
unready_drive = record { unit = record_of false tiny 0 0 no_tracks; image = (drive_with 7 0).image }

-- A scatter from unit 0 with a list of 65 elements, bytes 28 to 547, and the restore. The list lies at an even address and wholly in memory, which
-- ends with it, but one of more than 64 elements is refused, and not read.
abbrev pub long_list : Both
long_list = starting_on (replicate 492 0) (scatter 0x10 65 28) restore (drive_with 7 0) (drive_with 9 0)

-- An initialize of unit 0 whose UIB would be bytes 29 to 46, and the restore. A UIB at an odd address is refused, and not read.
abbrev pub odd_uib : Both
odd_uib = starting (block 0x87 0x00 0 0 29) restore new_drive (drive_with 9 0)

-- A scatter from unit 0 with a list of one element, bytes 28 to 35, and the restore. Unit 0 is not initialized, so the scatter is refused before
-- its list is read.
abbrev pub refused_list : Both
refused_list = starting (scatter 0x10 1 28) restore unready_drive (drive_with 9 0)

-- A format of unit 0, a track of two sectors, with the data at bytes 56 to 119, and a read from unit 1 to bytes 120 to 183, which are the very
-- next: data moves on both drives. Both sectors get the same 64 bytes.
abbrev pub format_data : Both
format_data =
    starting (block 0x8c 0x00 0 0 56) (block 0x81 0x90 0 1 120) (record { unit = fresh (shaped 1 2); image = (drive_with 7 0).image }) (drive_with 9 0)

-- Two reads from unit 0 to bytes 56 to 119. The second run has no allowance: it is refused, and fetches no block.
abbrev pub refused_run : Both
refused_run = starting (block 0x81 0x10 0 1 56) (block 0x81 0x10 0 1 56) (drive_with 7 0) (drive_with 9 0)

abbrev pub spent : Chain
spent = record { controller = FirstController; first = 28; allowance = 0 }

pub record NotCounted : Type 0 where
  pub long_list_lem : Independent one two long_list
  pub long_list_comes : (of_first long_list ≡ come RunAnswer.BlockFailed 18 0) × (of_second long_list ≡ come RunAnswer.Done 0 0)
  -- byte 30, which the second writes, lies in the list, which lies in memory; the first reads its 28 bytes
  pub long_list_unread :
      ((x : ℕ) → HostReads one (first_in long_list) x → Among 0 28 x) ×
      ((InMemory long_list.host1 28 520 × Among 28 520 30) × HostWrites two (second_in long_list) 30)
  pub odd_uib_lem : Independent one two odd_uib
  pub odd_uib_comes : (of_first odd_uib ≡ come RunAnswer.BlockFailed 12 0) × (of_second odd_uib ≡ come RunAnswer.Done 0 0)
  -- byte 30 lies in the UIB
  pub odd_uib_unread :
      ((x : ℕ) → HostReads one (first_in odd_uib) x → Among 0 28 x) × (Among 29 18 30 × HostWrites two (second_in odd_uib) 30)
  pub refused_list_lem : Independent one two refused_list
  pub refused_list_comes : (of_first refused_list ≡ come RunAnswer.BlockFailed 11 0) × (of_second refused_list ≡ come RunAnswer.Done 0 0)
  -- byte 30 lies in the list
  pub refused_list_unread :
      ((x : ℕ) → HostReads one (first_in refused_list) x → Among 0 28 x) × (Among 28 8 30 × HostWrites two (second_in refused_list) 30)
  pub format_data_lem : Independent one two format_data
  pub format_data_comes : (of_first format_data ≡ come RunAnswer.Done 0 2) × (of_second format_data ≡ come RunAnswer.Done 0 1)
  -- the first reads byte 119, and not byte 120, which the second writes
  pub format_data_read :
      HostReads one (first_in format_data) 119 × ((HostReads one (first_in format_data) 120 → ⊥) × HostWrites two (second_in format_data) 120)
  pub refused_run_lem : Independent one spent refused_run
  pub refused_run_comes :
      (of_first refused_run ≡ come RunAnswer.Done 0 1) × ((run_of Second spent).out refused_run ≡ come_by 0 RunAnswer.AllowanceBad 0 0)
  -- with an allowance of 1 the second would name unit 0 too, and both would write byte 56
  pub refused_run_would :
      (Names one (first_in refused_run) Zero × Names two (second_in refused_run) Zero) ×
      (HostWrites one (first_in refused_run) 56 × HostWrites two (second_in refused_run) 56)
