-- A chain whose second block comes from the disk: a read brings it to host memory, and the read's link leads to it. What such a chain names, reads
-- and writes goes by the blocks as they stand when they are fetched (00, demand 3: "each followed alone"; 01, One run: "A block may write over a
-- later block, which is then read as it stands").
use Rattle.std.specs.Prelude.{ℕ, List, [], ◌∷◌, ◌++◌, ◌≡◌, replicate}
use Rattle.answers.specs.declared.RunAnswer.{RunAnswer}
use Rattle.unit.specs.declared.Controller.TheVariants.{First as FirstController}
use Rattle.independence.specs.Chains.{Both, Chain, First, HostReads, HostWrites, run_of}
use Rattle.independence.specs.Demand3.{EitherWay, Independent, NoUnitInCommon, NoByteReadByOther, NoByteWrittenByBoth}
use Rattle.independence.specs.TwoChains.{block, come, come_by, drive_on, drive_with, first_in, of_second, one, second_in, starting_on, two}
use Rattle.block.specs.Block.{Drive}

-- The first sector of unit 0: a block that reads this sector to bytes 120 to 183, and from its byte 28 on a UIB that says `tiny`.
abbrev pub sector : List ℕ
sector = block 0x81 0x10 0 1 120 ++ (0 ∷ 1 ∷ 0 ∷ 0 ∷ 1 ∷ 0 ∷ 0 ∷ 64 ∷ 0 ∷ 0 ∷ 0 ∷ 0 ∷ 0 ∷ 2 ∷ 4 ∷ replicate 21 0)

abbrev pub disk : Drive
disk = drive_on (sector ++ replicate 64 7 ++ (0 ∷ 0 ∷ []))

-- A read of that sector to bytes 56 to 119, linked to 56. LK is 20.
abbrev pub read_on : List ℕ
read_on = 0x81 ∷ 0x30 ∷ 0 ∷ 0 ∷ 0 ∷ 0 ∷ 0 ∷ 0 ∷ 0 ∷ 1 ∷ 0 ∷ 0 ∷ 0 ∷ 56 ∷ replicate 9 0 ++ (56 ∷ replicate 4 0)

-- Until then another block stands at 56, a read to bytes 184 to 247. At 28 a write to unit 1 of just these bytes, and at 248 an initialize of unit 1
-- whose UIB is bytes 148 to 165, which the block from the disk brings.
abbrev pub from_disk : Both
from_disk =
    starting_on (block 0x81 0x10 0 1 184 ++ replicate 164 0 ++ block 0x87 0x80 0 0 148 ++ replicate 44 0) read_on (block 0x82 0x90 0 1 184) disk
    (drive_with 9 0)

-- The read and the block that it brings; the block that stood there before; and the initialize. The write is `two`, as in the other pairs.
abbrev pub linked : Chain
linked = record { controller = FirstController; first = 0; allowance = 2 }

abbrev pub earlier : Chain
earlier = record { controller = FirstController; first = 56; allowance = 1 }

abbrev pub initialize : Chain
initialize = record { controller = FirstController; first = 248; allowance = 1 }

pub record FromDisk : Type 0 where
  pub from_disk_lem : Independent linked two from_disk
  pub both_blocks : ((run_of First linked).out from_disk ≡ come_by 2 RunAnswer.Done 0 2) × (of_second from_disk ≡ come RunAnswer.Done 0 1)
  -- byte 120 is written by the block from the disk, and not by the read
  pub written_by_it : HostWrites linked (first_in from_disk) 120 × (HostWrites one (first_in from_disk) 120 → ⊥)
  -- byte 184, which the block that stood there before would write, is not written, and the other chain reads it
  pub not_by_the_earlier :
      HostWrites earlier (first_in from_disk) 184 ×
      ((HostWrites linked (first_in from_disk) 184 → ⊥) × HostReads two (second_in from_disk) 184)
  -- beside the initialize one part of the condition fails, and the orders differ; were the allowance 1, so that the block from the disk is not
  -- fetched, none would
  pub uib_from_disk :
      (NoByteReadByOther linked initialize from_disk → ⊥) ×
      (NoUnitInCommon linked initialize from_disk × (NoByteWrittenByBoth linked initialize from_disk × (EitherWay linked initialize from_disk → ⊥)))
  pub not_by_the_read : Independent one initialize from_disk
