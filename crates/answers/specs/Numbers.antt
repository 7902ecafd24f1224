-- The number of each answer, of a run and of a block (01, Answer numbers; 02, K5 and K10), and the status of a block.
use Rattle.std.specs.Prelude.{ℕ, Result, Err, Ok}
use Rattle.answers.specs.declared.Refusal.{Refusal}
use Rattle.answers.specs.declared.RunAnswer.{RunAnswer}
use Rattle.answers.specs.declared.RunAnswer.TheVariants.{Done, EventsShort, AllowanceBad, FirstBad, BlockFailed, LinkBad, AllowanceSpent}
use Rattle.answers.specs.declared.Refusal.TheVariants.{CommandUnknown, NotInitialized, UibMisplaced, UibOutsideLimits, VolumeAbsent, CountZero, SectorOutside, ImageShort, ListBad, DataMisplaced, Unreadable, TracksTaken, TableFull, DriveHeld}

abbrev pub run_number : RunAnswer → ℕ
-- "last block had no link and ended 80"
run_number Done = 0
-- "event buffer under 512 bytes"
run_number EventsShort = 1
-- "allowance 0 or over 64"
run_number AllowanceBad = 2
-- "first block odd, or not wholly in host memory"
run_number FirstBad = 3
-- "a block ended 82"
run_number BlockFailed = 4
-- "linked address bad as in 3"
run_number LinkBad = 5
-- "allowance spent, last block 80 with LK set"
run_number AllowanceSpent = 6

abbrev pub refusal_number : Refusal → ℕ
-- "command not listed"
refusal_number CommandUnknown = 10
-- "unit not initialized"
refusal_number NotInitialized = 11
-- "UIB address odd or UIB not wholly in host memory"
refusal_number UibMisplaced = 12
-- "UIB outside the geometry's limits"
refusal_number UibOutsideLimits = 13
-- "volume absent"
refusal_number VolumeAbsent = 14
-- "count 0"
refusal_number CountZero = 15
-- "first sector outside the volume, or the last; 8C: track outside the drive; 8A: the one address only"; 85: "either track" (02, K5)
refusal_number SectorOutside = 16
-- "image shorter than the geometry needs"
refusal_number ImageShort = 17
-- "list: 0 or over 64 elements" and what else check 18 lists
refusal_number ListBad = 18
-- "a data address odd or its range not in host memory"
refusal_number DataMisplaced = 19
-- "unreadable sector, DE clear"
refusal_number Unreadable = 20
-- "the tracks are equal or either is in the table already" (02, K5)
refusal_number TracksTaken = 22
-- "32 pairs stand" (02, K5)
refusal_number TableFull = 23
-- "drive held" (02, K10)
refusal_number DriveHeld = 24

-- How a block ended: well, or failed for a reason.
abbrev pub BlockAnswer : Type 0
BlockAnswer = Result (Unit {0}) Refusal

-- "status 80", and "Block answers, in order, status 82", in hex.
abbrev pub status_of : BlockAnswer → ℕ
status_of (Ok _) = 0x80
status_of (Err r) = 0x82
