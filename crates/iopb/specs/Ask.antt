-- The request that a block makes (01, The block, One run; 02, K5).
use Rattle.geometry.specs.declared.Geometry.{Geometry}
use Rattle.std.specs.Prelude.{ℕ, ◌/◌, ◌^◌, Bool, true, false, cond, List, [], ◌∷◌, eqb, None, Option, Some}
use Rattle.std.proofs.Math.Logic.{ite}
use Rattle.wire.proofs.Decided.{in_memory?}
use Rattle.geometry.specs.declared.VolumeNumber.{VolumeNumber}
use Rattle.request.specs.declared.Buffer.{Buffer}
use Rattle.request.specs.declared.Move.{Move}
use Rattle.request.specs.declared.Pair.{Pair}
use Rattle.request.specs.declared.Start.{Start}
use Rattle.request.specs.declared.Target.{Target}
use Rattle.request.specs.declared.Task.{Task}
use Rattle.request.specs.declared.Track.{Track}
use Rattle.unit.specs.declared.UnitNumber.{UnitNumber}
use Rattle.iopb.specs.declared.Block.{Block}
use Rattle.iopb.specs.Layout.{uib_at}

-- UN and VO
abbrev pub unit_asked : Block → UnitNumber
unit_asked b = cond b.options.unit UnitNumber.One UnitNumber.Zero

abbrev pub volume_asked : Block → VolumeNumber
volume_asked b = cond b.options.volume VolumeNumber.One VolumeNumber.Zero

-- "With XL set, words 2 and 3 are one 32-bit logical sector number in the volume."
abbrev pub start_of : Block → Start
start_of b = cond b.options.logical (Start.Logical b.number) (Start.Physical b.cylinder b.head b.sector)

abbrev pub target_of : Block → Target
target_of b = record { volume = volume_asked b; start = start_of b }

abbrev pub move_of : Block → Bool → Buffer → Move
move_of b to_host buffer =
    record { to_host = to_host; past_marks = b.options.disable; target = target_of b; count = b.count; buffer = buffer }

-- 8C "ignores VO, XL, sector and count; its head is counted over the whole drive"
abbrev pub track_asked : Block → Track
track_asked b = record { cylinder = b.cylinder; head = b.head; buffer = b.address }

-- 85: "Words 2 and 3 name the bad track, words 4 and 5 the spare, both physical over the whole drive" (02, K5), a cylinder and then a head
-- in the upper byte, as the manual has it. Word 4 is a count elsewhere, and the upper byte of word 5 the first of the address. The lower bytes of
-- words 3 and 5, word 6, VO and XL are not looked at.
abbrev pub pair_of : Block → Pair
pair_of b =
    record {
      bad_cylinder = b.cylinder;
      bad_head = b.head;
      spare_cylinder = b.count;
      spare_head = b.address / 2 ^ 24;
    }

-- A UIB is 18 bytes, read where they lie in host memory; elsewhere it is misplaced, which check 12 says of a "UIB address odd or
-- UIB not wholly in host memory".
unfoldable pub shape_at : List ℕ → ℕ → Option Geometry
shape_at host at = ite (in_memory? host at 18) (Some (uib_at host at)) None

-- "A1 and A2 have a list's address there", in words 5 and 6, where 81 and 82 have their data's. What each command asks, by its code: "81 read, 82 write, 86 handshake, 87 initialize, 89 restore, 8A seek, 8C format with
-- data, A1 scatter, A2 gather (hex)" (01, What the board answers for), and "command 85" (02, K5).
abbrev pub tasks : List ℕ → Block → List (ℕ × Task)
tasks host b =
    (0x81, Task.Move (move_of b true (Buffer.Piece b.address))) ∷
    (0x82, Task.Move (move_of b false (Buffer.Piece b.address))) ∷
    (0x86, Task.Handshake) ∷
    (0x87, Task.Initialize (shape_at host b.address)) ∷
    (0x89, Task.Restore) ∷
    (0x8a, Task.Seek (target_of b)) ∷
    (0x8c, Task.Format (track_asked b)) ∷
    (0xa1, Task.Move (move_of b true (Buffer.List b.address b.elements))) ∷
    (0xa2, Task.Move (move_of b false (Buffer.List b.address b.elements))) ∷
    (0x85, Task.Map (pair_of b)) ∷
    []

-- The task that stands at a command's code, or none that is known.
abbrev pub task_at : ℕ → List (ℕ × Task) → Task
task_at command [] = Task.Unknown
task_at command ((code, task) ∷ ts) = cond (eqb command code) task (task_at command ts)

unfoldable pub task_of : List ℕ → Block → Task
task_of host b = task_at b.command (tasks host b)
