-- What one block does (01, One run): it is judged, and then refused or performed. Its stores in order, and what becomes of its unit's record.
use Rattle.std.specs.Prelude.{ℕ, ◌+◌, ◌-◌, ◌*◌, Bool, false, List, [], ◌∷◌, ◌++◌, ℤ, pos, length, Err, Ok, Result}
use Rattle.answers.specs.Numbers.{BlockAnswer, status_of}
use Rattle.answers.specs.declared.Refusal.{Refusal}
use Rattle.geometry.specs.declared.VolumeNumber.{VolumeNumber}
use Rattle.request.specs.declared.Buffer.{Buffer}
use Rattle.request.specs.declared.Buffer.TheVariants.{Piece, List as Elements}
use Rattle.unit.specs.declared.Controller.{Controller}
use Rattle.unit.specs.Holding.{reserved_by}
use Rattle.unit.specs.Landing.{spot_of}
use Rattle.unit.specs.Standing.{UnitRecord, cylinder, fresh, held_by, mapped, moved_to}
use Rattle.transfer.specs.Data.{Transfer, data_on, formatting, moving, progress_on}
use Rattle.transfer.specs.Pieces.{joined}
use Rattle.transfer.specs.Progress.{last_tried}
use Rattle.transfer.specs.Stores.{Store, bytes_from, event_byte, host_byte}
use Rattle.iopb.specs.declared.Block.{Block}
use Rattle.iopb.specs.Ask.{task_of}
use Rattle.iopb.specs.Errors.{error_byte}
use Rattle.iopb.specs.Identity.{identity_bytes}
use Rattle.iopb.specs.Layout.{block_at}
use Rattle.memory.specs.Lists.{element_of}
use Rattle.judge.specs.declared.Leaving.{Leaving}
use Rattle.judge.specs.declared.Leaving.TheVariants.{AsItWas, HeadsAt, HeadsAtLastTried, Fresh, Mapped}
use Rattle.judge.specs.declared.Moving.{Moving}
use Rattle.judge.specs.declared.Moving.TheVariants.{Nothing, Sectors, Track}
use Rattle.judge.specs.declared.Plan.{Plan}
use Rattle.judge.specs.declared.Report.{Report}
use Rattle.judge.specs.declared.Report.TheVariants.{Nothing as Silent, Identity, Formatted}
use Rattle.judge.specs.Given.{on}
use Rattle.judge.specs.Verdict.{verdict}
use Rattle.block.specs.Events.{entry, travel_to}

-- A unit's drive: its record and its image.
pub record Drive : Type 0 where
  pub unit : UnitRecord
  pub image : List ℕ

-- What a block comes to: its stores, its unit's record afterwards, its answer, and the sectors it moved.
pub record Effect : Type 0 where
  pub stores : List Store
  pub unit : UnitRecord
  pub answer : BlockAnswer
  pub sectors : ℕ

-- ---- what is moved

-- Where in host memory byte k of the data lies: in one piece, or in the elements of a list, as they stood when it was read.
abbrev pub data_byte : List ℕ → Buffer → ℕ → ℕ
data_byte host (Piece at) k = at + k
data_byte host (Elements at n) k = joined (λ i. (element_of host at i).bytes) (λ i. (element_of host at i).address) n 0 k

-- The transfer that is made. To move nothing is a transfer of no sectors.
abbrev pub transfer_of : List ℕ → UnitRecord → Moving → Transfer
transfer_of host u Nothing = moving u false false VolumeNumber.Zero 0 0 (λ k. 0)
transfer_of host u (Sectors j) =
    moving u j.to_host j.past_marks j.span.volume j.span.first j.span.count (data_byte host j.buffer)
transfer_of host u (Track spot at) = formatting u spot at

-- ---- what becomes of the record

-- The record afterwards, of so many sectors moved. "After 81, 82, A1 or A2 the heads stand on the cylinder of the last sector tried"; "87
-- replaces the unit record; the heads are at cylinder 0"; 85 adds its pair (02, K5).
abbrev pub left_by : UnitRecord → ℕ → Leaving → UnitRecord
left_by u moved AsItWas = u
left_by u moved (HeadsAt c) = moved_to u c
left_by u moved (HeadsAtLastTried s) =
    moved_to u (spot_of u s.volume (s.first + last_tried moved s.count)).cylinder
left_by u moved (Fresh g) = fresh g
left_by u moved (Mapped bad spare) = mapped u bad spare

-- "Travel is the new cylinder minus the old one, and zero for 86, 87"; 85 "moves neither data nor heads" (02, K5).
abbrev pub travelled : (old : ℕ) → Leaving → (new : ℕ) → ℤ
travelled old AsItWas new = pos 0
travelled old (HeadsAt c) new = travel_to old new
travelled old (HeadsAtLastTried s) new = travel_to old new
travelled old (Fresh g) new = pos 0
travelled old (Mapped bad spare) new = pos 0

-- Who holds the drive afterwards: "RV on a successful block takes or keeps the drive; a successful block without RV gives it up .. A failed block leaves
-- the holder as it was" (02, K10).
abbrev pub held_after : Controller → (reserve : Bool) → BlockAnswer → UnitRecord → UnitRecord
held_after c reserve (Ok _) u = held_by u (reserved_by c reserve)
held_after c reserve (Err r) u = u

-- "86 does neither": of the commands that are let through it alone leaves the record as it was (judge, plan_of).
abbrev pub holder_left : Controller → (reserve : Bool) → Leaving → BlockAnswer → UnitRecord → UnitRecord
holder_left c reserve AsItWas answer u = u
holder_left c reserve (HeadsAt x) answer u = held_after c reserve answer u
holder_left c reserve (HeadsAtLastTried s) answer u = held_after c reserve answer u
holder_left c reserve (Fresh g) answer u = held_after c reserve answer u
holder_left c reserve (Mapped bad spare) answer u = held_after c reserve answer u

-- ---- what is stored

-- In the block at an address: "status 81 and error 00 are stored in the block; then the transfer happens".
abbrev pub begun : ℕ → List Store
begun at = bytes_from host_byte (at + 2) (0x81 ∷ 0x00 ∷ [])

-- The words that are reported, which come after the transfer. 86 "writes words 2 to 7 with this board's own identity"; of 8C the "lower byte of word 3 is the last
-- sector formatted, word 4 the number of sectors formatted" (02, K1). That is at most 255, so that the upper byte of word 4 is 00.
abbrev pub reported : ℕ → Report → List Store
reported at Silent = []
reported at Identity = bytes_from host_byte (at + 4) identity_bytes
reported at (Formatted n) = bytes_from host_byte (at + 7) ((n - 1) ∷ 0x00 ∷ n ∷ [])

-- A block at an address, run after i others: "the final status and error" in word 1, and "The event entry for the k-th block, k from 1, is
-- the 8 bytes at 8(k - 1)".
abbrev pub finish : Block → ℕ → ℕ → BlockAnswer → ℤ → List Store
finish b at i answer travel =
    bytes_from host_byte (at + 2) (status_of answer ∷ error_byte answer ∷ []) ++
    bytes_from event_byte (8 * i) (entry b answer travel)

-- ---- a block

-- The block at an address, of a controller's chain, on its unit's drive, run after i others.
module _ (c : Controller) (host : List ℕ) (d : Drive) (at i : ℕ) where
  -- "For 10 to 19", and for 22 to 24 (02, K5 and K10), "only the block's word 1 and its event entry change"; travel is "zero for .. a block refused
  -- before transfer".
  abbrev pub refused : Refusal → Effect
  refused r = record { stores = finish (block_at host at) at i (Err r) (pos 0); unit = d.unit; answer = Err r; sectors = 0 }

  -- Its stores in order: 81 and 00, the data, the words that are reported, the final status and error, the event entry. The holder changes with the record.
  abbrev pub performed : Plan → Effect
  performed plan =
      let b = block_at host at in
      let t = transfer_of host d.unit plan.moving in
      let p = progress_on d.image t in
      let unit = left_by d.unit p.sectors plan.leaving in
      let travel = travelled (cylinder d.unit) plan.leaving (cylinder unit) in
      record {
        stores = begun at ++ data_on d.image t ++ reported at plan.report ++ finish b at i p.answer travel;
        unit = holder_left c b.options.reserve plan.leaving p.answer unit;
        answer = p.answer;
        sectors = p.sectors;
      }

  abbrev pub judged : Result Plan Refusal → Effect
  judged (Err r) = refused r
  judged (Ok plan) = performed plan

-- What it does: "The 28 bytes are copied out, then judged."
unfoldable pub effect_on : Controller → List ℕ → Drive → ℕ → ℕ → Effect
effect_on c host d at i =
    judged c host d at i (verdict (on c d.unit (length d.image) (task_of host (block_at host at)) host))
