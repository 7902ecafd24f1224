-- Which unit a block names, what it reads of host memory and what it writes (01, One run: "Host bytes read, for demand 3: .. Written: .."), and what all
-- blocks of a run do. Written is proved to be what some store has as its target (proofs/Written): "A byte stored with the number it already had is
-- written." Of UIB and list, read is proved to be what judging looks at (proofs/Read).
use Rattle.answers.specs.declared.Refusal.{Refusal}
use Rattle.judge.specs.declared.Plan.{Plan}
use Rattle.std.specs.Prelude.{ℕ, ◌+◌, ◌*◌, ◌≤◌, ◌<◌, Bool, true, false, List, [], ◌∷◌, ◌⊎◌, ◌≡◌, T, length, Err, Ok, Result}
use Rattle.wire.specs.Among.{Among}
use Rattle.wire.specs.Memory.{InMemory}
use Rattle.geometry.specs.declared.Geometry.{Geometry}
use Rattle.geometry.specs.Drive.{B}
use Rattle.iopb.specs.declared.Block.{Block}
use Rattle.iopb.specs.Ask.{task_of}
use Rattle.judge.specs.declared.Leaving.{Leaving}
use Rattle.judge.specs.declared.Leaving.TheVariants.{AsItWas, HeadsAt, HeadsAtLastTried, Fresh, Mapped}
use Rattle.judge.specs.declared.Moving.{Moving}
use Rattle.judge.specs.declared.Report.{Report}
use Rattle.judge.specs.declared.Report.TheVariants.{Nothing as Silent, Identity, Formatted}
use Rattle.judge.specs.Given.{Asked, on}
use Rattle.judge.specs.Table.{Unanswered, lines_before, one_of, paper}
use Rattle.judge.specs.Verdict.{verdict}
use Rattle.unit.specs.declared.UnitNumber.{UnitNumber}
use Rattle.transfer.specs.Data.{Transfer, disk_byte, progress_on}
use Rattle.transfer.specs.Progress.{Progress}
use Rattle.transfer.specs.Unreadable.{MeetsUnreadable, StopsBefore}
use Rattle.block.specs.Block.{Drive, transfer_of}
use Rattle.demands.specs.Visits.{Visit, block_of, fetched_by}
use Rattle.board.specs.World.{World, drive_of, unit_at}

-- What a verdict has moved, reported and left: a refused block moves nothing, reports nothing and leaves the record as it was.
abbrev pub moving_of : Result Plan Refusal → Moving
moving_of (Err r) = Moving.Nothing
moving_of (Ok plan) = plan.moving

abbrev pub report_of : Result Plan Refusal → Report
report_of (Err r) = Silent
report_of (Ok plan) = plan.report

abbrev pub leaving_of : Result Plan Refusal → Leaving
leaving_of (Err r) = AsItWas
leaving_of (Ok plan) = plan.leaving

-- ---- of what is judged, on a drive

-- The transfer that is made, and how far it comes.
abbrev pub transfer_by : Asked → Transfer
transfer_by a = transfer_of a.host a.unit (moving_of (verdict a))

abbrev pub comes : Asked → Drive → Progress
comes a d = progress_on d.image (transfer_by a)

-- ---- host bytes

-- Byte x is where the transfer has in host memory one of the bytes that it moved, going this way.
pub record HostData (a : Asked) (d : Drive) (to_host : Bool) (x : ℕ) : Type 0 where
  pub goes : (transfer_by a).to_host ≡ to_host
  pub byte : ℕ
  pub moved : byte < (comes a d).sectors * B (transfer_by a).geometry
  pub here : (transfer_by a).host_at byte ≡ x

-- Byte x is among the words that a block at an address reports: "words 2 to 7 for 86", and for an accepted 8C the lower byte of word 3, and word 4
-- (02, K1).
abbrev pub InReport : (at : ℕ) → Report → (x : ℕ) → Type 0
InReport at Silent x = ⊥
InReport at Identity x = Among (at + 4) 12 x
InReport at (Formatted n) x = Among (at + 7) 3 x

-- What a block at an address reads of host memory: lengths are looked at too, and are no bytes.
pub data HostRead (b : Block) (at : ℕ) (a : Asked) (d : Drive) (x : ℕ) : Type 0 where
  -- "the 28 of each fetched block"
  block : Among at 28 x → HostRead b at a d x
  -- "a UIB that passed check 12": of an 87 to which no line of the table down to 12 applies, that of 24 (02, K10) included, the 18 bytes at words 5 and 6
  its_uib : b.command ≡ 0x87 → Unanswered b.command (lines_before 13 (paper b a)) → Among b.address 18 x → HostRead b at a d x
  -- "a list of 1 to 64 elements that lies at an even address and in memory, once checks 10 to 17 are passed": of an A1 or A2 to which no line down to 17
  -- applies, that of 24 included. One that 18 then refuses, as for its sum, is read all the same.
  its_list :
      T (one_of b.command (0xa1 ∷ 0xa2 ∷ [])) → Unanswered b.command (lines_before 18 (paper b a)) →
      (1 ≤ b.elements) × (b.elements ≤ 64) → InMemory a.host b.address (8 * b.elements) →
      Among b.address (8 * b.elements) x → HostRead b at a d x
  -- "the data of 82, A2 and 8C": the bytes moved, which are all of them, since nothing stops a write
  moved : HostData a d false x → HostRead b at a d x

-- What a block at an address of host memory writes there.
pub data HostWritten (at : ℕ) (a : Asked) (d : Drive) (x : ℕ) : Type 0 where
  -- "word 1 of each fetched block"
  status_word : Among (at + 2) 2 x → HostWritten at a d x
  -- the words that it reports
  report : InReport at (report_of (verdict a)) x → HostWritten at a d x
  -- "the data bytes that 81 and A1 moved"
  moved : HostData a d true x → HostWritten at a d x

-- ---- the image and the unit's record

-- Byte x of the image is where the transfer has one of the bytes that it moved.
pub record DiskData (a : Asked) (d : Drive) (to_host : Bool) (x : ℕ) : Type 0 where
  pub goes : (transfer_by a).to_host ≡ to_host
  pub byte : ℕ
  pub moved : byte < (comes a d).sectors * B (transfer_by a).geometry
  pub here : disk_byte (transfer_by a).geometry (transfer_by a).place byte ≡ x

-- Of the image: the data of 82, A2 and 8C is written.
abbrev pub ImageWritten : Asked → Drive → ℕ → Type 0
ImageWritten a d x = DiskData a d false x

-- The unit's record is replaced, its heads move, or it gets a pair more: every accepted block does one of these, but for 86. The
-- holder changes only with one of these (02, K10).
abbrev pub changes : Leaving → Type 0
changes AsItWas = ⊥
changes (HeadsAt c) = Unit {0}
changes (HeadsAtLastTried s) = Unit {0}
changes (Fresh g) = Unit {0}
changes (Mapped bad spare) = Unit {0}

abbrev pub RecordWritten : Asked → Type 0
RecordWritten a = changes (leaving_of (verdict a))

-- An 87 that succeeds: the record is replaced.
abbrev pub Renews : Asked → Type 0
Renews a = (g : Geometry) × (leaving_of (verdict a) ≡ Fresh g)

-- 20, "unreadable sector, DE clear": the transfer that is made heeds the marks, and one of its sectors has a mark that is not 0; and which is the first.
abbrev pub Unreadable : Asked → Drive → Type 0
Unreadable a d = MeetsUnreadable d.image (transfer_by a)

abbrev pub FirstUnreadable : Asked → Drive → ℕ → Type 0
FirstUnreadable a d j = StopsBefore d.image (transfer_by a) j

-- ---- of a block that was fetched

-- The unit that a block names: that of its UN bit, whether it is a handshake, refused or neither (00, demand 3: "the blocks they
-- fetch name no unit in common").
abbrev pub names : Visit → UnitNumber
names v = unit_at v.world v.at

-- The drive of that unit, what is judged of the block, and the verdict on it.
abbrev pub named_drive : Visit → Drive
named_drive v = drive_of v.world (names v)

abbrev pub asked_of : Visit → Asked
asked_of v = on v.world.controller (named_drive v).unit (length (named_drive v).image) (task_of v.world.host (block_of v)) v.world.host

abbrev pub verdict_of : Visit → Result Plan Refusal
verdict_of v = verdict (asked_of v)

-- What it reads of host memory; and what it writes of it and of its unit's image, and in the event buffer: "the 8 bytes at 8(k - 1)", its index being k - 1.
abbrev pub ReadsHost : Visit → ℕ → Type 0
ReadsHost v x = HostRead (block_of v) v.at (asked_of v) (named_drive v) x

abbrev pub WritesHost : Visit → ℕ → Type 0
WritesHost v x = HostWritten v.at (asked_of v) (named_drive v) x

abbrev pub WritesImage : Visit → ℕ → Type 0
WritesImage v x = ImageWritten (asked_of v) (named_drive v) x

abbrev pub WritesEvents : Visit → ℕ → Type 0
WritesEvents v x = Among (8 * v.index) 8 x

abbrev pub WritesRecord : Visit → Type 0
WritesRecord v = RecordWritten (asked_of v)

-- Some block of a list does.
abbrev pub SomeBlock : (Visit → Type 0) → List Visit → Type 0
SomeBlock P [] = ⊥
SomeBlock P (v ∷ vs) = P v ⊎ SomeBlock P vs

-- What a run does: some block that it fetches does. Of images and records it is said unit by unit.
module _ (first allowance : ℕ) (w : World) where
  abbrev pub RunNames : UnitNumber → Type 0
  RunNames n = SomeBlock (λ v. names v ≡ n) (fetched_by first allowance w)

  abbrev pub RunReads : ℕ → Type 0
  RunReads x = SomeBlock (λ v. ReadsHost v x) (fetched_by first allowance w)

  abbrev pub RunWrites : ℕ → Type 0
  RunWrites x = SomeBlock (λ v. WritesHost v x) (fetched_by first allowance w)

  abbrev pub RunWritesImage : UnitNumber → ℕ → Type 0
  RunWritesImage n x = SomeBlock (λ v. (names v ≡ n) × WritesImage v x) (fetched_by first allowance w)

  abbrev pub RunWritesRecord : UnitNumber → Type 0
  RunWritesRecord n = SomeBlock (λ v. (names v ≡ n) × WritesRecord v) (fetched_by first allowance w)

  abbrev pub RunWritesEvents : ℕ → Type 0
  RunWritesEvents x = SomeBlock (λ v. WritesEvents v x) (fetched_by first allowance w)
