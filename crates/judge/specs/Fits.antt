-- What is known of a plan that was let through: what is moved fits the drive, the image and host memory, what is reported fits its bytes, and
-- what is left of the record counts as initialized: heads on the drive, a geometry inside the limits, a pair that fits. Between the judge and
-- who carries a plan out.
use Rattle.std.specs.Prelude.{ℕ, ◌+◌, ◌*◌, ◌≤◌, ◌<◌, List, ◌≡◌}
use Rattle.geometry.specs.Drive.{B, C, S, drive_sectors, need, volume_sectors}
use Rattle.geometry.specs.Limits.{Within}
use Rattle.geometry.specs.Sectors.{OnDrive, address}
use Rattle.memory.specs.Lists.{ListGood, Ranges}
use Rattle.request.specs.declared.Buffer.{Buffer}
use Rattle.request.specs.declared.Buffer.TheVariants.{Piece, List as Elements}
use Rattle.spares.specs.Table.{Free}
use Rattle.spares.specs.Tracks.{TrackOn}
use Rattle.unit.specs.declared.Span.{Span}
use Rattle.unit.specs.declared.Spot.{Spot}
use Rattle.unit.specs.Landing.{track_of}
use Rattle.unit.specs.Standing.{CountsAsInitialized, UnitRecord, geometry, pairs, table}
use Rattle.wire.specs.Memory.{InMemory}
use Rattle.judge.specs.declared.Job.{Job}
use Rattle.judge.specs.declared.Leaving.{Leaving}
use Rattle.judge.specs.declared.Leaving.TheVariants.{AsItWas, HeadsAt, HeadsAtLastTried, Fresh, Mapped}
use Rattle.judge.specs.declared.Moving.{Moving}
use Rattle.judge.specs.declared.Moving.TheVariants.{Nothing, Sectors, Track}
use Rattle.judge.specs.declared.Plan.{Plan}
use Rattle.judge.specs.declared.Report.{Report}
use Rattle.judge.specs.declared.Report.TheVariants.{Nothing as Silent, Identity, Formatted}

-- A buffer for so many bytes that checks 18 and 19 let through.
abbrev pub BufferGood : List ℕ → Buffer → ℕ → Type 0
BufferGood host (Piece at) bytes = InMemory host at bytes
BufferGood host (Elements at n) bytes = ListGood host at n bytes × Ranges host at n

-- Some sectors, which their volume has.
pub record SpanGood (u : UnitRecord) (s : Span) : Type 0 where
  pub some : 0 < s.count
  pub inside : s.first + s.count ≤ volume_sectors (geometry u) s.volume

-- A job on a unit that counts as initialized: its volume has the sectors, the image is long enough, and the buffer is good.
pub record JobGood (u : UnitRecord) (image : ℕ) (host : List ℕ) (j : Job) : Type 0 where
  pub counts : CountsAsInitialized u
  pub span : SpanGood u j.span
  pub long : need (geometry u) ≤ image
  pub buffer : BufferGood host j.buffer (j.span.count * B (geometry u))

-- A format on such a unit: the spot is where a track of the drive lands.
pub record TrackGood (u : UnitRecord) (image : ℕ) (host : List ℕ) (spot : Spot) (at : ℕ) : Type 0 where
  pub counts : CountsAsInitialized u
  pub cylinder : ℕ
  pub head : ℕ
  pub named : OnDrive (geometry u) (address cylinder head 0)
  pub lands : spot ≡ track_of u cylinder head
  pub some : 0 < S (geometry u)
  pub track : spot.place + S (geometry u) ≤ drive_sectors (geometry u)
  pub long : need (geometry u) ≤ image
  pub buffer : InMemory host at (B (geometry u))

abbrev pub MovingFits : UnitRecord → ℕ → List ℕ → Moving → Type 0
MovingFits u image host Nothing = Unit {0}
MovingFits u image host (Sectors j) = JobGood u image host j
MovingFits u image host (Track spot at) = TrackGood u image host spot at

-- Two tracks that can become one more pair of a table: both are on the drive, they differ, neither is in the table already, and there is room.
pub record PairFits (u : UnitRecord) (bad spare : ℕ) : Type 0 where
  pub bad_on : TrackOn (geometry u) bad
  pub spare_on : TrackOn (geometry u) spare
  pub free : Free (pairs u) (table u) bad spare
  pub room : pairs u < 32

-- The heads are moved on a unit that counts as initialized, and to a cylinder of its drive; a new record has a geometry inside the limits, and a
-- pair more fits.
abbrev pub LeavingFits : UnitRecord → Leaving → Type 0
LeavingFits u AsItWas = Unit {0}
LeavingFits u (HeadsAt c) = CountsAsInitialized u × (c < C (geometry u))
LeavingFits u (HeadsAtLastTried s) = CountsAsInitialized u × SpanGood u s
LeavingFits u (Fresh g) = Within g
LeavingFits u (Mapped bad spare) = CountsAsInitialized u × PairFits u bad spare

-- The numbers that a format reports fit a byte: "sectors a track S 1 to 255".
abbrev pub ReportFits : Report → Type 0
ReportFits Silent = Unit {0}
ReportFits Identity = Unit {0}
ReportFits (Formatted n) = (1 ≤ n) × (n ≤ 255)

pub record PlanFits (u : UnitRecord) (image : ℕ) (host : List ℕ) (p : Plan) : Type 0 where
  pub moving : MovingFits u image host p.moving
  pub report : ReportFits p.report
  pub leaving : LeavingFits u p.leaving
