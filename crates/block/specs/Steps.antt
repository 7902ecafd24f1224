-- What the functions of one block promise, between the code and the definitions of Block.
use Rattle.std.specs.Prelude.{ℕ, ◌+◌, ◌*◌, ◌≤◌, Bool, true, false, List, [], ◌++◌, ◌≡◌, ℤ, pos, length, Err, None, Ok, Option, Result, Some}
use Rattle.std.proofs.Math.Logic.{ite}
use Rattle.answers.specs.Numbers.{BlockAnswer}
use Rattle.answers.specs.declared.Refusal.{Refusal}
use Rattle.geometry.specs.declared.VolumeNumber.{VolumeNumber}
use Rattle.iopb.specs.declared.Block.{Block}
use Rattle.judge.specs.declared.Leaving.{Leaving}
use Rattle.judge.specs.declared.Moving.{Moving}
use Rattle.judge.specs.declared.Moving.TheVariants.{Nothing, Sectors, Track}
use Rattle.judge.specs.declared.Plan.{Plan}
use Rattle.transfer.specs.declared.Moved.{Moved}
use Rattle.transfer.specs.Data.{Transfer, data_on, formatting, moving, progress_on}
use Rattle.transfer.specs.Stores.{Buffers, Store, after}
use Rattle.transfer.specs.Whole.{SectorsFit, TrackFits, moved_on}
use Rattle.block.specs.declared.BlockTold.{BlockTold}
use Rattle.block.specs.declared.Done.{Done}
use Rattle.block.specs.declared.Performed.{Performed}
use Rattle.block.specs.Block.{Drive, Effect, begun, finish, holder_left, left_by, reported, transfer_of, travelled}
use Rattle.wire.specs.Promise.{Says}
use Rattle.unit.specs.declared.Controller.{Controller}
use Rattle.unit.specs.Standing.{CountsAsInitialized, UnitRecord, by_value, cylinder, geometry, table}
use Rattle.unit.proofs.Decided.{counts?}

-- What a block works on, as it is lent.
abbrev pub three : List ℕ → List ℕ → List ℕ → Buffers
three host image events = record { host = host; image = image; events = events }

-- There is room for the block and for its event entry.
pub record BlockRoom (host events : List ℕ) (at i : ℕ) : Type 0 where
  pub block : at + 28 ≤ length host
  pub entry : 8 * i + 8 ≤ length events

abbrev pub drive_with : UnitRecord → List ℕ → Drive
drive_with u image = record { unit = u; image = image }

-- Some stores were made on host memory and an image, whatever the event buffer beside them holds.
abbrev pub Stores : List Store → (host image host' image' : List ℕ) → Type 0
Stores ss host image host' image' = (events : List ℕ) → three host' image' events ≡ after ss (three host image events)

-- The transfer that is made, with byte k of a job's data at an index of host memory: the pieces of the data are found before anything is stored.
abbrev pub transfer_with : UnitRecord → Moving → (ℕ → ℕ) → Transfer
transfer_with u Nothing data_at = moving u false false VolumeNumber.Zero 0 0 (λ k. 0)
transfer_with u (Sectors j) data_at =
    moving u j.to_host j.past_marks j.span.volume j.span.first j.span.count data_at
transfer_with u (Track spot at) data_at = formatting u spot at

-- What is to be moved fits, to or from these pieces.
abbrev pub Ready : UnitRecord → Moving → (lengths addresses : List ℕ) → (long image : ℕ) → Type 0
Ready u Nothing lengths addresses long image = Unit {0}
Ready u (Sectors j) lengths addresses long image = SectorsFit (geometry u) j.span lengths addresses long image
Ready u (Track spot at) lengths addresses long image = TrackFits (geometry u) spot at long image

-- A block was marked as running and a transfer made: what it came to, and every byte.
pub record Made (t : Transfer) (at : ℕ) (host image host' image' : List ℕ) (m : Moved) : Type 0 where
  pub result : m ≡ moved_on image t
  pub stored : Stores (begun at ++ data_on image t) host image host' image'

-- What a block comes to before it is finished: its stores so far, its unit's record with the old holder, its answer, the sectors moved, and how far
-- the heads went. It is a plan's that is carried out, or that of a block turned down, which does nothing.
pub record Performance : Type 0 where
  pub stores : List Store
  pub unit : UnitRecord
  pub answer : BlockAnswer
  pub sectors : ℕ
  pub travel : ℤ

abbrev pub carried_out : List ℕ → Drive → ℕ → Plan → Performance
carried_out host d at plan =
    let t = transfer_of host d.unit plan.moving in
    let p = progress_on d.image t in
    let unit = left_by d.unit p.sectors plan.leaving in
    record {
      stores = begun at ++ data_on d.image t ++ reported at plan.report;
      unit = unit;
      answer = p.answer;
      sectors = p.sectors;
      travel = travelled (cylinder d.unit) plan.leaving (cylinder unit);
    }

abbrev pub turned_down : Drive → Refusal → Performance
turned_down d r = record { stores = []; unit = d.unit; answer = Err r; sectors = 0; travel = pos 0 }

abbrev pub acted_on : List ℕ → Drive → ℕ → Result Plan Refusal → Performance
acted_on host d at (Err r) = turned_down d r
acted_on host d at (Ok plan) = carried_out host d at plan

-- The record then has the holder that is left, and the block is finished.
abbrev pub held_unit : Controller → (reserve : Bool) → Result Plan Refusal → BlockAnswer → UnitRecord → UnitRecord
held_unit c reserve (Err r) answer u = u
held_unit c reserve (Ok plan) answer u = holder_left c reserve plan.leaving answer u

abbrev pub finished : Controller → Block → ℕ → ℕ → Result Plan Refusal → Performance → Effect
finished c b at i v p =
    record {
      stores = p.stores ++ finish b at i p.answer p.travel;
      unit = held_unit c b.options.reserve v p.answer p.unit;
      answer = p.answer;
      sectors = p.sectors;
    }

-- What a plan stores was stored in its order, and its transfer came to that.
pub record Carries (host : List ℕ) (d : Drive) (at : ℕ) (plan : Plan) (host' image' : List ℕ) (m : Moved) : Type 0 where
  pub result : m ≡ moved_on d.image (transfer_of host d.unit plan.moving)
  pub stored : Stores (carried_out host d at plan).stores host d.image host' image'

-- The table of the record that a block leaves.
abbrev pub table_by : UnitRecord → (moved : ℕ) → Leaving → List ℕ
table_by u moved l = table (left_by u moved l)

-- A block was performed.
abbrev pub performed_of : Performance → Performed
performed_of p = record { unit = by_value p.unit; answer = p.answer; sectors = p.sectors; travel = p.travel }

pub record Performs (p : Performance) (host image host' image' ts' : List ℕ) (d : Performed) : Type 0 where
  pub result : d ≡ performed_of p
  pub table : ts' ≡ table p.unit
  pub stored : Stores p.stores host image host' image'

-- What is known of a unit before a block is so.
abbrev pub Knows : Option Bool → UnitRecord → Type 0
Knows None u = Unit {0}
Knows (Some b) u = Says b (CountsAsInitialized u)

-- What a block tells, with the answer whether its unit counts as initialized now, and its link.
abbrev pub told_of : Block → (counts : Bool) → BlockAnswer → (sectors : ℕ) → BlockTold
told_of b counts answer sectors =
    record { counts = counts; answer = answer; sectors = sectors; linked = b.options.link; link = b.link }

-- What is returned of it.
abbrev pub done_of : Block → Effect → Done
done_of b e = record { unit = by_value e.unit; told = told_of b (ite (counts? e.unit) true false) e.answer e.sectors }

-- A block's effect is what was done: what is told, the unit, and every byte.
pub record Did (b : Block) (e : Effect) (m m' : Buffers) (u' : UnitRecord) (told : BlockTold) : Type 0 where
  pub result : told ≡ told_of b (ite (counts? e.unit) true false) e.answer e.sectors
  pub unit : u' ≡ e.unit
  pub stored : m' ≡ after e.stores m
