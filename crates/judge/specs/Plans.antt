-- What each command does where no check refuses it (01, One run; 02, K1 and K5): what is moved, what is reported in the block, and what becomes of the
-- unit's record.
use Rattle.std.specs.Prelude.{ℕ, None, Option, Some}
use Rattle.geometry.specs.Drive.{S}
use Rattle.request.specs.declared.Move.{Move}
use Rattle.request.specs.declared.Task.{Task}
use Rattle.request.specs.declared.Task.TheVariants.{Unknown, Move as Moves, Handshake, Initialize, Restore, Seek, Format, Map}
use Rattle.unit.specs.Landing.{spot_of, track_of}
use Rattle.unit.specs.Standing.{UnitRecord, geometry}
use Rattle.judge.specs.declared.Job.{Job}
use Rattle.judge.specs.declared.Leaving.{Leaving}
use Rattle.judge.specs.declared.Leaving.TheVariants.{AsItWas, HeadsAt, HeadsAtLastTried, Fresh, Mapped}
use Rattle.judge.specs.declared.Moving.{Moving}
use Rattle.judge.specs.declared.Moving.TheVariants.{Sectors, Track as Tracked}
use Rattle.judge.specs.declared.Plan.{Plan}
use Rattle.judge.specs.declared.Report.{Report}
use Rattle.judge.specs.declared.Report.TheVariants.{Identity, Formatted}
use Rattle.judge.specs.Given.{bad_number, spare_number, start_number}

-- The number of a start that check 16 has let pass, and 0 where there is none, which it refuses.
abbrev pub number_there : Option ℕ → ℕ
number_there (Some n) = n
number_there None = 0

-- A transfer from a number on.
abbrev pub job_of : Move → ℕ → Job
job_of m n =
    record {
      to_host = m.to_host;
      past_marks = m.past_marks;
      span = record { volume = m.target.volume; first = n; count = m.count };
      buffer = m.buffer;
    }

-- A plan in its three parts: what is moved, what is reported in the block, and what becomes of the unit's record.
abbrev pub plan : Moving → Report → Leaving → Plan
plan moving report leaving = record { moving = moving; report = report; leaving = leaving }

-- One that moves and reports nothing, and one that moves sectors: "the heads stand on the cylinder of the last sector tried".
abbrev pub only : Leaving → Plan
only leaving = plan Moving.Nothing Report.Nothing leaving

abbrev pub carrying : Job → Plan
carrying j = plan (Sectors j) Report.Nothing (HeadsAtLastTried j.span)

-- What is to be done, of a task that no check refuses. A task that some check always refuses has no plan: what stands for it
-- here is never asked for.
abbrev pub plan_of : UnitRecord → Task → Plan
plan_of u Unknown = only AsItWas
plan_of u (Moves m) = carrying (job_of m (number_there (start_number (geometry u) m.target.volume m.target.start)))
-- 86 "writes words 2 to 7 with this board's own identity"
plan_of u Handshake = plan Moving.Nothing Identity AsItWas
-- "87 replaces the unit record"
plan_of u (Initialize None) = only AsItWas
plan_of u (Initialize (Some g)) = only (Fresh g)
-- "89 goes to cylinder 0"; "8A goes to the address given", to the cylinder on which that lands
plan_of u Restore = only (HeadsAt 0)
plan_of u (Seek t) = only (HeadsAt (spot_of u t.volume (number_there (start_number (geometry u) t.volume t.start))).cylinder)
-- 8C reports how many sectors the track has (02, K1). "The heads end on the named cylinder", but where the track is bad "the heads then stand
-- on the spare's cylinder" (02, K5).
plan_of u (Format k) =
    let spot = track_of u k.cylinder k.head in
    plan (Tracked spot k.buffer) (Formatted (S (geometry u))) (HeadsAt spot.cylinder)
-- "85 moves neither data nor heads" (02, K5)
plan_of u (Map k) = only (Mapped (bad_number k) (spare_number k))
