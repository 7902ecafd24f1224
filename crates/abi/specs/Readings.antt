-- What the inner functions of the calls promise each other: which code a refusal has, what was asked before a run or a step, what a record's bytes come to,
-- and where lands what is asked for, by number or by address.
use Rattle.unit.specs.declared.Controller.{Controller}
use Rattle.unit.specs.declared.Spot.{Spot}
use Rattle.std.specs.Prelude.{ℕ, ◌≡◌, ◌≤◌, List, length, Err, MatchResult, Ok, Option, Result}
use Rattle.std.proofs.Math.Logic.{ite}
use Rattle.std.proofs.Math.Decide.{dec_lt}
use Rattle.unit.specs.Answers.{landing_at}
use Rattle.unit.specs.Standing.{UnitRecord}
use Rattle.unit.proofs.Decided.{counts?}
use Rattle.abi.specs.declared.CallRefusal.{CallRefusal}
use Rattle.abi.specs.declared.CallRefusal.TheVariants.{ControllerUnknown, EntryShort, NotInitialized, OutcomeShort, Record0Short, Record1Short, SectorOutside, SteppedShort}
use Rattle.abi.specs.declared.places.Wanted.{Wanted}
use Rattle.abi.specs.declared.places.Wanted.TheVariants.{Numbered, Addressed}
use Rattle.abi.specs.Calls.{CallLent, Called, called_of, controller_of, controller_unknown, outcome_short, record0_short, record1_short, unless_refused}
use Rattle.abi.specs.Layouts.{outcome_length, record_in, record_length}
use Rattle.abi.specs.Places.{not_initialized, numbered_in, sector_outside}
use Rattle.abi.specs.Stepping.{no_entry, stepped_short}
use Rattle.abi.specs.Unread.{read_in}

-- The codes are those of `Calls`, `Stepping` and `Places`.
abbrev pub code_of : CallRefusal → ℕ
code_of Record0Short = record0_short
code_of Record1Short = record1_short
code_of OutcomeShort = outcome_short
code_of ControllerUnknown = controller_unknown
code_of SteppedShort = stepped_short
code_of EntryShort = no_entry
code_of NotInitialized = not_initialized
code_of SectorOutside = sector_outside

-- What a run and a step ask first, of buffers so long: where none of it refuses, they are long enough, there is such a controller, and this is it;
-- else the call comes to the refusal's code, whatever it would have done.
abbrev pub Asked : (record0 record1 third : ℕ) (short : CallRefusal) (controller : ℕ) → Result Controller CallRefusal → Type 0
Asked record0 record1 third short controller r =
    MatchResult r
    (λ c. (c ≡ controller_of controller) × ((record_length ≤ record0) × ((record_length ≤ record1) × ((outcome_length ≤ third) × (controller ≤ 1)))))
    (λ e.
    (l : CallLent) (done : Called) → length l.record0 ≡ record0 → length l.record1 ≡ record1 → length l.outcome ≡ third →
    unless_refused (code_of short) controller l done ≡ called_of (code_of e) l)

-- A unit that counts as initialized, as it is read, or why there is none.
unfoldable pub reading : (bytes : List ℕ) → Result UnitRecord CallRefusal
reading bytes =
    ite (dec_lt (length bytes) record_length) (Err Record0Short)
    (ite (counts? (record_in bytes)) (Ok (read_in bytes)) (Err NotInitialized))

-- A reading whose unit, where it counts, stands in a lent one.
abbrev pub with_unit : Result (Unit {0}) CallRefusal → UnitRecord → Result UnitRecord CallRefusal
with_unit (Ok _) u = Ok u
with_unit (Err e) u = Err e

-- The two ways of asking for a sector are those of `Places`.
abbrev pub lands_as : Wanted → UnitRecord → Option Spot
lands_as (Numbered volume number) u = numbered_in volume number u
lands_as (Addressed a) u = landing_at u a
