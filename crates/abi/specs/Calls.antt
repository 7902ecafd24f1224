-- What the exported calls do, in bytes: a run and an inspection as board defines them, on records that cross as bytes. A buffer that is
-- too short for its layout, and a controller that there is not, are refused with a code each, and nothing is changed.
use Rattle.std.specs.Prelude.{ℕ, zero, suc, List, length}
use Rattle.std.specs.Borrow.{MutBor}
use Rattle.std.proofs.Math.Logic.{ite}
use Rattle.std.proofs.Math.Decide.{dec_lt}
use Rattle.answers.specs.Numbers.{run_number}
use Rattle.unit.specs.declared.UnitNumber.{UnitNumber}
use Rattle.unit.specs.declared.UnitNumber.TheVariants.{Zero, One}
use Rattle.unit.proofs.Decided.{same_with_table?}
use Rattle.unit.specs.declared.Controller.{Controller}
use Rattle.unit.specs.declared.Controller.TheVariants.{First, Second}
use Rattle.unit.specs.Standing.{UnitRecord}
use Rattle.board.specs.declared.inspection.Part.{Part}
use Rattle.board.specs.Chain.{Ending, ran}
use Rattle.board.specs.Inspection.{part_of}
use Rattle.abi.specs.Layouts.{ending_bytes, outcome_length, record_bytes, record_in, record_length}
use Rattle.board.specs.World.{World}
use Rattle.wire.specs.Storing.{written}

-- All that a caller lends to a run, or to a step, where `stepped` has the outcome's place; no two of them overlapping, which a caller in C has to see to.
pub record CallLent : Type 0 where
  pub host : List ℕ
  pub image0 : List ℕ
  pub image1 : List ℕ
  pub events : List ℕ
  pub record0 : List ℕ
  pub record1 : List ℕ
  pub outcome : List ℕ

abbrev pub lent_of : (host image0 image1 events record0 record1 outcome : List ℕ) → CallLent
lent_of host image0 image1 events record0 record1 outcome =
    record {
      host = host;
      image0 = image0;
      image1 = image1;
      events = events;
      record0 = record0;
      record1 = record1;
      outcome = outcome;
    }

-- What is lent by seven slices, which the arguments of a run and of a step begin with, and what is left in them at exit.
abbrev pub lent_in :
    {X : Type 0} →
    MutBor (List ℕ) × (MutBor (List ℕ) × (MutBor (List ℕ) × (MutBor (List ℕ) × (MutBor (List ℕ) × (MutBor (List ℕ) × (MutBor (List ℕ) × X)))))) → CallLent
lent_in a =
    lent_of a.0.now a.1.0.now a.1.1.0.now a.1.1.1.0.now a.1.1.1.1.0.now a.1.1.1.1.1.0.now
    a.1.1.1.1.1.1.0.now

-- What a call comes to: the number that it returns, and every lent byte.
pub record Called : Type 0 where
  pub code : ℕ
  pub lent : CallLent

abbrev pub called_of : ℕ → CallLent → Called
called_of code lent = record { code = code; lent = lent }

-- The codes of the refusals, apart from the paper's numbers, also where a caller keeps only the low byte.
abbrev pub record0_short : ℕ
record0_short = 0x1F1

abbrev pub record1_short : ℕ
record1_short = 0x1F2

abbrev pub outcome_short : ℕ
outcome_short = 0x1F3

abbrev pub controller_unknown : ℕ
controller_unknown = 0x1F4

-- The world that the bytes stand for, of a run by a controller.
abbrev pub world_in : Controller → CallLent → World
world_in c l =
    record {
      controller = c;
      host = l.host;
      drive0 = record { unit = record_in l.record0; image = l.image0 };
      drive1 = record { unit = record_in l.record1; image = l.image1 };
      events = l.events;
    }

-- A record's bytes after a run or a step: as they came, byte for byte, where the record in them is the same, holder and table included; and else it is stored, in all
-- its bytes. Bytes in which an initialized record stands are those that it is stored as (proofs/Again), and a block leaves a record as it was or initialized: so it does
-- not matter how often one is left.
unfoldable pub record_left : List ℕ → UnitRecord → List ℕ
record_left bytes u = ite (same_with_table? (record_in bytes) u) bytes (written bytes 0 (record_bytes u))

-- What is lent once a world stands in it, and what is told of how it came to that.
abbrev pub lent_after : CallLent → World → (told : List ℕ) → CallLent
lent_after l w told =
    lent_of w.host w.drive0.image w.drive1.image w.events (record_left l.record0 w.drive0.unit) (record_left l.record1 w.drive1.unit)
    (written l.outcome 0 told)

-- A run that was made: its answer is returned, and the world that it leaves stands in the bytes.
abbrev pub answered : CallLent → Ending → Called
answered l e = called_of (run_number e.answer) (lent_after l e.world (ending_bytes e))

abbrev pub made : Controller → ℕ → ℕ → CallLent → Called
made c first allowance l = answered l (ran first allowance (world_in c l))

-- The first controller has the number 0, the second 1.
abbrev pub controller_of : ℕ → Controller
controller_of zero = First
controller_of (suc n) = Second

-- What is asked before anything is done: the lengths of the records, and that of the third buffer, for which `short` is the code; then the controller's number, which is 0 or 1.
abbrev pub unless_refused : (short controller : ℕ) → CallLent → Called → Called
unless_refused short controller l done =
    ite (dec_lt (length l.record0) record_length) (called_of record0_short l)
    (ite (dec_lt (length l.record1) record_length) (called_of record1_short l)
    (ite (dec_lt (length l.outcome) outcome_length) (called_of short l)
    (ite (dec_lt 1 controller) (called_of controller_unknown l) done)))

-- A run of the controller with a number (02, K10).
unfoldable pub called_as : (controller first allowance : ℕ) → CallLent → Called
called_as controller first allowance l = unless_refused outcome_short controller l (made (controller_of controller) first allowance l)

-- A run that is told no controller is the first one's.
abbrev pub called : (first allowance : ℕ) → CallLent → Called
called first allowance l = called_as 0 first allowance l

-- What an inspection comes to: a code, 0 where it was made, also where it hands back no part, and which image, from which byte on, how
-- many bytes.
pub record Inspected : Type 0 where
  pub code : ℕ
  pub image : ℕ
  pub at : ℕ
  pub bytes : ℕ

abbrev pub inspected_of : (code image at bytes : ℕ) → Inspected
inspected_of code image at bytes = record { code = code; image = image; at = at; bytes = bytes }

abbrev pub image_number : UnitNumber → ℕ
image_number Zero = 0
image_number One = 1

-- `image`, `at` and `bytes` are what the caller's three numbers held.
unfoldable pub inspection : (record0 record1 : List ℕ) (long0 long1 unit place : ℕ) (image at bytes : ℕ) → Inspected
inspection record0 record1 long0 long1 unit place image at bytes =
    ite (dec_lt (length record0) record_length) (inspected_of record0_short image at bytes)
    (ite (dec_lt (length record1) record_length) (inspected_of record1_short image at bytes)
    (let p : Part = part_of (record_in record0) (record_in record1) long0 long1 unit place in
    inspected_of 0 (image_number p.unit) p.at p.bytes))
