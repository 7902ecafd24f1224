-- The numbers stay distinct (01, What the board answers for), and there are no others: a number leads back to its answer.
-- Each answer is found again by its number, so two answers with one number are one answer.
use Prim.Native.Nat.{ℕ, ◌≤◌}
use mathlib.Core.Bool.{cond}
use mathlib.Core.Path.{◌≡◌, refl, sym, ap, ◌∙◌}
use native.Mathlib.Omega.{arith}
use lib.Dec.{eqb}
use Rattle.answers.specs.declared.Refusal.{Refusal}
use Rattle.answers.specs.declared.Refusal.TheVariants.{CommandUnknown, NotInitialized, UibMisplaced, UibOutsideLimits, VolumeAbsent, CountZero, SectorOutside, ImageShort, ListBad, DataMisplaced, Unreadable, TracksTaken, TableFull, DriveHeld}
use Rattle.answers.specs.declared.RunAnswer.{RunAnswer}
use Rattle.answers.specs.declared.RunAnswer.TheVariants.{Done, EventsShort, AllowanceBad, FirstBad, BlockFailed, LinkBad, AllowanceSpent}
use Rattle.answers.specs.RunNumbers.{OfABlock}
use Rattle.answers.specs.Numbers.{refusal_number, run_number}

refusal : ℕ → Refusal
refusal n =
    cond (eqb n 10) CommandUnknown
    (cond (eqb n 11) NotInitialized
    (cond (eqb n 12) UibMisplaced
    (cond (eqb n 13) UibOutsideLimits
    (cond (eqb n 14) VolumeAbsent
    (cond (eqb n 15) CountZero
    (cond (eqb n 16) SectorOutside
    (cond (eqb n 17) ImageShort
    (cond (eqb n 18) ListBad
    (cond (eqb n 19) DataMisplaced
    (cond (eqb n 20) Unreadable
    (cond (eqb n 22) TracksTaken
    (cond (eqb n 23) TableFull
    DriveHeld))))))))))))

refusal_back : (a : Refusal) → refusal (refusal_number a) ≡ a
unfolding refusal
refusal_back CommandUnknown = refl
refusal_back NotInitialized = refl
refusal_back UibMisplaced = refl
refusal_back UibOutsideLimits = refl
refusal_back VolumeAbsent = refl
refusal_back CountZero = refl
refusal_back SectorOutside = refl
refusal_back ImageShort = refl
refusal_back ListBad = refl
refusal_back DataMisplaced = refl
refusal_back Unreadable = refl
refusal_back TracksTaken = refl
refusal_back TableFull = refl
refusal_back DriveHeld = refl

pub refusals_differ : (a b : Refusal) → refusal_number a ≡ refusal_number b → a ≡ b
refusals_differ a b same = sym (refusal_back a) ∙ ap refusal same ∙ refusal_back b

answer : ℕ → RunAnswer
answer n =
    cond (eqb n 0) Done
    (cond (eqb n 1) EventsShort
    (cond (eqb n 2) AllowanceBad
    (cond (eqb n 3) FirstBad
    (cond (eqb n 4) BlockFailed
    (cond (eqb n 5) LinkBad
    AllowanceSpent)))))

answer_back : (a : RunAnswer) → answer (run_number a) ≡ a
unfolding answer
answer_back Done = refl
answer_back EventsShort = refl
answer_back AllowanceBad = refl
answer_back FirstBad = refl
answer_back BlockFailed = refl
answer_back LinkBad = refl
answer_back AllowanceSpent = refl

pub answers_differ : (a b : RunAnswer) → run_number a ≡ run_number b → a ≡ b
answers_differ a b same = sym (answer_back a) ∙ ap answer same ∙ answer_back b

-- Every answer of a run has one of its numbers, and every answer of a failed block one of those.
pub answers_in_range : (a : RunAnswer) → run_number a ≤ 6
answers_in_range Done = omega arith
answers_in_range EventsShort = omega arith
answers_in_range AllowanceBad = omega arith
answers_in_range FirstBad = omega arith
answers_in_range BlockFailed = omega arith
answers_in_range LinkBad = omega arith
answers_in_range AllowanceSpent = omega arith

pub refusals_in_range : (a : Refusal) → OfABlock (refusal_number a)
refusals_in_range CommandUnknown = (omega arith, omega arith, λ is. omega arith)
refusals_in_range NotInitialized = (omega arith, omega arith, λ is. omega arith)
refusals_in_range UibMisplaced = (omega arith, omega arith, λ is. omega arith)
refusals_in_range UibOutsideLimits = (omega arith, omega arith, λ is. omega arith)
refusals_in_range VolumeAbsent = (omega arith, omega arith, λ is. omega arith)
refusals_in_range CountZero = (omega arith, omega arith, λ is. omega arith)
refusals_in_range SectorOutside = (omega arith, omega arith, λ is. omega arith)
refusals_in_range ImageShort = (omega arith, omega arith, λ is. omega arith)
refusals_in_range ListBad = (omega arith, omega arith, λ is. omega arith)
refusals_in_range DataMisplaced = (omega arith, omega arith, λ is. omega arith)
refusals_in_range Unreadable = (omega arith, omega arith, λ is. omega arith)
refusals_in_range TracksTaken = (omega arith, omega arith, λ is. omega arith)
refusals_in_range TableFull = (omega arith, omega arith, λ is. omega arith)
refusals_in_range DriveHeld = (omega arith, omega arith, λ is. omega arith)
