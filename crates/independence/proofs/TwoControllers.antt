-- The pairs where a drive is held, and those on two controllers.
-- A block that is refused by 24 is told by its verdict alone, and bytes of two memories are no-more the same byte.
use Rattle.std.proofs.Common.{Err, Ok, Some}
use Prim.Native.Nat.{ℕ, ◌+◌}
use mathlib.Core.Bool.{true}
use mathlib.Core.List.{[], ◌∷◌, ◌++◌}
use mathlib.Core.Logic.{inl}
use mathlib.Core.Path.{◌≡◌, refl, ap, ◌∙◌}
use native.Mathlib.Omega.{arith}
use lib.IntN.{pos}
use Rattle.board.specs.Ends.{end_of}
use Rattle.wire.specs.Words.{word}
use Rattle.wire.proofs.Promises.{never as impossible}
use Rattle.answers.specs.declared.Refusal.{Refusal}
use Rattle.answers.specs.declared.RunAnswer.{RunAnswer}
use Rattle.iopb.specs.Ask.{task_of}
use Rattle.iopb.specs.Layout.{block_at}
use Rattle.judge.specs.declared.Leaving.{Leaving}
use Rattle.judge.specs.Plans.{only}
use Rattle.judge.proofs.Tasks.{held_24, own, restore_done}
use Rattle.request.specs.declared.Task.{Task}
use Rattle.unit.specs.declared.UnitNumber.TheVariants.{Zero, One}
use Rattle.transfer.specs.Data.{data_on}
use Rattle.transfer.specs.Progress.{progress}
use Rattle.transfer.specs.Stores.{after, bytes_from, up_to}
use Rattle.unit.specs.declared.Controller.TheVariants.{First as FirstController, Second as SecondController}
use Rattle.unit.specs.Standing.{held_by}
use Rattle.block.specs.Block.{begun, finish}
use Rattle.demands.specs.Footprint.{ReadsHost, WritesHost, names, verdict_of}
use Rattle.demands.specs.Footprint.HostRead.{block}
use Rattle.demands.specs.Footprint.HostWritten.{moved as given, status_word}
use Rattle.demands.specs.Visits.{Passes}
use Rattle.demands.proofs.BlockLaws.{refusal_moves_nothing}
use Rattle.demands.proofs.Written.{effect_is}
use Rattle.independence.specs.Chains.{Both, First, leaving, run_of}
use Rattle.independence.specs.Demand3.{Independent}
use Rattle.independence.proofs.Held.{reads_its_28_bytes_alone}
use Rattle.independence.specs.TwoChains.{come, first_in, one, second_in, two}
use Rattle.independence.specs.TwoControllers.{FailsByTwo, MetByTwo, held_drive, held_list, held_uib, of_other, other, other_in, same_bytes, shared_drive}
use Rattle.independence.proofs.Carried.{Alone, Carried, comes_done, comes_refused, data_at, differ, fails_otherwise, met, no_unit, passes_at, read_carried, silent, still, v}
use Rattle.independence.proofs.OneBlock.{by_block, done, leaves, of_block, writes_in}
use Rattle.independence.proofs.Tiny.{counts, unit}
use Rattle.independence.proofs.TwoChains.{both_pass, wrote_56}
use Rattle.board.specs.World.{World, buffers_of, changed, world_after}

-- A block that is refused by 24 reads its 28 bytes and writes its word 1, whatever it asked for.
held_alone :
    (w : World) (at : ℕ) (passes : Passes at 1 w) → verdict_of (v w at passes) ≡ Err Refusal.DriveHeld →
    Alone at w (names (v w at passes)) ((at, 28) ∷ []) ((at + 2, 2) ∷ [])
held_alone w at passes is =
    record {
      names_it = λ n. of_block at w passes (λ v. names v ≡ n);
      reads_there =
          λ x r.
          inl
          (reads_its_28_bytes_alone (v w at passes) (refusal_moves_nothing (v w at passes) _ is).1 x
          (of_block at w passes (λ v. ReadsHost v x) r));
      writes_there =
          λ x r.
          writes_in (v w at passes) [] x (silent w at passes _ is refl x) (still w at passes _ is refl true x)
          (of_block at w passes (λ v. WritesHost v x) r);
    }

-- ---- a UIB that is not read

uib_pass : Passes 0 1 (first_in held_uib) × Passes 28 1 (second_in held_uib)
uib_pass = both_pass held_uib refl refl (omega arith)

uib_first : Carried (first_in held_uib) 0 true 56 1 1 (Ok tt)
unfolding word task_of
uib_first = read_carried (first_in held_uib) 0 uib_pass.0 7 0 refl 56 refl (omega arith)

uib_held : verdict_of (v (second_in held_uib) 28 uib_pass.1) ≡ Err Refusal.DriveHeld
unfolding word task_of
uib_held = held_24 FirstController held_drive.unit _ _ (Task.Initialize _) tt refl

uib_second : Alone 28 (second_in held_uib) One ((28, 28) ∷ []) ((30, 2) ∷ [])
unfolding word
uib_second = held_alone (second_in held_uib) 28 uib_pass.1 uib_held

-- ---- a list that is not read

list_pass : Passes 0 1 (first_in held_list) × Passes 28 1 (second_in held_list)
list_pass = both_pass held_list refl refl (omega arith)

list_first : Carried (first_in held_list) 0 true 56 1 1 (Ok tt)
unfolding word task_of
list_first = read_carried (first_in held_list) 0 list_pass.0 7 0 refl 56 refl (omega arith)

list_held : verdict_of (v (second_in held_list) 28 list_pass.1) ≡ Err Refusal.DriveHeld
unfolding word task_of
list_held = held_24 FirstController held_drive.unit _ _ (Task.Move _) tt refl

list_second : Alone 28 (second_in held_list) One ((28, 28) ∷ []) ((30, 2) ∷ [])
unfolding word
list_second = held_alone (second_in held_list) 28 list_pass.1 list_held

-- ---- on two controllers

two_controllers : FirstController ≡ SecondController → ⊥
two_controllers same = impossible (cc same)

same_pass : Passes 0 1 (first_in same_bytes) × Passes 28 1 (other_in same_bytes)
same_pass = (passes_at (first_in same_bytes) 0 refl refl (omega arith), passes_at (other_in same_bytes) 28 refl refl (omega arith))

same_first : Carried (first_in same_bytes) 0 true 28 1 1 (Ok tt)
unfolding word task_of
same_first = read_carried (first_in same_bytes) 0 same_pass.0 7 0 refl 28 refl (omega arith)

same_second : Carried (other_in same_bytes) 28 true 0 1 1 (Ok tt)
unfolding word task_of
same_second = read_carried (other_in same_bytes) 28 same_pass.1 9 0 refl 0 refl (omega arith)

same_met : Independent one other same_bytes
unfolding word
same_met =
    record {
      units = no_unit one other same_bytes same_first.footprint same_second.footprint differ;
      written = λ same. absurd (two_controllers same);
      read = λ same. absurd (two_controllers same);
    }

pub met_by_two : MetByTwo
unfolding word
met_by_two =
    record {
      held_uib_lem = met one two held_uib uib_first.footprint uib_second differ (omega arith) (omega arith) (omega arith);
      uib_not_read = (
        comes_refused (second_in held_uib) 28 uib_pass.1 _ uib_held,
        (omega arith, wrote_56 (first_in held_uib) 0 uib_pass.0 uib_first),
      );
      held_list_lem = met one two held_list list_first.footprint list_second differ (omega arith) (omega arith) (omega arith);
      list_not_read = (
        comes_refused (second_in held_list) 28 list_pass.1 _ list_held,
        (omega arith, wrote_56 (first_in held_list) 0 list_pass.0 list_first),
      );
      same_bytes_lem = same_met;
      both_move = (
        ap end_of (done 0 _ same_pass.0 refl 1 same_first.answer same_first.sectors),
        ap end_of (done 28 _ same_pass.1 refl 1 same_second.answer same_second.sectors),
      );
      byte_30 = (
        by_block 0 _ same_pass.0 (λ v. WritesHost v 30)
            (given (data_at (first_in same_bytes) 0 same_pass.0 same_first 2 (omega arith))),
        (
          by_block 28 _ same_pass.1 (λ v. WritesHost v 30) (status_word (omega arith)),
          by_block 28 _ same_pass.1 (λ v. ReadsHost v 30) (block (omega arith)),
        ),
      );
    }

-- ---- one drive

shared_pass : Passes 0 1 (first_in shared_drive) × Passes 28 1 (other_in shared_drive)
shared_pass = (passes_at (first_in shared_drive) 0 refl refl (omega arith), passes_at (other_in shared_drive) 28 refl refl (omega arith))

first_restores : verdict_of (v (first_in shared_drive) 0 shared_pass.0) ≡ Ok (only (Leaving.HeadsAt 0))
unfolding word task_of
first_restores = own _ _ _ _ _ tt refl ∙ restore_done FirstController (unit 0) 130 shared_drive.host1 (counts 0 (omega arith))

other_restores : verdict_of (v (other_in shared_drive) 28 shared_pass.1) ≡ Ok (only (Leaving.HeadsAt 0))
unfolding word task_of
other_restores = own _ _ _ _ _ tt refl ∙ restore_done SecondController (unit 0) 130 shared_drive.host2 (counts 0 (omega arith))

alone_done : of_other shared_drive ≡ come RunAnswer.Done 0 0
alone_done = comes_done (other_in shared_drive) 28 shared_pass.1 refl _ other_restores refl

-- What the first leaves: the drive is its own, and the second finds it so.
abbrev taken_world : World
taken_world =
    let w = first_in shared_drive in
    changed w Zero (after (begun 0 ++ finish (block_at w.host 0) 0 0 (Ok tt) (pos 0)) (buffers_of w Zero)) (held_by (unit 0) (Some FirstController))

takes : (run_of First one).left shared_drive ≡ leaving First FirstController shared_drive taken_world
unfolding world_after bytes_from data_on progress up_to
takes =
    ap (leaving First FirstController shared_drive) {y = taken_world}
    (leaves 0 (first_in shared_drive) shared_pass.0 refl ∙ rw (effect_is (v (first_in shared_drive) 0 shared_pass.0), first_restores))

abbrev then : Both
then = leaving First FirstController shared_drive taken_world

then_pass : Passes 28 1 (other_in then)
unfolding after bytes_from
then_pass = passes_at (other_in then) 28 refl refl (omega arith)

then_held : verdict_of (v (other_in then) 28 then_pass) ≡ Err Refusal.DriveHeld
unfolding word task_of after bytes_from
then_held = held_24 SecondController (held_by (unit 0) (Some FirstController)) _ _ Task.Restore tt refl

then_refused : of_other then ≡ come RunAnswer.BlockFailed 24 0
then_refused = comes_refused (other_in then) 28 then_pass _ then_held

pub fails_by_two : FailsByTwo
unfolding word
fails_by_two =
    record {
      alone = alone_done;
      after_the_first = ap of_other takes ∙ then_refused;
      shared_drive_lem = (
        λ none. none Zero (by_block 0 _ shared_pass.0 (λ v. names v ≡ Zero) refl) (by_block 28 _ shared_pass.1 (λ v. names v ≡ Zero) refl),
        (
          λ same. absurd (two_controllers same),
          (
            λ same. absurd (two_controllers same),
            fails_otherwise one other shared_drive then _ _ takes then_refused alone_done (λ same. omega arith),
          ),
        ),
      );
    }
