-- The pairs that show what does not count: what a chain reads and writes is told by the verdict on its one block, and what it does not read by the
-- check that refuses it. This is shown of what demand 3 counts as read, on whatever world it is counted.
use Rattle.std.proofs.Common.{Ok}
use Prim.Native.Nat.{ℕ}
use mathlib.Core.Bool.{true}
use mathlib.Core.List.{[], ◌∷◌}
use mathlib.Core.Logic.{inl, inr, ⊎_elim}
use mathlib.Core.Path.{◌≡◌, refl, sym, ap}
use native.Mathlib.Omega.{arith}
use Rattle.board.specs.Ends.{end_of}
use Rattle.wire.specs.Among.{Among}
use Rattle.wire.specs.Words.{word}
use Rattle.answers.specs.declared.RunAnswer.{RunAnswer}
use Rattle.board.proofs.Runs.{ran_allowance_bad}
use Rattle.iopb.specs.Ask.{task_of}
use Rattle.demands.specs.Footprint.{WritesHost, names, verdict_of}
use Rattle.demands.specs.Footprint.HostWritten.{moved as given}
use Rattle.demands.specs.Visits.{Passes}
use Rattle.demands.proofs.Reports.{FormatTold}
use Rattle.judge.specs.Plans.{plan_of}
use Rattle.request.specs.declared.Buffer.{Buffer}
use Rattle.request.specs.declared.Task.{Task}
use Rattle.unit.specs.declared.UnitNumber.TheVariants.{Zero, One}
use Rattle.unit.specs.declared.Controller.TheVariants.{First as FirstController}
use Rattle.unit.specs.Standing.{fresh}
use Rattle.independence.specs.Chains.{HostReads}
use Rattle.independence.specs.NotCounted.{NotCounted, format_data, long_list, odd_uib, refused_list, refused_run, spent}
use Rattle.independence.specs.TwoChains.{come, first_in, one, second_in, shaped, two}
use Rattle.independence.proofs.Carried.{Alone, Carried, LiesOf, data_at, differ, met, no_way, passes_at, read_carried, reading, v}
use Rattle.independence.proofs.Formats.{format_alone, format_comes, format_took}
use Rattle.independence.proofs.OneBlock.{In, by_block, done, none_fetched}
use Rattle.independence.proofs.Refused.{Bare, misplaced_unread, over_64_unread, restored, unready_unread, word_1_written}
use Rattle.independence.proofs.Tiny.{format_passes, move_by, track}
use Rattle.independence.proofs.TwoChains.{both_pass, wrote_56}

in_its_block : (x : ℕ) → In ((0, 28) ∷ []) x → Among 0 28 x
in_its_block x lies = ⊎_elim (λ here. here) (λ none. absurd none) lies

-- ---- a list of 65 elements

long_pass : Passes 0 1 (first_in long_list) × Passes 28 1 (second_in long_list)
long_pass = both_pass long_list refl refl (omega arith)

long_first : Bare (first_in long_list) 0 (come RunAnswer.BlockFailed 18 0)
unfolding word task_of
long_first = over_64_unread _ 0 long_pass.0 7 0 refl true 28 65 refl (omega arith)

long_second : Bare (second_in long_list) 28 (come RunAnswer.Done 0 0)
unfolding word task_of
long_second = restored _ 28 long_pass.1 9 0 refl refl refl

long_unread : (x : ℕ) → HostReads one (first_in long_list) x → In ((0, 28) ∷ []) x
unfolding word task_of
long_unread x r =
    reading 0 x _ r (passes_at _ 0 refl refl (omega arith)) (λ p. (over_64_unread _ 0 p 7 0 refl true 28 65 refl (omega arith)).footprint)

-- ---- a UIB at an odd address

odd_pass : Passes 0 1 (first_in odd_uib) × Passes 28 1 (second_in odd_uib)
odd_pass = both_pass odd_uib refl refl (omega arith)

odd_first : Bare (first_in odd_uib) 0 (come RunAnswer.BlockFailed 12 0)
unfolding word task_of
odd_first = misplaced_unread _ 0 odd_pass.0 refl 29 refl (λ place. omega (arith, place.even))

odd_second : Bare (second_in odd_uib) 28 (come RunAnswer.Done 0 0)
unfolding word task_of
odd_second = restored _ 28 odd_pass.1 9 0 refl refl refl

odd_unread : (x : ℕ) → HostReads one (first_in odd_uib) x → In ((0, 28) ∷ []) x
unfolding word task_of
odd_unread x r =
    reading 0 x _ r (passes_at _ 0 refl refl (omega arith)) (λ p. (misplaced_unread _ 0 p refl 29 refl (λ place. omega (arith, place.even))).footprint)

-- ---- a list of a block that is refused with 11

list_pass : Passes 0 1 (first_in refused_list) × Passes 28 1 (second_in refused_list)
list_pass = both_pass refused_list refl refl (omega arith)

list_first : Bare (first_in refused_list) 0 (come RunAnswer.BlockFailed 11 0)
unfolding word task_of
list_first = unready_unread _ 0 list_pass.0 refl (move_by true 0 1 (Buffer.List 28 1)) refl (λ counts. no_way (sym counts.said))

list_second : Bare (second_in refused_list) 28 (come RunAnswer.Done 0 0)
unfolding word task_of
list_second = restored _ 28 list_pass.1 9 0 refl refl refl

list_unread : (x : ℕ) → HostReads one (first_in refused_list) x → In ((0, 28) ∷ []) x
unfolding word task_of
list_unread x r =
    reading 0 x _ r (passes_at _ 0 refl refl (omega arith))
    (λ p. (unready_unread _ 0 p refl (move_by true 0 1 (Buffer.List 28 1)) refl (λ counts. no_way (sym counts.said))).footprint)

-- ---- the byte after a format's data

format_pass : Passes 0 1 (first_in format_data) × Passes 28 1 (second_in format_data)
format_pass = both_pass format_data refl refl (omega arith)

format_judged : verdict_of (v (first_in format_data) 0 format_pass.0) ≡ Ok (plan_of (fresh (shaped 1 2)) (Task.Format (track 56)))
unfolding word task_of
format_judged = format_passes FirstController format_data.host1 1 2 56 (omega arith) refl (omega arith)

format_first : Alone 0 (first_in format_data) Zero ((0, 28) ∷ (56, 64) ∷ []) ((2, 2) ∷ (7, 3) ∷ [])
unfolding word task_of
format_first = format_alone _ format_pass.0 56 refl refl format_judged

format_told : FormatTold (record { at = 0; index = 0; world = first_in format_data })
unfolding word task_of
format_told = format_comes _ format_pass.0 56 refl refl format_judged

format_second : Carried (second_in format_data) 28 true 120 1 1 (Ok tt)
unfolding word task_of
format_second = read_carried _ 28 format_pass.1 9 0 refl 120 refl (omega arith)

after_its_data : In ((0, 28) ∷ (56, 64) ∷ []) 120 → ⊥
after_its_data (inl block) = omega arith
after_its_data (inr (inl data_there)) = omega arith
after_its_data (inr (inr none)) = none

format_unread : HostReads one (first_in format_data) 120 → ⊥
unfolding word task_of
format_unread r =
    after_its_data
    (reading 0 120 _ r (passes_at _ 0 refl refl (omega arith))
    (λ p. format_alone _ p 56 refl refl (format_passes FirstController _ 1 2 56 (omega arith) refl (omega arith))))

-- ---- a run that is refused

run_pass : Passes 0 1 (first_in refused_run) × Passes 28 1 (second_in refused_run)
run_pass = both_pass refused_run refl refl (omega arith)

run_first : Carried (first_in refused_run) 0 true 56 1 1 (Ok tt)
unfolding word task_of
run_first = read_carried _ 0 run_pass.0 7 0 refl 56 refl (omega arith)

run_second : Carried (second_in refused_run) 28 true 56 1 1 (Ok tt)
unfolding word task_of
run_second = read_carried _ 28 run_pass.1 7 0 refl 56 refl (omega arith)

fetches_none : LiesOf spent (second_in refused_run) One [] []
fetches_none =
    record {
      names_it = λ n named. absurd (none_fetched _ _ _ _ named (λ p. omega (arith, p.least)));
      reads_there = λ x r. none_fetched _ _ _ _ r (λ p. omega (arith, p.least));
      writes_there = λ x w. none_fetched _ _ _ _ w (λ p. omega (arith, p.least));
    }

pub not_counted : NotCounted
unfolding word task_of
not_counted =
    record {
      long_list_lem = met one two long_list long_first.footprint long_second.footprint differ (omega arith) (omega arith) (omega arith);
      long_list_comes = (long_first.comes, long_second.comes);
      long_list_unread = (
        λ x r. in_its_block x (long_unread x r),
        ((omega arith, omega arith), word_1_written _ 28 long_pass.1 30 (omega arith)),
      );
      odd_uib_lem = met one two odd_uib odd_first.footprint odd_second.footprint differ (omega arith) (omega arith) (omega arith);
      odd_uib_comes = (odd_first.comes, odd_second.comes);
      odd_uib_unread = (λ x r. in_its_block x (odd_unread x r), (omega arith, word_1_written _ 28 odd_pass.1 30 (omega arith)));
      refused_list_lem = met one two refused_list list_first.footprint list_second.footprint differ (omega arith) (omega arith) (omega arith);
      refused_list_comes = (list_first.comes, list_second.comes);
      refused_list_unread = (λ x r. in_its_block x (list_unread x r), (omega arith, word_1_written _ 28 list_pass.1 30 (omega arith)));
      format_data_lem = met one two format_data format_first format_second.footprint differ (omega arith) (omega arith) (omega arith);
      format_data_comes = (
        ap end_of (done 0 _ format_pass.0 refl 2 format_told.ended format_told.counted),
        ap end_of (done 28 _ format_pass.1 refl 1 format_second.answer format_second.sectors),
      );
      format_data_read = (
        format_took _ format_pass.0 56 refl refl format_judged 63 (omega arith) (omega arith),
        (
          format_unread,
          by_block 28 _ format_pass.1 (λ v. WritesHost v 120)
              (given (data_at _ 28 format_pass.1 format_second 0 (omega arith))),
        ),
      );
      refused_run_lem = met one spent refused_run run_first.footprint fetches_none differ (omega arith) (omega arith) (omega arith);
      refused_run_comes = (
        ap end_of (done 0 _ run_pass.0 refl 1 run_first.answer run_first.sectors),
        ap end_of (ran_allowance_bad 28 0 (second_in refused_run) (omega arith) (λ good. omega arith)),
      );
      refused_run_would = (
        (by_block 0 _ run_pass.0 (λ v. names v ≡ Zero) refl, by_block 28 _ run_pass.1 (λ v. names v ≡ Zero) refl),
        (wrote_56 _ 0 run_pass.0 run_first, wrote_56 _ 28 run_pass.1 run_second),
      );
    }
