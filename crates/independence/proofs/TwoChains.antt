-- The pairs of demand 3: what each chain of a pair comes to, reads and writes is told by the verdict on its one block.
-- Which bytes are shared is then arithmetic on their addresses.
use Rattle.std.proofs.Common.{Err, Ok, Result}
use Prim.Native.Nat.{ℕ, ◌+◌, ◌-◌, ◌≤◌, ◌<◌}
use mathlib.Core.Bool.{true, false}
use mathlib.Core.List.{[], ◌∷◌, ◌++◌}
use mathlib.Core.Logic.{◌⊎◌, ◌↔◌, inl, inr, ⊎_elim}
use mathlib.Core.Path.{◌≡◌, refl, sym, ap, subst, ◌∙◌}
use native.Mathlib.Omega.{arith}
use lib.ListN.{get_or, length}
use Rattle.board.specs.Ends.{end_of}
use Rattle.wire.specs.Among.{Among}
use Rattle.wire.specs.Words.{word}
use Rattle.answers.specs.declared.Refusal.{Refusal}
use Rattle.answers.specs.declared.RunAnswer.{RunAnswer}
use Rattle.iopb.specs.Ask.{task_of}
use Rattle.iopb.specs.Layout.{block_at, uib_at}
use Rattle.iopb.proofs.Answers.{shape_at_inside}
use Rattle.geometry.specs.Limits.{Present, Within}
use Rattle.judge.specs.declared.Leaving.{Leaving}
use Rattle.judge.specs.declared.Moving.{Moving}
use Rattle.judge.specs.declared.Plan.{Plan}
use Rattle.judge.specs.declared.Report.{Report}
use Rattle.judge.specs.Plans.{only, plan, plan_of}
use Rattle.judge.proofs.First.{no_more}
use Rattle.judge.proofs.Locality.{placed_uib_read}
use Rattle.wire.proofs.Promises.{never as impossible}
use Rattle.judge.proofs.Tasks.{format_11, handshake, own, restore_done, restore_refused, shape_given, shape_outside}
use Rattle.unit.specs.declared.Controller.TheVariants.{First as FirstController}
use Rattle.unit.specs.Standing.{CountsAsInitialized, fresh}
use Rattle.transfer.specs.Data.{data_on}
use Rattle.transfer.specs.Progress.{progress, stops_at}
use Rattle.transfer.specs.Stores.{after, bytes_from, up_to}
use Rattle.transfer.specs.Stores as Stores
use Rattle.block.specs.Block.{begun, finish, transfer_of}
use Rattle.iopb.specs.Identity.{identity_bytes}
use lib.IntN.{pos}
use Rattle.demands.specs.Footprint.{InReport, ReadsHost, RunWrites, WritesHost, asked_of, named_drive, names, report_of, transfer_by, verdict_of}
use Rattle.demands.specs.Footprint.HostRead.{moved as taken}
use Rattle.demands.specs.Footprint.HostWritten.{moved as given, report, status_word}
use Rattle.demands.specs.Visits.{Passes, Visit, world_left}
use Rattle.demands.proofs.Read.{read_uib}
use Rattle.demands.proofs.Reports.{FormatTold}
use Rattle.demands.proofs.VersionTwo.{disk_byte_is_there}
use Rattle.demands.proofs.Written.{effect_is}
use Rattle.independence.specs.Chains.{Both, BothCell, First, HostReads, HostWrites, Second, both, drive, event_buffer, memory_byte, leaving, run_of}
use Rattle.independence.specs.Demand3.{EitherWay, Independent, NoUnitInCommon, NoByteReadByOther, NoByteWrittenByBoth}
use Rattle.independence.specs.Local.{LeadsAlike}
use Rattle.independence.proofs.Both.{no_chain_is_both}
use Rattle.independence.proofs.Demand3.{run_local}
use Rattle.independence.proofs.Steps.{unnoticed}
use Rattle.request.specs.declared.Task.{Task}
use Rattle.unit.specs.declared.UnitNumber.TheVariants.{Zero, One}
use Rattle.independence.specs.TwoChains.{adjacent, beside_format, come, drive_with, first_in, format_read, new_drive, of_first, of_second, one, read_by_other, refused_data, refused_format, second_in, shared_unit, stopped_read, tiny, two, written_twice, Met, Fails}
use Rattle.independence.proofs.Carried.{Alone, Carried, alone, came, comes_done, comes_refused, data_at, differ, fails_otherwise, host_byte_is, idle, initialized, met, no_list, no_uib, no_unit, no_way, none_read, none_twice, passes_at, read_carried, read_stopped_carried, still, v, write_carried, writing}
use Rattle.independence.proofs.Formats.{format_alone, format_comes, format_wrote}
use Rattle.independence.proofs.OneBlock.{In, by_block, done, failed, leaves}
use Rattle.independence.proofs.Refused.{Bare, unready_unread}
use Rattle.independence.proofs.Tiny.{counts, format_passes, heads_there, move_of, place_is, starts_at, track, unit}
use Rattle.board.specs.World.{World, buffers_of, changed, world_after}
use Rattle.judge.specs.Passed.{NoneGiven}

abbrev first_of : Both → Visit
first_of s = record { at = 0; index = 0; world = first_in s }

abbrev second_of : Both → Visit
second_of s = record { at = 28; index = 0; world = second_in s }

-- Both chains of a pair pass checks 1, 2 and 3.
pub both_pass :
    (s : Both) → length s.events1 ≡ 512 → length s.events2 ≡ 512 → 56 ≤ length s.host1 →
    Passes 0 1 (first_in s) × Passes 28 1 (second_in s)
both_pass s events1 events2 long =
    (passes_at (first_in s) 0 events1 refl (omega arith), passes_at (second_in s) 28 events2 refl long)

-- ---- adjacent buffers

adjacent_pass : Passes 0 1 (first_in adjacent) × Passes 28 1 (second_in adjacent)
adjacent_pass = both_pass adjacent refl refl (omega arith)

adjacent_read : Carried (first_in adjacent) 0 true 56 1 1 (Ok tt)
unfolding word task_of
adjacent_read = read_carried (first_in adjacent) 0 adjacent_pass.0 7 0 refl 56 refl (omega arith)

adjacent_write : Carried (second_in adjacent) 28 false 120 1 1 (Ok tt)
unfolding word task_of
adjacent_write = write_carried (second_in adjacent) 28 adjacent_pass.1 9 0 refl 120 refl (omega arith)

adjacent_met : Independent one two adjacent
adjacent_met = met one two adjacent adjacent_read.footprint adjacent_write.footprint differ (omega arith) (omega arith) (omega arith)

both_move : (of_first adjacent ≡ come RunAnswer.Done 0 1) × (of_second adjacent ≡ come RunAnswer.Done 0 1)
both_move = (
  ap end_of (done 0 _ adjacent_pass.0 refl 1 adjacent_read.answer adjacent_read.sectors),
  ap end_of (done 28 _ adjacent_pass.1 refl 1 adjacent_write.answer adjacent_write.sectors),
)

-- ---- a refused block's data

not_ready : CountsAsInitialized new_drive.unit → ⊥
not_ready counts = no_way (sym counts.said)

refused_pass : Passes 0 1 (first_in refused_data) × Passes 28 1 (second_in refused_data)
refused_pass = both_pass refused_data refl refl (omega arith)

refused_first : Bare (first_in refused_data) 0 (come RunAnswer.BlockFailed 11 0)
unfolding word task_of
refused_first = unready_unread (first_in refused_data) 0 refused_pass.0 refl (move_of false 0 1 28) refl not_ready

refused_read : Carried (second_in refused_data) 28 true 56 1 1 (Ok tt)
unfolding word task_of
refused_read = read_carried (second_in refused_data) 28 refused_pass.1 9 0 refl 56 refl (omega arith)

refused_met : Independent one two refused_data
refused_met = met one two refused_data refused_first.footprint refused_read.footprint differ (omega arith) (omega arith) (omega arith)

data_not_read :
    (of_first refused_data ≡ come RunAnswer.BlockFailed 11 0) × (Among 28 64 30 × HostWrites two (second_in refused_data) 30)
data_not_read = (
  refused_first.comes,
  (omega arith, by_block 28 _ refused_pass.1 (λ v. WritesHost v 30) (status_word (omega arith))),
)

-- ---- the rest of a stopped read

one_of_two : (p q : ℕ × ℕ) (x : ℕ) → In (p ∷ q ∷ []) x → Among p.0 p.1 x ⊎ Among q.0 q.1 x
one_of_two p q x (inl here) = inl here
one_of_two p q x (inr (inl here)) = inr here
one_of_two p q x (inr (inr none)) = absurd none

stopped_pass : Passes 0 1 (first_in stopped_read) × Passes 28 1 (second_in stopped_read)
stopped_pass = both_pass stopped_read refl refl (omega arith)

stopped_read_lem : Carried (first_in stopped_read) 0 true 56 2 1 (Err Refusal.Unreadable)
unfolding word task_of
stopped_read_lem = read_stopped_carried (first_in stopped_read) 0 stopped_pass.0 7 1 refl 56 refl refl (omega arith)

stopped_write : Carried (second_in stopped_read) 28 false 120 1 1 (Ok tt)
unfolding word task_of
stopped_write = write_carried (second_in stopped_read) 28 stopped_pass.1 9 0 refl 120 refl (omega arith)

stopped_met : Independent one two stopped_read
stopped_met = met one two stopped_read stopped_read_lem.footprint stopped_write.footprint differ (omega arith) (omega arith) (omega arith)

stopped_writes : (x : ℕ) → HostWrites one (first_in stopped_read) x → In ((2, 2) ∷ (56, 64) ∷ []) x
unfolding word task_of
stopped_writes x w =
    writing 0 x _ w (passes_at _ 0 refl refl (omega arith)) (λ p. (read_stopped_carried _ 0 p 7 1 refl 56 refl refl (omega arith)).footprint)

rest_not_written :
    (of_first stopped_read ≡ come RunAnswer.BlockFailed 20 1) × (Among 56 128 120 × HostReads two (second_in stopped_read) 120)
rest_not_written = (
  ap end_of (failed 0 _ stopped_pass.0 Refusal.Unreadable 1 stopped_read_lem.answer stopped_read_lem.sectors),
  (
    omega arith,
    by_block 28 _ stopped_pass.1 (λ v. ReadsHost v 120)
        (taken (data_at (second_in stopped_read) 28 stopped_pass.1 stopped_write 0 (omega arith))),
  ),
)

-- ---- beside what a format reports

beside_pass : Passes 0 1 (first_in beside_format) × Passes 28 1 (second_in beside_format)
beside_pass = both_pass beside_format refl refl (omega arith)

beside_judged : verdict_of (first_of beside_format) ≡ Ok (plan_of (unit 0) (Task.Format (track 256)))
unfolding word task_of
beside_judged = format_passes FirstController beside_format.host1 2 1 256 (omega arith) refl (omega arith)

beside_first : Alone 0 (first_in beside_format) Zero ((0, 28) ∷ (256, 64) ∷ []) ((2, 2) ∷ (7, 3) ∷ [])
unfolding word task_of
beside_first = format_alone (first_in beside_format) beside_pass.0 256 refl refl beside_judged

beside_told : FormatTold (first_of beside_format)
unfolding word task_of
beside_told = format_comes (first_in beside_format) beside_pass.0 256 refl refl beside_judged

beside_second : Carried (second_in beside_format) 28 false 10 1 1 (Ok tt)
unfolding word task_of
beside_second = write_carried (second_in beside_format) 28 beside_pass.1 9 0 refl 10 refl (omega arith)

beside_met : Independent one two beside_format
beside_met = met one two beside_format beside_first beside_second.footprint differ (omega arith) (omega arith) (omega arith)

three_bytes_written :
    (of_first beside_format ≡ come RunAnswer.Done 0 1) ×
    (((x : ℕ) → HostWrites one (first_in beside_format) x ↔ (Among 2 2 x ⊎ Among 7 3 x)) ×
    HostReads two (second_in beside_format) 10)
unfolding word task_of
three_bytes_written = (
  ap end_of (done 0 _ beside_pass.0 refl 1 beside_told.ended beside_told.counted),
  (
    λ x. (
      λ w. one_of_two (2, 2) (7, 3) x (beside_first.writes_there x w),
      λ lies.
          ⊎_elim (λ word-1. by_block 0 _ beside_pass.0 (λ v. WritesHost v x) (status_word word-1))
          (format_wrote (first_in beside_format) beside_pass.0 256 refl refl beside_judged x) lies,
    ),
    by_block 28 _ beside_pass.1 (λ v. ReadsHost v 10)
        (taken (data_at (second_in beside_format) 28 beside_pass.1 beside_second 0 (omega arith))),
  ),
)

-- ---- what a refused format would have reported

refused_format_pass : Passes 0 1 (first_in refused_format) × Passes 28 1 (second_in refused_format)
refused_format_pass = both_pass refused_format refl refl (omega arith)

refused_format_lem : verdict_of (first_of refused_format) ≡ Err Refusal.NotInitialized
unfolding word task_of
refused_format_lem = own _ _ _ _ _ tt refl ∙ format_11 FirstController new_drive.unit 0 refused_format.host1 (track 256) not_ready

refused_format_first : Alone 0 (first_in refused_format) Zero ((0, 28) ∷ []) ((2, 2) ∷ [])
unfolding word task_of
refused_format_first = idle (first_in refused_format) 0 refused_format_pass.0 _ refused_format_lem refl refl (λ s is. impossible cc) (λ m is. impossible cc)

refused_format_second : Carried (second_in refused_format) 28 false 6 1 1 (Ok tt)
unfolding word task_of
refused_format_second = write_carried (second_in refused_format) 28 refused_format_pass.1 9 0 refl 6 refl (omega arith)

refused_format_met : Independent one two refused_format
refused_format_met = met one two refused_format refused_format_first refused_format_second.footprint differ (omega arith) (omega arith) (omega arith)

words_not_written :
    (of_first refused_format ≡ come RunAnswer.BlockFailed 11 0) × ((x : ℕ) → Among 7 3 x → HostReads two (second_in refused_format) x)
words_not_written = (
  comes_refused (first_in refused_format) 0 refused_format_pass.0 _ refused_format_lem,
  λ x among.
      let here : 6 + (x - 6) ≡ x = omega arith in
      by_block 28 _ refused_format_pass.1 (λ v. ReadsHost v x)
      (taken (rw here at (data_at (second_in refused_format) 28 refused_format_pass.1 refused_format_second (x - 6) (omega arith)))),
)

pub met_pairs : Met
met_pairs =
    record {
      adjacent_buffers = adjacent_met;
      both_move = both_move;
      refused_block = refused_met;
      data_not_read = data_not_read;
      stopped_read_lem = stopped_met;
      sector_written = λ x w. one_of_two (2, 2) (56, 64) x (stopped_writes x w);
      rest_not_written = rest_not_written;
      beside_format_lem = beside_met;
      three_bytes_written = three_bytes_written;
      refused_format_lem = refused_format_met;
      words_not_written = words_not_written;
    }

-- ---- a byte that both write

twice_pass : Passes 0 1 (first_in written_twice) × Passes 28 1 (second_in written_twice)
twice_pass = both_pass written_twice refl refl (omega arith)

twice_first : Carried (first_in written_twice) 0 true 56 1 1 (Ok tt)
unfolding word task_of
twice_first = read_carried (first_in written_twice) 0 twice_pass.0 7 0 refl 56 refl (omega arith)

twice_second : Carried (second_in written_twice) 28 true 56 1 1 (Ok tt)
unfolding word task_of
twice_second = read_carried (second_in written_twice) 28 twice_pass.1 9 0 refl 56 refl (omega arith)

-- Byte 56 gets the byte of the disk that was read.
module _ (w : World) (at : ℕ) (passes : Passes at 1 w) (c : Carried w at true 56 1 1 (Ok tt)) where
  abbrev u : Visit
  u = v w at passes

  pub wrote_56 : RunWrites at 1 w 56
  wrote_56 = by_block at _ passes (λ v. WritesHost v 56) (given (data_at w at passes c 0 (omega arith)))

  left_56 :
      (byte mark : ℕ) → named_drive u ≡ drive_with byte mark → (Among (at + 2) 2 56 → ⊥) → 56 < length w.host →
      get_or (world_left u).host 56 0 ≡ byte
  left_56 byte mark same clear room =
      let lies = host_byte_is w at passes c in
      let reads : (transfer_by (asked_of u)).to_host ≡ true = rw c.verdict in
      ap (λ (n : ℕ). get_or (world_left u).host n 0) (sym (lies 0)) ∙
      disk_byte_is_there u reads 0 (came w at passes c 0 (omega arith)) (omega (arith, lies 0))
      (λ i later less again. omega (arith, lies i, lies 0, again)) (λ among. clear (omega (arith, lies 0, among))) ∙
      rw (c.verdict, same, place_is 0 0, starts_at 0)

-- Chains that name different units, of which neither reads a byte that the other writes, go each after the other as they go alone.
module _ (s : Both) (units : NoUnitInCommon one two s) (read : NoByteReadByOther one two s) where
  unread : (c : BothCell) → (run_of First one).Writes s c → (run_of Second two).Reads s c → ⊥
  unread (memory_byte c x) w r = (read refl x).0 w.1 r.1
  unread (drive n) w r = units n w r
  unread (event_buffer k) w r = no_chain_is_both (w.0 ∙ sym r.0)

  unread_too : (c : BothCell) → (run_of Second two).Writes s c → (run_of First one).Reads s c → ⊥
  unread_too (memory_byte c x) w r = (read refl x).1 w.1 r.1
  unread_too (drive n) w r = units n r w
  unread_too (event_buffer k) w r = no_chain_is_both (r.0 ∙ sym w.0)

  as_alone : LeadsAlike both (run_of Second two) s ((run_of First one).left s)
  as_alone = unnoticed both (run_of Second two) (run_of First one) (run_local Second two) (run_local First one) s unread

  first_as_alone : LeadsAlike both (run_of First one) s ((run_of Second two).left s)
  first_as_alone = unnoticed both (run_of First one) (run_of Second two) (run_local First one) (run_local Second two) s unread_too

wrote_first : HostWrites one (first_in written_twice) 56
wrote_first = wrote_56 (first_in written_twice) 0 twice_pass.0 twice_first

wrote_second : HostWrites two (second_in written_twice) 56
wrote_second = wrote_56 (second_in written_twice) 28 twice_pass.1 twice_second

units_apart : NoUnitInCommon one two written_twice
units_apart = no_unit one two written_twice twice_first.footprint twice_second.footprint differ

reads_apart : NoByteReadByOther one two written_twice
reads_apart = none_read one two written_twice twice_first.footprint twice_second.footprint (omega arith) (omega arith)

twice_differs : EitherWay one two written_twice → ⊥
twice_differs e =
    let s = written_twice in
    let by_one : get_or ((run_of First one).left s).host1 56 0 ≡ 7 =
    ap (λ w. get_or w.host 56 0) (leaves 0 (first_in s) twice_pass.0 refl) ∙
    left_56 (first_in s) 0 twice_pass.0 twice_first 7 0 refl (λ among. omega arith) (omega arith) in
    let by_two : get_or ((run_of Second two).left s).host1 56 0 ≡ 9 =
    ap (λ w. get_or w.host 56 0) (leaves 28 (second_in s) twice_pass.1 refl) ∙
    left_56 (second_in s) 28 twice_pass.1 twice_second 9 0 refl (λ among. omega arith) (omega arith) in
    omega (
      arith,
      by_one,
      by_two,
      (as_alone s units_apart reads_apart).stored (memory_byte FirstController 56) (refl, wrote_second),
      (first_as_alone s units_apart reads_apart).stored (memory_byte FirstController 56) (refl, wrote_first),
      ap (λ h. get_or h 56 0) (e.memory FirstController),
    )

-- ---- a unit in common

within_tiny : Within tiny
within_tiny = (counts 0 (omega arith)).within

shared_pass : Passes 0 1 (first_in shared_unit) × Passes 28 1 (second_in shared_unit)
shared_pass = both_pass shared_unit refl refl (omega arith)

shared_initialize : verdict_of (first_of shared_unit) ≡ Ok (only (Leaving.Fresh tiny))
unfolding word task_of
shared_initialize =
    rw (shape_at_inside shared_unit.host1 32 (omega arith))
    (own _ _ _ _ _ tt refl ∙ shape_given FirstController new_drive.unit 0 shared_unit.host1 tiny within_tiny)

shared_restore : verdict_of (second_of shared_unit) ≡ Err Refusal.NotInitialized
unfolding word task_of
shared_restore = own _ _ _ _ _ tt refl ∙ restore_refused FirstController new_drive.unit 0 shared_unit.host1 not_ready

shared_first : Alone 0 (first_in shared_unit) Zero ((0, 28) ∷ (32, 18) ∷ []) ((2, 2) ∷ [])
unfolding word task_of
shared_first = initialized (first_in shared_unit) 0 shared_pass.0 _ shared_initialize refl refl 32 refl (λ m is. impossible cc)

shared_second : Alone 28 (second_in shared_unit) Zero ((28, 28) ∷ []) ((30, 2) ∷ [])
unfolding word task_of
shared_second = idle (second_in shared_unit) 28 shared_pass.1 _ shared_restore refl refl (λ s is. impossible cc) (λ m is. impossible cc)

-- What the initialize leaves, and the restore after it.
abbrev initialized_world : World
initialized_world =
    let w = first_in shared_unit in
    changed w Zero (after (begun 0 ++ finish (block_at w.host 0) 0 0 (Ok tt) (pos 0)) (buffers_of w Zero)) (fresh tiny)

initialize_leaves : (run_of First one).left shared_unit ≡ leaving First FirstController shared_unit initialized_world
unfolding world_after bytes_from data_on progress up_to
initialize_leaves =
    ap (leaving First FirstController shared_unit) {y = initialized_world}
    (leaves 0 (first_in shared_unit) shared_pass.0 refl ∙ rw (effect_is (first_of shared_unit), shared_initialize))

abbrev then_shared : Both
then_shared = leaving First FirstController shared_unit initialized_world

then_passes : Passes 28 1 (second_in then_shared)
unfolding after bytes_from
then_passes = passes_at (second_in then_shared) 28 refl refl (omega arith)

then_restore : verdict_of (second_of then_shared) ≡ Ok (only (Leaving.HeadsAt 0))
unfolding word task_of after bytes_from
then_restore = own _ _ _ _ _ tt refl ∙ restore_done FirstController (unit 0) 0 then_shared.host1 (counts 0 (omega arith))

then_comes : of_second then_shared ≡ come RunAnswer.Done 0 0
unfolding after bytes_from
then_comes = comes_done (second_in then_shared) 28 then_passes refl _ then_restore refl

shared_differs : EitherWay one two shared_unit → ⊥
shared_differs =
    fails_otherwise one two shared_unit then_shared _ _ initialize_leaves then_comes (comes_refused (second_in shared_unit) 28 shared_pass.1 _ shared_restore)
    (λ same. omega arith)

shared_unit_lem :
    (NoUnitInCommon one two shared_unit → ⊥) ×
    (NoByteWrittenByBoth one two shared_unit × (NoByteReadByOther one two shared_unit × (EitherWay one two shared_unit → ⊥)))
shared_unit_lem = (
  λ none. none Zero (by_block 0 _ shared_pass.0 (λ v. names v ≡ Zero) refl) (by_block 28 _ shared_pass.1 (λ v. names v ≡ Zero) refl),
  (
    none_twice one two shared_unit shared_first shared_second (omega arith),
    (none_read one two shared_unit shared_first shared_second (omega arith) (omega arith), shared_differs),
  ),
)

-- ---- a written byte that the other reads

read_pass : Passes 0 1 (first_in read_by_other) × Passes 28 1 (second_in read_by_other)
read_pass = both_pass read_by_other refl refl (omega arith)

read_report : verdict_of (first_of read_by_other) ≡ Ok (plan Moving.Nothing Report.Identity Leaving.AsItWas)
unfolding word task_of
read_report = handshake FirstController (unit 0) 130 read_by_other.host1

read_initialize : verdict_of (second_of read_by_other) ≡ Ok (only (Leaving.Fresh tiny))
unfolding word task_of
read_initialize =
    rw (shape_at_inside read_by_other.host1 4 (omega arith))
    (own _ _ _ _ _ tt refl ∙ shape_given FirstController new_drive.unit 0 read_by_other.host1 tiny within_tiny)

read_first : Alone 0 (first_in read_by_other) Zero ((0, 28) ∷ []) ((2, 2) ∷ (4, 12) ∷ [])
unfolding word task_of
read_first =
    alone (first_in read_by_other) 0 read_pass.0 [] ((4, 12) ∷ [])
    (λ x j. ⊎_elim (λ uib. absurd (no_uib _ _ _ x (λ s is. impossible cc) uib)) (λ list. absurd (no_list _ x (λ m is. impossible cc) list)) j)
    (still (first_in read_by_other) 0 read_pass.0 _ read_report refl false)
    (λ x among. inl (subst (λ (verd : Result Plan Refusal). InReport 0 (report_of verd) x) read_report among))
    (λ x d. absurd (still (first_in read_by_other) 0 read_pass.0 _ read_report refl true x d))

read_second : Alone 28 (second_in read_by_other) One ((28, 28) ∷ (4, 18) ∷ []) ((30, 2) ∷ [])
unfolding word task_of
read_second = initialized (second_in read_by_other) 28 read_pass.1 _ read_initialize refl refl 4 refl (λ m is. impossible cc)

abbrev reported_world : World
reported_world =
    let w = first_in read_by_other in
    changed w Zero (after (begun 0 ++ bytes_from Stores.host_byte 4 identity_bytes ++ finish (block_at w.host 0) 0 0 (Ok tt) (pos 0)) (buffers_of w Zero)) (unit 0)

report_leaves : (run_of First one).left read_by_other ≡ leaving First FirstController read_by_other reported_world
unfolding world_after bytes_from data_on progress up_to
report_leaves =
    ap (leaving First FirstController read_by_other) {y = reported_world}
    (leaves 0 (first_in read_by_other) read_pass.0 refl ∙ rw (effect_is (first_of read_by_other), read_report))

abbrev then_read : Both
then_read = leaving First FirstController read_by_other reported_world

then_read_passes : Passes 28 1 (second_in then_read)
unfolding after bytes_from
then_read_passes = passes_at (second_in then_read) 28 refl refl (omega arith)

-- The UIB now says that volume 0 has no heads.
then_outside : verdict_of (second_of then_read) ≡ Err Refusal.UibOutsideLimits
unfolding word task_of after bytes_from Present
then_outside =
    rw (shape_at_inside then_read.host1 4 (omega arith))
    (own _ _ _ _ _ tt refl ∙ shape_outside FirstController new_drive.unit 0 then_read.host1 (uib_at then_read.host1 4)
    (λ within. let one_head : 0 < 0 = within.volumes.one_head in omega arith))

read_differs : EitherWay one two read_by_other → ⊥
read_differs =
    fails_otherwise one two read_by_other then_read _ _ report_leaves (comes_refused (second_in then_read) 28 then_read_passes _ then_outside)
    (comes_done (second_in read_by_other) 28 read_pass.1 refl _ read_initialize refl) (λ same. omega arith)

read_by_other_lem :
    (NoByteReadByOther one two read_by_other → ⊥) ×
    (NoUnitInCommon one two read_by_other × (NoByteWrittenByBoth one two read_by_other × (EitherWay one two read_by_other → ⊥)))
unfolding word task_of NoneGiven
read_by_other_lem = (
  λ none.
      (none refl 4).0 (by_block 0 _ read_pass.0 (λ v. WritesHost v 4) (report (rw read_report (omega arith, omega arith))))
      (by_block 28 _ read_pass.1 (λ v. ReadsHost v 4)
      (read_uib (second_of read_by_other) 4
      (placed_uib_read _ _ _ _ _ _ refl (shape_at_inside read_by_other.host1 4 (omega arith)) no_more (omega arith)))),
  (no_unit one two read_by_other read_first read_second differ, (none_twice one two read_by_other read_first read_second (omega arith), read_differs)),
)

-- ---- what a format reports, read by the other

format_pass : Passes 0 1 (first_in format_read) × Passes 28 1 (second_in format_read)
format_pass = both_pass format_read refl refl (omega arith)

format_accepted : verdict_of (first_of format_read) ≡ Ok (plan_of (unit 0) (Task.Format (track 256)))
unfolding word task_of
format_accepted = format_passes FirstController format_read.host1 2 1 256 (omega arith) refl (omega arith)

format_first : Alone 0 (first_in format_read) Zero ((0, 28) ∷ (256, 64) ∷ []) ((2, 2) ∷ (7, 3) ∷ [])
unfolding word task_of
format_first = format_alone (first_in format_read) format_pass.0 256 refl refl format_accepted

abbrev format_plan : ℕ → Plan
format_plan c = let p = plan_of (unit 0) (Task.Format (track 256)) in plan p.moving p.report (Leaving.HeadsAt c)

format_judged : verdict_of (first_of format_read) ≡ Ok (format_plan 0)
format_judged = format_accepted ∙ ap (λ c. Ok (format_plan c)) heads_there

-- Alone the UIB says that volume 0 has no heads.
format_outside : verdict_of (second_of format_read) ≡ Err Refusal.UibOutsideLimits
unfolding word task_of Present
format_outside =
    rw (shape_at_inside format_read.host1 8 (omega arith))
    (own _ _ _ _ _ tt refl ∙ shape_outside FirstController new_drive.unit 0 format_read.host1 (uib_at format_read.host1 8)
    (λ within. let one_head : 0 < 0 = within.volumes.one_head in omega arith))

format_second : Alone 28 (second_in format_read) One ((28, 28) ∷ (8, 18) ∷ []) ((30, 2) ∷ [])
unfolding word task_of
format_second = initialized (second_in format_read) 28 format_pass.1 _ format_outside refl refl 8 refl (λ m is. impossible cc)

-- What the format leaves, and the initialize after it: the volume has as many heads as sectors were formatted, which is 1.
abbrev formatted_world : World
formatted_world =
    let w = first_in format_read in
    let data-stores = data_on (drive_with 7 0).image (transfer_of w.host (unit 0) (plan_of (unit 0) (Task.Format (track 256))).moving) in
    changed w Zero (after (begun 0 ++ data-stores ++ bytes_from Stores.host_byte 7 (0 ∷ 0 ∷ 1 ∷ []) ++ finish (block_at w.host 0) 0 0 (Ok tt) (pos 0)) (buffers_of w Zero)) (unit 0)

format_leaves : (run_of First one).left format_read ≡ leaving First FirstController format_read formatted_world
unfolding world_after bytes_from data_on progress up_to stops_at
format_leaves =
    ap (leaving First FirstController format_read) {y = formatted_world}
    (leaves 0 (first_in format_read) format_pass.0 refl ∙ rw (effect_is (first_of format_read), format_judged))

abbrev then_format : Both
then_format = leaving First FirstController format_read formatted_world

then_format_passes : Passes 28 1 (second_in then_format)
unfolding after bytes_from data_on progress up_to stops_at
then_format_passes = passes_at (second_in then_format) 28 refl refl (omega arith)

then_within : verdict_of (second_of then_format) ≡ Ok (only (Leaving.Fresh tiny))
unfolding word task_of after bytes_from data_on progress up_to stops_at
then_within =
    rw (shape_at_inside then_format.host1 8 (omega arith))
    (own _ _ _ _ _ tt refl ∙ shape_given FirstController new_drive.unit 0 then_format.host1 tiny within_tiny)

then_format_comes : of_second then_format ≡ come RunAnswer.Done 0 0
unfolding after bytes_from data_on progress up_to stops_at
then_format_comes = comes_done (second_in then_format) 28 then_format_passes refl _ then_within refl

format_differs : EitherWay one two format_read → ⊥
format_differs =
    fails_otherwise one two format_read then_format _ _ format_leaves then_format_comes (comes_refused (second_in format_read) 28 format_pass.1 _ format_outside)
    (λ same. omega arith)

format_read_lem :
    (NoByteReadByOther one two format_read → ⊥) ×
    (NoUnitInCommon one two format_read × (NoByteWrittenByBoth one two format_read × (EitherWay one two format_read → ⊥)))
unfolding word task_of NoneGiven
format_read_lem = (
  λ none.
      (none refl 9).0 (format_wrote (first_in format_read) format_pass.0 256 refl refl format_accepted 9 (omega arith))
      (by_block 28 _ format_pass.1 (λ v. ReadsHost v 9)
      (read_uib (second_of format_read) 9
      (placed_uib_read _ _ _ _ _ _ refl (shape_at_inside format_read.host1 8 (omega arith)) no_more (omega arith)))),
  (no_unit one two format_read format_first format_second differ, (none_twice one two format_read format_first format_second (omega arith), format_differs)),
)

pub failing_pairs : Fails
failing_pairs =
    record {
      shared_unit_lem = shared_unit_lem;
      read_by_other_lem = read_by_other_lem;
      format_read_lem = format_read_lem;
      written_twice_lem =
          (λ none. none refl 56 wrote_first wrote_second, (units_apart, (reads_apart, twice_differs)));
    }
