-- The chain whose second block comes from the disk: what the read leaves in host memory is computed, and the block that stands there then is
-- judged as the blocks of the other pairs are. Which bytes are shared is arithmetic on the ranges of both blocks.
use Rattle.std.proofs.Common.{Err, Ok}
use Prim.Native.Nat.{ℕ, ◌+◌, ◌<◌}
use mathlib.Core.Bool.{true, false}
use mathlib.Core.List.{List, [], ◌∷◌, ◌++◌, append-nil}
use mathlib.Core.Logic.{inl, inr}
use mathlib.Core.Path.{◌≡◌, refl, ap, ◌∙◌}
use native.Mathlib.Omega.{arith}
use lib.IntN.{pos}
use lib.ListN.{get_or, length}
use Rattle.wire.specs.Words.{word}
use Rattle.wire.proofs.Promises.{never as impossible}
use Rattle.answers.specs.declared.Refusal.{Refusal}
use Rattle.answers.specs.declared.RunAnswer.{RunAnswer}
use Rattle.geometry.specs.Limits.{Present}
use Rattle.iopb.specs.Ask.{task_of}
use Rattle.iopb.specs.Layout.{block_at, uib_at}
use Rattle.iopb.proofs.Answers.{shape_at_inside}
use Rattle.judge.specs.declared.Leaving.{Leaving}
use Rattle.judge.specs.Plans.{only}
use Rattle.judge.proofs.First.{no_more}
use Rattle.judge.proofs.Locality.{placed_uib_read}
use Rattle.judge.proofs.Tasks.{own, shape_given, shape_outside}
use Rattle.unit.specs.declared.UnitNumber.TheVariants.{Zero, One}
use Rattle.transfer.specs.Stores.{after, bytes_from, up_to}
use Rattle.unit.specs.declared.Controller.TheVariants.{First as FirstController}
use Rattle.block.specs.Block.{begun, finish}
use Rattle.board.specs.Ends.{end_of}
use Rattle.board.specs.Chain.{ends, ran}
use Rattle.demands.specs.Footprint.{ReadsHost, WritesHost, named_drive, verdict_of}
use Rattle.demands.specs.Footprint.HostRead.{moved as taken}
use Rattle.demands.specs.Footprint.HostWritten.{moved as given}
use Rattle.demands.specs.Visits.{Passes, world_left}
use Rattle.demands.proofs.Read.{read_uib}
use Rattle.demands.proofs.Written.{effect_is}
use Rattle.independence.specs.Chains.{Both, First, HostReads, HostWrites, Second, leaving, run_of}
use Rattle.independence.specs.Demand3.{EitherWay, Independent}
use Rattle.independence.specs.FromDisk.{FromDisk, disk, from_disk, initialize, linked}
use Rattle.independence.specs.TwoChains.{come, drive_on, first_in, one, second_in, tiny, two}
use Rattle.independence.proofs.Carried.{Alone, Carried, LiesOf, comes_done, comes_refused, data_at, differ, fails_otherwise, initialized, met, no_unit, none_twice, passes_at, read_carried_from, write_carried}
use Rattle.independence.proofs.Linked.{Leads, by_second, done_both, lies_in_both, visit}
use Rattle.independence.proofs.OneBlock.{In, by_block, done}
use Rattle.independence.proofs.Tiny.{copies, counts, cylinder_0, read_of_one, read_stores, unit}
use Rattle.board.specs.World.{World, buffers_of, changed, unit_at, world_after}
use Rattle.judge.specs.Passed.{NoneGiven}

-- What a read of the first sector leaves, as the block after i others.
abbrev read_world : World → (at i buffer : ℕ) → World
read_world w at i buffer =
    changed w (unit_at w at)
    (after (begun at ++ copies buffer ++ finish (block_at w.host at) at i (Ok tt) (pos 0)) (buffers_of w (unit_at w at))) (unit 0)

read_leaves :
    (w : World) (at i buffer : ℕ) (image : List ℕ) → length image ≡ 130 → get_or image 128 0 ≡ 0 →
    named_drive (visit w at i) ≡ drive_on image → (block_at w.host at).options.reserve ≡ false →
    Carried w at true buffer 1 1 (Ok tt) → world_left (visit w at i) ≡ read_world w at i buffer
unfolding world_after bytes_from
read_leaves w at i buffer image long good same free c =
    rw (
      effect_is (visit w at i),
      c.verdict,
      same,
      read_stores image long buffer good,
      read_of_one image long buffer good,
      cylinder_0,
      free,
      append-nil (copies buffer),
    )

-- ---- the two blocks

abbrev start : World
start = first_in from_disk

first_pass : Passes 0 1 start
first_pass = passes_at start 0 refl refl (omega arith)

first_read : Carried start 0 true 56 1 1 (Ok tt)
unfolding word task_of
first_read = read_carried_from start 0 first_pass 56 disk.image refl refl refl refl (omega arith)

abbrev brought : World
brought = read_world start 0 0 56

first_leaves : world_left (visit start 0 0) ≡ brought
first_leaves = read_leaves start 0 0 56 disk.image refl refl refl refl first_read

second_pass : Passes 56 1 brought
unfolding after bytes_from up_to
second_pass = passes_at brought 56 refl refl (omega arith)

second_read : Carried brought 56 true 120 1 1 (Ok tt)
unfolding word task_of after bytes_from up_to
second_read = read_carried_from brought 56 second_pass 120 disk.image refl refl refl refl (omega arith)

leads : Leads 0 start 56 brought
unfolding word after bytes_from up_to
leads = record { first = first_pass; second = second_pass; ended = first_read.answer; linked = refl; goes = refl; left = first_leaves }

abbrev left : World
left = read_world brought 56 1 120

linked_runs : ran 0 2 start ≡ ends RunAnswer.Done 0 (record { blocks = 2; sectors = 2 }) left
unfolding word after bytes_from up_to
linked_runs =
    done_both leads 1 1 first_read.sectors second_read.sectors second_read.answer refl ∙
    ap (ends RunAnswer.Done 0 (record { blocks = 2; sectors = 2 })) (read_leaves brought 56 1 120 disk.image refl refl refl refl second_read)

linked_lies : LiesOf linked start Zero ((0, 28) ∷ (56, 28) ∷ []) ((2, 2) ∷ (56, 64) ∷ (58, 2) ∷ (120, 64) ∷ [])
unfolding word after bytes_from up_to
linked_lies = lies_in_both leads first_read.footprint second_read.footprint

linked_wrote : (k : ℕ) → k < 64 → HostWrites linked start (120 + k)
linked_wrote k less = by_second leads (λ v. WritesHost v (120 + k)) (given (data_at brought 56 second_pass second_read k less))

-- ---- beside the write

write_pass : Passes 28 1 (second_in from_disk)
write_pass = passes_at (second_in from_disk) 28 refl refl (omega arith)

write : Carried (second_in from_disk) 28 false 184 1 1 (Ok tt)
unfolding word task_of
write = write_carried (second_in from_disk) 28 write_pass 9 0 refl 184 refl (omega arith)

write_reads_184 : HostReads two (second_in from_disk) 184
unfolding word
write_reads_184 = by_block 28 _ write_pass (λ v. ReadsHost v 184) (taken (data_at (second_in from_disk) 28 write_pass write 0 (omega arith)))

from_disk_met : Independent linked two from_disk
from_disk_met = met linked two from_disk linked_lies write.footprint differ (omega arith) (omega arith) (omega arith)

-- What stood at 56 before.
earlier_pass : Passes 56 1 start
earlier_pass = passes_at start 56 refl refl (omega arith)

earlier_read : Carried start 56 true 184 1 1 (Ok tt)
unfolding word task_of
earlier_read = read_carried_from start 56 earlier_pass 184 disk.image refl refl refl refl (omega arith)

-- ---- beside the initialize

initialize_pass : Passes 248 1 (second_in from_disk)
initialize_pass = passes_at (second_in from_disk) 248 refl refl (omega arith)

-- Alone its UIB says that volume 0 has no heads.
uib_outside : verdict_of (visit (second_in from_disk) 248 0) ≡ Err Refusal.UibOutsideLimits
unfolding word task_of Present
uib_outside =
    rw (shape_at_inside from_disk.host1 148 (omega arith))
    (own _ _ _ _ _ tt refl ∙ shape_outside FirstController (unit 0) 130 from_disk.host1 (uib_at from_disk.host1 148)
    (λ within. let one_head : 0 < 0 = within.volumes.one_head in omega arith))

initialize_lies : Alone 248 (second_in from_disk) One ((248, 28) ∷ (148, 18) ∷ []) ((250, 2) ∷ [])
unfolding word task_of
initialize_lies = initialized (second_in from_disk) 248 initialize_pass _ uib_outside refl refl 148 refl (λ m is. impossible cc)

abbrev then : Both
then = leaving First FirstController from_disk left

then_pass : Passes 248 1 (second_in then)
unfolding after bytes_from up_to
then_pass = passes_at (second_in then) 248 refl refl (omega arith)

then_within : verdict_of (visit (second_in then) 248 0) ≡ Ok (only (Leaving.Fresh tiny))
unfolding word task_of after bytes_from up_to
then_within =
    rw (shape_at_inside then.host1 148 (omega arith))
    (own _ _ _ _ _ tt refl ∙ shape_given FirstController (unit 0) 130 then.host1 tiny (counts 0 (omega arith)).within)

then_done : (run_of Second initialize).out then ≡ come RunAnswer.Done 0 0
unfolding after bytes_from up_to
then_done = comes_done (second_in then) 248 then_pass refl _ then_within refl

uib_differs : EitherWay linked initialize from_disk → ⊥
uib_differs =
    fails_otherwise linked initialize from_disk then _ _ (ap (λ e. leaving First FirstController from_disk e.world) linked_runs) then_done
    (comes_refused (second_in from_disk) 248 initialize_pass _ uib_outside) (λ same. omega arith)

uib_read : HostReads initialize (second_in from_disk) 148
unfolding word task_of NoneGiven
uib_read =
    by_block 248 _ initialize_pass (λ v. ReadsHost v 148)
    (read_uib (visit (second_in from_disk) 248 0) 148
    (placed_uib_read _ _ _ _ _ _ refl (shape_at_inside from_disk.host1 148 (omega arith)) no_more (omega arith)))

outside_120 : In ((2, 2) ∷ (56, 64) ∷ []) 120 → ⊥
outside_120 (inl word-1) = omega arith
outside_120 (inr (inl read)) = omega arith
outside_120 (inr (inr none)) = none

pub from_disk_lem : FromDisk
unfolding word
from_disk_lem =
    record {
      from_disk_lem = from_disk_met;
      both_blocks = (ap end_of linked_runs, ap end_of (done 28 _ write_pass refl 1 write.answer write.sectors));
      written_by_it = (linked_wrote 0 (omega arith), λ w. outside_120 (first_read.footprint.writes_there 120 w));
      not_by_the_earlier = (
        by_block 56 _ earlier_pass (λ v. WritesHost v 184) (given (data_at start 56 earlier_pass earlier_read 0 (omega arith))),
        (
          λ w. (from_disk_met.read refl 184).0 w write_reads_184,
          write_reads_184,
        ),
      );
      uib_from_disk = (
        λ none. (none refl 148).0 (linked_wrote 28 (omega arith)) uib_read,
        (
          no_unit linked initialize from_disk linked_lies initialize_lies differ,
          (none_twice linked initialize from_disk linked_lies initialize_lies (omega arith), uib_differs),
        ),
      );
      not_by_the_read = met one initialize from_disk first_read.footprint initialize_lies differ (omega arith) (omega arith) (omega arith);
    }
