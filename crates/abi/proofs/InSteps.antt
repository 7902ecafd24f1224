-- A loop of steps comes to what a run comes to, in every byte. It goes along the loop: what a step leaves reads as the world that its block leaves, so that the loop
-- goes on as the chain does, and a record that is left at every step is left as at the last.
use Rattle.std.proofs.Common.{Err, Ok}
use Prim.Native.Nat.{ℕ, zero, suc, ◌+◌, ◌*◌, ◌^◌, ◌≤◌, ◌<◌}
use mathlib.Core.Bool.{Bool, true, false, cond}
use mathlib.Core.List.{List, []}
use mathlib.Core.Logic.{◌⊎◌, by_cases, if_neg, if_pos, inl, inr, ite, ⊎_elim}
use mathlib.Core.Path.{◌≡◌, refl, sym, ap, subst, ◌∙◌}
use native.Mathlib.Decide.{dec_le}
use native.Mathlib.Omega.{arith}
use denote.Ref.{MutBor}
use lib.ListN.{get_or, length}
use lib.Seq.{length-sets}
use Rattle.answers.specs.Numbers.{BlockAnswer, refusal_number, run_number}
use Rattle.answers.specs.declared.RunAnswer.{RunAnswer}
use Rattle.answers.specs.RunNumbers.{block_number}
use Rattle.answers.proofs.Laws.{refusals_in_range}
use Rattle.board.specs.declared.chain.Count.{Count}
use Rattle.board.specs.Chain.{Ending, counted, ends, fetched, follows, nothing, ran}
use Rattle.board.specs.World.{World, drive_of, effect_at, world_after}
use Rattle.board.proofs.Chains.{fetched_bad, fetched_spent}
use Rattle.board.proofs.Runs.{ran_chain, ran_first_bad}
use Rattle.demands.specs.Visits.{Visit}
use Rattle.demands.proofs.HeldDrives.{block_keeps_controller}
use Rattle.demands.proofs.Keeps.{block_keeps_lengths}
use Rattle.demands.proofs.Records.{block_keeps_low, block_keeps_or_counts, sectors_few}
use Rattle.demands.proofs.Tables.{block_keeps_long}
use Rattle.block.specs.Block.{Effect}
use Rattle.iopb.specs.declared.Block.{Block}
use Rattle.iopb.specs.Layout.{block_at}
use Rattle.unit.specs.declared.Controller.{Controller}
use Rattle.unit.specs.declared.UnitNumber.{UnitNumber}
use Rattle.unit.specs.declared.UnitNumber.TheVariants.{Zero, One}
use Rattle.unit.specs.Standing.{CountsAsInitialized, UnitRecord, initialized, table}
use Rattle.unit.proofs.Decided.{same_with_table?}
use Rattle.wire.proofs.Decided.{in_memory?}
use Rattle.wire.proofs.Laws.{word_below}
use Rattle.wire.specs.Memory.{InMemory}
use Rattle.wire.specs.Storing.{written}
use Rattle.wire.specs.Words.{be32, word}
use Rattle.abi.specs.Calls.{CallLent, Called, answered, called_as, called_of, controller_of, controller_unknown, lent_in, lent_of, record0_short, record1_short, record_left, world_in}
use Rattle.abi.specs.InSteps.{Bytes, Loop, RunOfSteps, RunsAlike, StepAsking, answer_to_bad, answer_to_last, ended, follow_told, link_told, sectors_told, step_asking, with_outcome}
use Rattle.abi.specs.InSteps.Loop.{bad, last, on, refused, spent}
use Rattle.abi.specs.Layouts.{ending_bytes, outcome_bytes, record_bytes, record_in}
use Rattle.abi.specs.Machines.{Asking, asking}
use Rattle.abi.specs.Stepping.{block_bad, goes_on, stepped_as, stepped_bytes, stepped_once}
use Rattle.abi.proofs.Again.{counts_narrow, left_again, read_narrow}
use Rattle.abi.proofs.Called.{called_is, called_made, refused_0, refused_1, refused_3}
use Rattle.abi.proofs.Laws.{Narrow, left_reads_back}
use Rattle.abi.proofs.Left.{left_anew, left_as_it_came}
use Rattle.abi.proofs.Stepping.{stepped_is, stepped_made}
use Rattle.abi.proofs.Tracks.{at_the_head, length_words}
use Rattle.abi.proofs.vsmd_run_as.Reads as run-as
use Rattle.abi.proofs.vsmd_step_as.Reads as step-as

-- ---- what a step has told

abbrev flag : Bool → ℕ
flag follow = cond follow 0x01 0x00

-- The 16 bytes read back, each part as it was stored.
record Tells (told : List ℕ) (answer : ℕ) (follow : Bool) (sectors link : ℕ) : Type 0 where
  answer_is : get_or told 4 0 ≡ answer
  follow_is : get_or told 5 0 ≡ flag follow
  sectors_is : be32 told 8 ≡ sectors
  link_is : be32 told 12 ≡ link

tells :
    (o : List ℕ) (answer : ℕ) (follow : Bool) (sectors link : ℕ) → 16 ≤ length o → sectors < 65536 → link < 2 ^ 32 →
    Tells (written o 0 (stepped_bytes answer follow sectors link)) answer follow sectors link
unfolding word
tells o answer follow sectors link long few low =
    let stood = at_the_head o (stepped_bytes answer follow sectors link) long in
    record {
      answer_is = ap (λ (l : List ℕ). get_or l 4 0) stood;
      follow_is = ap (λ (l : List ℕ). get_or l 5 0) stood;
      sectors_is = ap (λ (l : List ℕ). be32 l 8) stood ∙ omega arith;
      link_is = ap (λ (l : List ℕ). be32 l 12) stood ∙ omega arith;
    }

-- How the loop ends by what it is told, and the chain by what that stands for.
bad_later : (n : ℕ) → (n ≡ 0 → ⊥) → answer_to_bad n ≡ RunAnswer.LinkBad
bad_later zero some = absurd (some refl)
bad_later (suc n) some = refl

failed_last : (n : ℕ) → 1 ≤ n → answer_to_last n ≡ RunAnswer.BlockFailed
failed_last zero some = absurd (omega arith)
failed_last (suc n) some = refl

ends_there :
    (a : BlockAnswer) (linked : Bool) (t : Count) (w : World) (next : Ending) → flag (goes_on a linked) ≡ 0 →
    follows a linked t w next ≡ ends (answer_to_last (block_number a)) (block_number a) t w
ends_there (Ok _) false t w next stops = refl
ends_there (Ok _) true t w next stops = absurd (omega arith)
ends_there (Err r) linked t w next stops =
    ap (λ (a : RunAnswer). ends a (refusal_number r) t w) (sym (failed_last (refusal_number r) (omega (arith, refusals_in_range r))))

goes_there :
    (a : BlockAnswer) (linked : Bool) (t : Count) (w : World) (next : Ending) → (flag (goes_on a linked) ≡ 0 → ⊥) → follows a linked t w next ≡ next
goes_there (Ok _) false t w next follow = absurd (follow refl)
goes_there (Ok _) true t w next follow = refl
goes_there (Err r) linked t w next follow = absurd (follow refl)

-- ---- what one step leaves

abbrev records_of : CallLent → UnitNumber → List ℕ
records_of l Zero = l.record0
records_of l One = l.record1

low_records : (l : CallLent) → Bytes l → (n : UnitNumber) (i : ℕ) → get_or (records_of l n) i 0 < 256
low_records l low Zero = low.record0
low_records l low One = low.record1

-- The layouts' buffers are long enough.
record Room (l : CallLent) : Type 0 where
  records : (n : UnitNumber) → 276 ≤ length (records_of l n)
  stepped : 16 ≤ length l.outcome

length_left : (bytes : List ℕ) (u : UnitRecord) → length (record_left bytes u) ≡ length bytes
unfolding written
length_left bytes u =
    by_cases (same_with_table? (record_in bytes) u) (λ same. ap length (left_as_it_came bytes u same))
    (λ other. ap length (left_anew bytes u other) ∙ length-sets bytes 0 (record_bytes u))

read_in_lem : (c : Controller) (l : CallLent) (n : UnitNumber) → (drive_of (world_in c l) n).unit ≡ record_in (records_of l n)
read_in_lem c l Zero = refl
read_in_lem c l One = refl

-- A loop came to what a chain comes to, and left what the chain leaves: of each unit the record as it is left in the bytes that came, which is the one that stood
-- there, or an initialized one, and then what came was bytes.
record Leaves (outcome : List ℕ) (l : CallLent) (e : Ending) (r : Called) : Type 0 where
  lent : CallLent
  came : r ≡ ended outcome e.answer e.failed e.tally lent
  host : lent.host ≡ e.world.host
  image0 : lent.image0 ≡ e.world.drive0.image
  image1 : lent.image1 ≡ e.world.drive1.image
  events : lent.events ≡ e.world.events
  records : (n : UnitNumber) → records_of lent n ≡ record_left (records_of l n) (drive_of e.world n).unit
  kept :
      (n : UnitNumber) →
      (record_in (records_of l n) ≡ (drive_of e.world n).unit) ⊎
      ((initialized (drive_of e.world n).unit ≡ true) × ((i : ℕ) → get_or (records_of l n) i 0 < 256))
  long : (n : UnitNumber) → length (table (drive_of e.world n).unit) ≡ 64

-- Nothing is left but what was lent.
leaves_all :
    (outcome : List ℕ) (c : Controller) (l : CallLent) (answer : RunAnswer) (t : Count) →
    Leaves outcome l (ends answer 0 t (world_in c l)) (ended outcome answer 0 t l)
leaves_all outcome c l answer t =
    record {
      lent = l;
      came = refl;
      host = refl;
      image0 = refl;
      image1 = refl;
      events = refl;
      records = λ n. sym (left_as_it_came (records_of l n) (drive_of (world_in c l) n).unit (sym (read_in_lem c l n)));
      kept = λ n. inl (sym (read_in_lem c l n));
      long = λ n. ap (λ (u : UnitRecord). length (table u)) (read_in_lem c l n) ∙ length_words (records_of l n) 20 64;
    }

module _ (c : Controller) (at i : ℕ) (l : CallLent) (room : Room l) (low : Bytes l) where
  abbrev before : World
  before = world_in c l

  abbrev then : World
  then = world_after at i before

  abbrev visit : Visit
  visit = record { at = at; index = i; world = before }

  abbrev left : CallLent
  left = (stepped_once c at i l).lent

  left_is : (n : UnitNumber) → records_of left n ≡ record_left (records_of l n) (drive_of then n).unit
  left_is Zero = refl
  left_is One = refl

  long_then : (n : UnitNumber) → length (table (drive_of then n).unit) ≡ 64
  long_then n = block_keeps_long visit n (ap (λ (u : UnitRecord). length (table u)) (read_in_lem c l n) ∙ length_words (records_of l n) 20 64)

  -- The record of a unit is as it was, or counts as initialized; so it fits its bytes.
  kept_then : (n : UnitNumber) → (record_in (records_of l n) ≡ (drive_of then n).unit) ⊎ CountsAsInitialized (drive_of then n).unit
  kept_then n = ⊎_elim (λ same. inl (sym (same ∙ read_in_lem c l n))) inr (block_keeps_or_counts visit n)

  narrow_then : (n : UnitNumber) → Narrow (drive_of then n).unit
  narrow_then n =
      let narrow = read_narrow (records_of l n) (low_records l low n) in
      ⊎_elim (λ same. subst Narrow same narrow)
      (λ counts. counts_narrow (drive_of then n).unit counts (block_keeps_low visit n (subst (λ (u : UnitRecord). (j : ℕ) → get_or (table u) j 0 < 2 ^ 32) (sym (read_in_lem c l n)) narrow.low_tracks)))
      (kept_then n)

  reads_then : (n : UnitNumber) → record_in (records_of left n) ≡ (drive_of then n).unit
  reads_then n =
      ap (λ (b : List ℕ). record_in b) (left_is n) ∙
      left_reads_back (drive_of then n).unit (narrow_then n) (long_then n) (records_of l n) (room.records n)

  -- What is left reads as the world that the block left,
  world_then : world_in c left ≡ then
  world_then =
      λ j.
      record {
        controller = sym (block_keeps_controller visit) j;
        host = then.host;
        drive0 = record { unit = reads_then Zero j; image = then.drive0.image };
        drive1 = record { unit = reads_then One j; image = then.drive1.image };
        events = then.events;
      }

  -- with as much room as before.
  room_then : (stepped : List ℕ) → 16 ≤ length stepped → Room (with_outcome left stepped)
  room_then stepped long = record { records = each; stepped = long }
    where
      each : (n : UnitNumber) → 276 ≤ length (records_of (with_outcome left stepped) n)
      each Zero = omega (arith, length_left l.record0 then.drive0.unit, room.records Zero)
      each One = omega (arith, length_left l.record1 then.drive1.unit, room.records One)

  -- What it tells is what its block did.
  abbrev done : Effect
  done = effect_at at i before

  abbrev block : Block
  block = block_at l.host at

  told_then : Tells left.outcome (block_number done.answer) (goes_on done.answer block.options.link) done.sectors block.link
  told_then =
      tells l.outcome (block_number done.answer) (goes_on done.answer block.options.link) done.sectors block.link room.stepped
      (sectors_few visit low.host) (word_below 4 l.host (at + 20) low.host)

  -- One step more before it. What the next one tells in is its own.
  module _ (outcome : List ℕ) where
    init_then :
        (n : UnitNumber) →
        (record_in (records_of l n) ≡ (drive_of then n).unit) ⊎
        ((initialized (drive_of then n).unit ≡ true) × ((i : ℕ) → get_or (records_of l n) i 0 < 256))
    init_then n = ⊎_elim inl (λ counts. inr (counts.said, low_records l low n)) (kept_then n)

    leaves_once :
        (answer : RunAnswer) (failed : ℕ) (t : Count) →
        Leaves outcome l (ends answer failed t then) (ended outcome answer failed t left)
    leaves_once answer failed t =
        record {
          lent = left;
          came = refl;
          host = refl;
          image0 = refl;
          image1 = refl;
          events = refl;
          records = left_is;
          kept = init_then;
          long = long_then;
        }

    leaves_on :
        (stepped : List ℕ) (e : Ending) (r : Called) → Leaves outcome (with_outcome left stepped) e r → Leaves outcome l e r
    leaves_on stepped e r after =
        record {
          lent = after.lent;
          came = after.came;
          host = after.host;
          image0 = after.image0;
          image1 = after.image1;
          events = after.events;
          records = λ n.
              after.records n ∙ ap (λ (b : List ℕ). record_left b (drive_of e.world n).unit) (stands n) ∙
              left_again (records_of l n) (drive_of then n).unit (drive_of e.world n).unit (room.records n)
              (long_then n) (after.long n) (narrow_then n) (low_records l low n)
              (⊎_elim (λ same. inl (stays n same))
              (λ init. inr (init.0, subst (λ (b : List ℕ). (j : ℕ) → get_or b j 0 < 256) (stands n) init.1)) (after.kept n));
          kept = λ n.
              ⊎_elim
              (λ same.
              ⊎_elim (λ first. inl (first ∙ stays n same))
              (λ init. inr (ap (λ (u : UnitRecord). initialized u) (sym (stays n same)) ∙ init.0, init.1)) (init_then n))
              (λ init. inr (init.0, low_records l low n)) (after.kept n);
          long = after.long;
        }
      where
        stands : (n : UnitNumber) → records_of (with_outcome left stepped) n ≡ record_left (records_of l n) (drive_of then n).unit
        stands Zero = refl
        stands One = refl

        stays :
            (n : UnitNumber) → record_in (records_of (with_outcome left stepped) n) ≡ (drive_of e.world n).unit →
            (drive_of then n).unit ≡ (drive_of e.world n).unit
        stays n same =
            sym (reads_then n) ∙ ap (λ (b : List ℕ). record_in b) (left_is n ∙ sym (stands n)) ∙ same

-- ---- along the loop

-- A block that is fetched leads where its answer and its link say.
fetched_once :
    (left : ℕ) (t : Count) (at : ℕ) (w : World) → InMemory w.host at 28 →
    fetched (suc left) t at w ≡
    (let e = effect_at at t.blocks w in
    let b = block_at w.host at in
    let t' = counted t e.sectors in
    let w' = world_after at t.blocks w in
    follows e.answer b.options.link t' w' (fetched left t' b.link w'))
unfolding fetched
fetched_once left t at w place = if_pos (in_memory? w.host at 28) place _ _

module _
    {ℓ} (controller : ℕ) (outcome : List ℕ) (Step : (at i : ℕ) → CallLent → Called → Type ℓ)
    (is : (at i : ℕ) (l : CallLent) (s : Called) → Step at i l s → Bytes l × (s ≡ stepped_as controller at i l))
  where
    abbrev c : Controller
    c = controller_of controller

    -- Where every step of what is lent is refused with a code, the loop returns that code.
    loop_refused :
        (code left : ℕ) (t : Count) (at : ℕ) (l : CallLent) (r : Called) → Loop Step outcome left t at l r → 1 ≤ left →
        ((i : ℕ) (j : ℕ) → stepped_as controller i j l ≡ called_of code l) → (code ≡ 3 → ⊥) → (code ≡ 0 → ⊥) → r ≡ called_of code (with_outcome l outcome)
    loop_refused code _ _ _ _ _ (spent t at l) some stops other some-code = absurd (omega arith)
    loop_refused code _ _ _ _ _ (bad n t at l s step none) some stops other some-code =
        absurd (other (sym (ap (λ (x : Called). x.code) ((is at t.blocks l s step).1 ∙ stops at t.blocks)) ∙ none))
    loop_refused code _ _ _ _ _ (refused n t at l s step not-3 not-0) some stops other some-code =
        ap (λ (x : Called). called_of x.code (with_outcome x.lent outcome)) ((is at t.blocks l s step).1 ∙ stops at t.blocks)
    loop_refused code _ _ _ _ _ (last n t at l s step made told) some stops other some-code =
        absurd (some-code (sym (ap (λ (x : Called). x.code) ((is at t.blocks l s step).1 ∙ stops at t.blocks)) ∙ made))
    loop_refused code _ _ _ _ _ (on n t at l s stepped r step made told long rest) some stops other some-code =
        absurd (some-code (sym (ap (λ (x : Called). x.code) ((is at t.blocks l s step).1 ∙ stops at t.blocks)) ∙ made))

    module _ (one_of_two : controller ≤ 1) where
      -- What a step came to, by the code that it returned.
      module _ (at i : ℕ) (l : CallLent) (s : Called) (room : Room l) (entry : 8 * i + 8 ≤ length l.events) (step : Step at i l s) where
        came : s ≡ ite (in_memory? l.host at 28) (stepped_once c at i l) (called_of block_bad l)
        came =
            (is at i l s step).1 ∙ stepped_made controller at i l (room.records Zero) (room.records One) room.stepped one_of_two entry

        not_there : (InMemory l.host at 28 → ⊥) → s ≡ called_of block_bad l
        not_there out = came ∙ if_neg (in_memory? l.host at 28) out _ _

        there : InMemory l.host at 28 → s ≡ stepped_once c at i l
        there inside = came ∙ if_pos (in_memory? l.host at 28) inside _ _

        was_there : s.code ≡ 0 → InMemory l.host at 28
        was_there ran =
            by_cases (in_memory? l.host at 28) (λ inside. inside)
            (λ out. absurd (omega (arith, ap (λ (x : Called). x.code) (not_there out))))

        was_not : s.code ≡ 3 → InMemory l.host at 28 → ⊥
        was_not none inside = omega (arith, ap (λ (x : Called). x.code) (there inside))

        one_or_other : (s.code ≡ 3 → ⊥) → (s.code ≡ 0 → ⊥) → ⊥
        one_or_other not-3 not-0 =
            by_cases (in_memory? l.host at 28) (λ inside. not-0 (ap (λ (x : Called). x.code) (there inside)))
            (λ out. not-3 (ap (λ (x : Called). x.code) (not_there out)))

      -- A step that leads on, before what it leads to.
      on_then :
          (n : ℕ) (t : Count) (at : ℕ) (l : CallLent) (room : Room l) (low : Bytes l) (stepped : List ℕ) (r : Called) → InMemory l.host at 28 →
          let i = t.blocks in
          let x = stepped_once c at i l in
          (flag (goes_on (effect_at at i (world_in c l)).answer (block_at l.host at).options.link) ≡ 0 → ⊥) →
          Leaves outcome (with_outcome x.lent stepped) (fetched n (counted t (sectors_told x)) (link_told x) (world_in c x.lent)) r →
          Leaves outcome l (fetched (suc n) t at (world_in c l)) r
      on_then n t at l room low stepped r place follow after =
          let i = t.blocks in
          let x = stepped_once c at i l in
          let e = effect_at at i (world_in c l) in
          let on-world :
          fetched n (counted t (sectors_told x)) (link_told x) (world_in c x.lent) ≡
          fetched n (counted t e.sectors) (block_at l.host at).link (world_after at i (world_in c l)) =
          λ j. fetched n (counted t ((told_then c at i l room low).sectors_is j)) ((told_then c at i l room low).link_is j) (world_then c at i l room low j) in
          subst (λ (e : Ending). Leaves outcome l e r)
          (sym
          (fetched_once n t at (world_in c l) place ∙
          goes_there (effect_at at i (world_in c l)).answer (block_at l.host at).options.link _ _ _ follow))
          (leaves_on c at i l room low outcome stepped _ r
          (subst (λ (e : Ending). Leaves outcome (with_outcome (left c at i l room low) stepped) e r) on-world after))

      -- From a first block that can be fetched on.
      go :
          (left : ℕ) (t : Count) (at : ℕ) (l : CallLent) (r : Called) → Loop Step outcome left t at l r → Room l →
          8 * (t.blocks + left) ≤ length l.events → (t.blocks ≡ 0 → InMemory l.host at 28) → Leaves outcome l (fetched left t at (world_in c l)) r
      go _ _ _ _ _ (spent t at l) room entries first =
          rw (fetched_spent 0 t at (world_in c l) refl) (leaves_all outcome c l RunAnswer.AllowanceSpent t)
      go _ _ _ _ _ (bad n t at l s step none) room entries first =
          let entry : 8 * t.blocks + 8 ≤ length l.events = omega arith in
          let out = was_not at t.blocks l s room entry step none in
          rw (
            fetched_bad (suc n) t at (world_in c l) (omega arith) out,
            bad_later t.blocks (λ none_yet. out (first none_yet)),
            not_there at t.blocks l s room entry step out,
          ) (leaves_all outcome c l RunAnswer.LinkBad t)
      go _ _ _ _ _ (refused n t at l s step not-3 not-0) room entries first =
          absurd (one_or_other at t.blocks l s room (omega arith) step not-3 not-0)
      go _ _ _ _ _ (last n t at l s step made stops) room entries first =
          let i = t.blocks in
          let entry : 8 * i + 8 ≤ length l.events = omega arith in
          let place = was_there at i l s room entry step made in
          let once = there at i l s room entry step place in
          let low = (is at i l s step).0 in
          rw (
            ap (λ (x : Called). x.lent) once,
            (told_then c at i l room low).answer_is,
            (told_then c at i l room low).sectors_is,
            fetched_once n t at (world_in c l) place,
            ends_there (effect_at at i (world_in c l)).answer (block_at l.host at).options.link _ _ _ (sym (ap follow_told once ∙ (told_then c at i l room low).follow_is) ∙ stops),
          ) (leaves_once c at i l room low outcome _ _ _)
      go _ _ _ _ _ (on n t at l s stepped r step made follow long rest) room entries first =
          let i = t.blocks in
          let entry : 8 * i + 8 ≤ length l.events = omega arith in
          let place = was_there at i l s room entry step made in
          let once = there at i l s room entry step place in
          let low = (is at i l s step).0 in
          let room_next = subst (λ (x : Called). Room (with_outcome x.lent stepped)) (sym once) (room_then c at i l room low stepped long) in
          let as_long : length s.lent.events ≡ length l.events =
          ap (λ (x : Called). length x.lent.events) once ∙ (block_keeps_lengths (visit c at i l room low)).1.0 in
          let after = go n (counted t (sectors_told s)) (link_told s) (with_outcome s.lent stepped) r rest room_next (omega arith) (λ none. absurd (omega arith)) in
          on_then n t at l room low stepped r place (λ stops. follow (ap follow_told once ∙ (told_then c at i l room low).follow_is ∙ stops))
          (subst (λ (x : Called). Leaves outcome (with_outcome x.lent stepped) (fetched n (counted t (sectors_told x)) (link_told x) (world_in c x.lent)) r) once after)

      -- A loop whose first block cannot be fetched ends there.
      first_bad :
          (left : ℕ) (t : Count) (at : ℕ) (l : CallLent) (r : Called) → Loop Step outcome left t at l r → 1 ≤ left → Room l →
          8 * (t.blocks + left) ≤ length l.events → (InMemory l.host at 28 → ⊥) → r ≡ ended outcome (answer_to_bad t.blocks) 0 t l
      first_bad _ _ _ _ _ (spent t at l) some room entries out = absurd (omega arith)
      first_bad _ _ _ _ _ (bad n t at l s step none) some room entries out =
          ap (λ (x : Called). ended outcome (answer_to_bad t.blocks) 0 t x.lent) (not_there at t.blocks l s room (omega arith) step out)
      first_bad _ _ _ _ _ (refused n t at l s step not-3 not-0) some room entries out =
          absurd (one_or_other at t.blocks l s room (omega arith) step not-3 not-0)
      first_bad _ _ _ _ _ (last n t at l s step made stops) some room entries out = absurd (out (was_there at t.blocks l s room (omega arith) step made))
      first_bad _ _ _ _ _ (on n t at l s stepped r step made follow long rest) some room entries out =
          absurd (out (was_there at t.blocks l s room (omega arith) step made))

      -- What a loop from the first entry on comes to is what a run does, with room for both.
      loop_is_run :
          (first allowance : ℕ) (l : CallLent) (r : Called) → RunsAlike allowance l outcome → Room l → Loop Step outcome allowance nothing first l r →
          answered (with_outcome l outcome) (ran first allowance (world_in c l)) ≡ r
      loop_is_run first allowance l r run room loop =
          let limits : (1 ≤ allowance) × (allowance ≤ 64) = (run.least, run.most) in
          by_cases (in_memory? l.host first 28)
          (λ inside.
          let so = go allowance nothing first l r loop room (omega (arith, run.events, run.most)) (λ none. inside) in
          let e = fetched allowance nothing first (world_in c l) in
          ap (answered (with_outcome l outcome)) (ran_chain first allowance (world_in c l) run.events limits inside) ∙
          (λ j.
          called_of (run_number e.answer)
          (lent_of (sym so.host j) (sym so.image0 j) (sym so.image1 j) (sym so.events j) (sym (so.records Zero) j) (sym (so.records One) j)
          (written outcome 0 (ending_bytes e)))) ∙
          sym so.came)
          (λ out.
          ap (answered (with_outcome l outcome)) (ran_first_bad first allowance (world_in c l) run.events limits out) ∙
          (λ j.
          called_of 3
          (lent_of l.host l.image0 l.image1 l.events (left_as_it_came l.record0 (record_in l.record0) refl j)
          (left_as_it_came l.record1 (record_in l.record1) refl j) (written outcome 0 (outcome_bytes 3 0 0 0)))) ∙
          sym (first_bad allowance nothing first l r loop run.least room (omega (arith, run.events, run.most)) out))

    -- And without: each is refused for a record that is too short, or a controller that there is not, with the same code.
    loop_called :
        (first allowance : ℕ) (l : CallLent) (r : Called) → RunsAlike allowance l outcome → Loop Step outcome allowance nothing first l r →
        called_as controller first allowance (with_outcome l outcome) ≡ r
    loop_called first allowance l r run loop =
        let lent = with_outcome l outcome in
        by_cases (dec_le 276 (length l.record0))
        (λ fits0.
        by_cases (dec_le 276 (length l.record1))
        (λ fits1.
        by_cases (dec_le controller 1)
        (λ one_of_two.
        called_made controller first allowance lent fits0 fits1 run.long_outcome one_of_two ∙
        loop_is_run one_of_two first allowance l r run (record { records = both fits0 fits1; stepped = run.long_stepped }) loop)
        (λ none.
        called_is controller first allowance lent ∙ refused_3 _ controller lent _ fits0 fits1 run.long_outcome (omega arith) ∙
        sym
        (loop_refused controller_unknown allowance nothing first l r loop run.least
        (λ i j. stepped_is controller i j l ∙ refused_3 _ controller l _ fits0 fits1 run.long_stepped (omega arith)) (λ is-3. omega arith) (λ is-0. omega arith))))
        (λ short.
        called_is controller first allowance lent ∙ refused_1 _ controller lent _ fits0 (omega arith) ∙
        sym
        (loop_refused record1_short allowance nothing first l r loop run.least
        (λ i j. stepped_is controller i j l ∙ refused_1 _ controller l _ fits0 (omega arith)) (λ is-3. omega arith) (λ is-0. omega arith))))
        (λ short.
        called_is controller first allowance lent ∙ refused_0 _ controller lent _ (omega arith) ∙
        sym
        (loop_refused record0_short allowance nothing first l r loop run.least
        (λ i j. stepped_is controller i j l ∙ refused_0 _ controller l _ (omega arith)) (λ is-3. omega arith) (λ is-0. omega arith)))
      where
        both : 276 ≤ length l.record0 → 276 ≤ length l.record1 → (n : UnitNumber) → 276 ≤ length (records_of l n)
        both fits0 fits1 Zero = fits0
        both fits0 fits1 One = fits1

-- ---- of the promises, as the source states them

vsmd_run_of_steps :
    RunOfSteps step-as.Post
    (λ κ a.
    step_asking a.1.1.1.1.1.1.1.1.1.0 a.1.1.1.1.1.1.1.0 a.1.1.1.1.1.1.1.1.0
    (lent_in a))
    (λ κ x e. called_of x (lent_in e))
    run-as.Post
    (λ κ a.
    asking a.1.1.1.1.1.1.1.1.1.0 a.1.1.1.1.1.1.1.0 a.1.1.1.1.1.1.1.1.0
    (lent_in a))
    (λ κ x e. called_of x (lent_in e))
vsmd_run_of_steps =
    record {
      some_result = λ controller at i l low.
          let s = stepped_as controller at i l in
          let m = s.lent in
          let of : List ℕ → MutBor (List ℕ) = λ b. record { ref_ptr = (0, 0); ghost_name = 0; now = b } in (
            s,
            record {
              bytes = low;
              lifetimes = ([], ([], ([], ([], ([], ([], ([], tt)))))));
              arguments = (
                of l.host,
                (of l.image0, (of l.image1, (of l.events, (of l.record0, (of l.record1, (of l.outcome, (at, (i, (controller, tt))))))))),
              );
              result = s.code;
              exit = (
                of m.host,
                (of m.image0, (of m.image1, (of m.events, (of m.record0, (of m.record1, (of m.outcome, (at, (i, (controller, tt))))))))),
              );
              asked = refl;
              allowed = refl;
              came = refl;
            },
          );
      same = λ controller first allowance l outcome r run loop κ b x f asked promised.
          promised ∙
          ap (λ (k : Asking). called_as k.controller k.first k.allowance k.lent) asked ∙
          loop_called controller outcome _
          (λ at i m s step. (
            step.bytes,
            sym step.came ∙ step.allowed ∙
                ap (λ (k : StepAsking). stepped_as k.controller k.at k.index k.lent) step.asked,
          ))
          first allowance l r run loop;
    }
