-- What a good field does, in the terms in which the code does it.
-- What is held stands at the start of its buffer: bytes put there, or a part that a run has left there, are what is held after it.
use Prim.Native.Nat.{ℕ, ◌+◌, ◌^◌, ◌≤◌, ◌<◌}
use mathlib.Core.List.{List, ◌++◌}
use mathlib.Core.Logic.{by_cases, if_neg}
use mathlib.Core.Path.{◌≡◌, sym, ap, ◌∙◌}
use native.Mathlib.Decide.{dec_le, ℕ_discrete}
use native.Mathlib.Nat.{zero-add}
use native.Mathlib.Omega.{arith}
use lib.ListN.{drop, get_or, length, replicate, take, length-append, length-drop, take-append-drop}
use lib.Seq.{get_or-drop, get_or-take, length-take-le, sets-eq}
use Rattle.answers.specs.Numbers.{run_number}
use Rattle.board.specs.declared.chain.Outcome.{Outcome}
use Rattle.board.specs.declared.Units.{Units}
use Rattle.board.specs.Chain.{Ending, ends, ran}
use Rattle.unit.specs.declared.Controller.TheVariants.{First}
use Rattle.demands.proofs.RunAnswers.{blocks_within_the_allowance}
use Rattle.board.proofs.Runs.{ran_allowance_bad}
use Rattle.wire.specs.Words.{be32}
use Rattle.wire.proofs.Laws.{word_same}
use Rattle.transcript.specs.declared.State.{State}
use Rattle.transcript.specs.Session.{Held, bytes_in, ending_of, heard, long_of, run_heard}
use Rattle.transcript.specs.Steps.{Appended, Fits, SessionLent, SessionRoom, held_in, lent_of, on_with, at_start, spoken_of, went}
use Rattle.transcript.specs.Text.{block_lines, run_line}
use Rattle.transcript.proofs.Texts.{block_lines_short, put_then, run_line_short}
use Rattle.board.specs.World.{World}
use Rattle.board.specs.Run.{CameTo, world_of}
use Rattle.wire.specs.Storing.{written}

-- ---- the start of a buffer

pub over_same : (n : ℕ) (buffer : List ℕ) → n ≤ length buffer → at_start (take n buffer) buffer ≡ buffer
over_same n buffer fits = rw (length-take-le n buffer fits) (take-append-drop n buffer)

pub written_over : (text bytes : List ℕ) → length bytes ≤ length text → written text 0 bytes ≡ at_start bytes text
unfolding written
written_over text bytes fits = sets-eq bytes text 0 (omega arith) ∙ rw zero-add

pub said_over :
    {text text' bytes : List ℕ} {end : ℕ} → Appended text 0 bytes text' end → length bytes ≤ length text →
    (text' ≡ at_start bytes text) × (end ≡ length bytes)
said_over {text} {text'} {bytes} put fits = (put.stored ∙ written_over text bytes fits, put.after ∙ zero-add (length bytes))

module _ (field : List ℕ) (whole : 3 + long_of field ≤ length field) where
  pub bytes_long : length (bytes_in field) ≡ long_of field
  bytes_long = length-take-le (long_of field) (drop 3 field) (omega (arith, length-drop 3 field))

  pub copied_over : (buffer : List ℕ) → bytes_in field ++ drop (long_of field) buffer ≡ at_start (bytes_in field) buffer
  copied_over buffer = rw bytes_long

-- ---- bytes for a buffer

-- What is not replaced is as long as it was, and its buffer is the same.
abbrev Stays : ℕ → List ℕ → Type 0
Stays used buffer = (used ≡ length (take used buffer)) × (buffer ≡ at_start (take used buffer) buffer)

stays : (used : ℕ) (buffer : List ℕ) → Fits used buffer → Stays used buffer
stays used buffer fits = (sym (length-take-le used buffer (omega arith)), sym (over_same used buffer (omega arith)))

module _ (field : List ℕ) (s : State) (l : SessionLent) (at : ℕ) (room : SessionRoom s l) (whole : 3 + long_of field ≤ length field) where
  host_stays : Stays s.host l.host
  host_stays = stays s.host l.host room.host

  image0_stays : Stays s.image0 l.image0
  image0_stays = stays s.image0 l.image0 room.image0

  image1_stays : Stays s.image1 l.image1
  image1_stays = stays s.image1 l.image1 room.image1

  pub host_given :
      spoken_of (on_with (long_of field) s.image0 s.image1 at 0)
      (lent_of (bytes_in field ++ drop (long_of field) l.host) l.image0 l.image1 l.text l.units) ≡
      went (heard (held_in s l) 1 (bytes_in field)) at l
  unfolding heard ℕ_discrete
  host_given =
      λ i.
      spoken_of (on_with (sym (bytes_long field whole) i) (image0_stays.0 i) (image1_stays.0 i) at 0)
      (lent_of (copied_over field whole l.host i) (image0_stays.1 i) (image1_stays.1 i) l.text l.units)

  pub image0_given :
      spoken_of (on_with s.host (long_of field) s.image1 at 0)
      (lent_of l.host (bytes_in field ++ drop (long_of field) l.image0) l.image1 l.text l.units) ≡
      went (heard (held_in s l) 2 (bytes_in field)) at l
  unfolding heard ℕ_discrete
  image0_given =
      λ i.
      spoken_of (on_with (host_stays.0 i) (sym (bytes_long field whole) i) (image1_stays.0 i) at 0)
      (lent_of (host_stays.1 i) (copied_over field whole l.image0 i) (image1_stays.1 i) l.text l.units)

  pub image1_given :
      spoken_of (on_with s.host s.image0 (long_of field) at 0)
      (lent_of l.host l.image0 (bytes_in field ++ drop (long_of field) l.image1) l.text l.units) ≡
      went (heard (held_in s l) 3 (bytes_in field)) at l
  unfolding heard ℕ_discrete
  image1_given =
      λ i.
      spoken_of (on_with (host_stays.0 i) (image0_stays.0 i) (sym (bytes_long field whole) i) at 0)
      (lent_of (host_stays.1 i) (image0_stays.1 i) (copied_over field whole l.image1 i) l.text l.units)

-- ---- a run

-- With a tag of 4 it is one.
pub run_heard_lem :
    (h : Held) (tag : ℕ) (bytes : List ℕ) → (tag ≡ 1 → ⊥) → (tag ≡ 2 → ⊥) → (tag ≡ 3 → ⊥) →
    heard h tag bytes ≡ run_heard (ending_of h bytes)
unfolding heard
run_heard_lem h tag bytes not-1 not-2 not-3 =
    if_neg (ℕ_discrete tag 1) not-1 _ _ ∙ if_neg (ℕ_discrete tag 2) not-2 _ _ ∙ if_neg (ℕ_discrete tag 3) not-3 _ _

-- What a run meets: what is held, and an event buffer of its own.
abbrev pub met : Held → World
met h = record { controller = First; host = h.host; drive0 = h.drive0; drive1 = h.drive1; events = replicate 512 0 }

-- Its address and its allowance are read where they stand in the field.
module _ (field : List ℕ) (five : long_of field ≡ 5) where
  byte_in_lem : (i : ℕ) → i < 5 → get_or field (3 + i) 0 ≡ get_or (bytes_in field) i 0
  byte_in_lem i below = rw five (sym (get_or-take 5 (drop 3 field) i 0 below ∙ get_or-drop 3 field i 0))

  pub run_ending :
      (h : Held) {first : ℕ} → first ≡ be32 field 3 → ran first (get_or field 7 0) (met h) ≡ ending_of h (bytes_in field)
  run_ending h is =
      λ t.
      ran ((is ∙ word_same 4 field (bytes_in field) 3 0 (λ i below. rw zero-add (byte_in_lem i (omega arith)))) t)
      (byte_in_lem 4 (omega arith) t) (met h)

-- No run has more than 64 blocks.
pub blocks_few :
    (first allowance : ℕ) (h : Held) {w : World} {r : Outcome} → CameTo (ran first allowance (met h)) w r → r.blocks ≤ 64
blocks_few first allowance h came =
    rw came.result
    (by_cases (dec_le allowance 64) (λ good. omega (arith, blocks_within_the_allowance first allowance (met h)))
    (λ bad. rw (ran_allowance_bad first allowance (met h) (omega arith) (λ good. bad good.1)) (omega arith)))

-- What a run came to is how it ended.
abbrev ended_as : World → Outcome → Ending
ended_as w r = ends r.answer r.failed (record { blocks = r.blocks; sectors = r.sectors }) w

ended_as_lem : {e : Ending} {w : World} {r : Outcome} → CameTo e w r → ended_as w r ≡ e
ended_as_lem came = λ i. ended_as (came.world i) (came.result i)

-- A part that was lent and came back, and the buffer that it is the start of.
came_back :
    (used : ℕ) (buffer part : List ℕ) → Fits used buffer → length part ≡ length (take used buffer) →
    (used ≡ length part) × (part ++ drop used buffer ≡ at_start part buffer)
came_back used buffer part fits kept =
    let same : used ≡ length part = omega (arith, length-take-le used buffer (omega arith)) in
    (same, ap (λ n. part ++ drop n buffer) same)

-- The lines of a run are what it says, and the parts that it leaves are what is held.
pub run_went :
    (s : State) (l : SessionLent) (at : ℕ) → SessionRoom s l →
    {e : Ending} (host image0 image1 events : List ℕ) (units : Units) (r : Outcome) →
    CameTo e (world_of First host image0 image1 events units) r →
    length host ≡ length (take s.host l.host) →
    length image0 ≡ length (take s.image0 l.image0) →
    length image1 ≡ length (take s.image1 l.image1) →
    {text' text'' : List ℕ} {number next end : ℕ} → number ≡ run_number r.answer →
    number < 2 ^ 64 → r.blocks ≤ 64 → r.sectors < 2 ^ 64 →
    Appended l.text 0 (run_line number r.blocks r.sectors) text' next →
    Appended text' next (block_lines events r.blocks) text'' end →
    spoken_of (on_with s.host s.image0 s.image1 at end)
    (lent_of (host ++ drop s.host l.host) (image0 ++ drop s.image0 l.image0) (image1 ++ drop s.image1 l.image1)
    text'' units) ≡
    went (run_heard e) at l
run_went s l at room host image0 image1 events units r came kept kept0 kept1 {number = number} is a b c line lines =
    let h = came_back s.host l.host host room.host kept in
    let i0 = came_back s.image0 l.image0 image0 room.image0 kept0 in
    let i1 = came_back s.image1 l.image1 image1 room.image1 kept1 in
    let told =
    said_over (put_then line lines)
    (omega (
      arith,
      length-append (run_line number r.blocks r.sectors) (block_lines events r.blocks),
      room.text,
      run_line_short number r.blocks r.sectors a (omega arith) c,
      block_lines_short events r.blocks (omega arith),
    )) in
    (λ t.
    spoken_of (on_with (h.0 t) (i0.0 t) (i1.0 t) at (told.1 t)) (lent_of (h.1 t) (i0.1 t) (i1.1 t) (told.0 t) units)) ∙
    rw is (ap (λ x. went (run_heard x) at l) (ended_as_lem came))
