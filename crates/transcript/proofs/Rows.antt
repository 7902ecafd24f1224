-- The steps of a session in a row print what the session does.
-- One step after the other: what is read for a field is as good as all that is left, and after a step the buffers hold what the
-- session holds, with room again.
use Prim.Native.Nat.{ℕ, zero, suc, ◌+◌, ◌^◌, ◌≤◌, ◌<◌}
use mathlib.Core.List.{List, [], ◌∷◌, ◌++◌, append-nil}
use mathlib.Core.Logic.{by_cases, if_neg, if_pos}
use mathlib.Core.Path.{◌≡◌, refl, sym, ap, ◌∙◌}
use native.Mathlib.Decide.{ℕ_discrete}
use native.Mathlib.Omega.{arith}
use lib.ListN.{drop, get_or, length, take, length-append, length-drop, length-take}
use lib.Seq.{take-append_seam}
use Rattle.unit.specs.declared.UnitNumber.TheVariants.{Zero, One}
use Rattle.board.specs.Chain.{ran}
use Rattle.demands.proofs.Keeps.{run_keeps_lengths}
use Rattle.wire.specs.Words.{be32}
use Rattle.transcript.specs.declared.State.{State}
use Rattle.transcript.specs.Rows.{in_a_row, onward, read_for}
use Rattle.transcript.specs.Session.{Held, Heard, begin, bytes_in, ending_of, field?, heard, long_of, played_within, run_heard, session, tag_of}
use Rattle.transcript.specs.Steps.{SessionLent, SessionRoom, Spoken, closed, held_in, lent_of, most_bytes, most_field, at_start, spoken, state_of, text_room, units_in, wanted, went}
use Rattle.transcript.specs.Text.{refusal_line}
use Rattle.transcript.proofs.Fields.{read_bytes, read_field, read_length, read_long, read_no_field, read_some, read_tag}
use Rattle.transcript.proofs.Plays.{bytes_long, met, run_heard_lem}
use Rattle.transcript.proofs.Speaks.{at_the_end, refused, went_on}
use Rattle.board.specs.World.{World}

-- An input without a field prints nothing.
pub nothing_said : session [] ≡ []
unfolding session played_within
nothing_said = refl

-- ---- what is held after a field

-- No more is held than a field can give.
record Few (h : Held) : Type 0 where
  host : length h.host ≤ most_bytes
  image0 : length h.drive0.image ≤ most_bytes
  image1 : length h.drive1.image ≤ most_bytes

-- A run keeps the lengths of both images.
images_keep_lengths :
    (first allowance : ℕ) (w : World) →
    (length (ran first allowance w).world.drive0.image ≡ length w.drive0.image) ×
    (length (ran first allowance w).world.drive1.image ≡ length w.drive1.image)
images_keep_lengths first allowance w = let keeps = (run_keeps_lengths first allowance w).1.1 in (keeps Zero, keeps One)

few_held : (s : State) (l : SessionLent) → SessionRoom s l → Few (held_in s l)
few_held s l room =
    record {
      host = omega (arith, length-take s.host l.host, room.host.0);
      image0 = omega (arith, length-take s.image0 l.image0, room.image0.0);
      image1 = omega (arith, length-take s.image1 l.image1, room.image1.0);
    }

few_heard : (h : Held) (tag : ℕ) (bytes : List ℕ) → Few h → length bytes ≤ most_bytes → Few (heard h tag bytes).held
unfolding heard ℕ_discrete
few_heard h tag bytes few short =
    by_cases (ℕ_discrete tag 1) (λ is. rw is (record { host = short; image0 = few.image0; image1 = few.image1 }))
    (λ not-1.
    by_cases (ℕ_discrete tag 2) (λ is. rw is (record { host = few.host; image0 = short; image1 = few.image1 }))
    (λ not-2.
    by_cases (ℕ_discrete tag 3) (λ is. rw is (record { host = few.host; image0 = few.image0; image1 = short }))
    (λ not-3. rw (run_heard_lem h tag bytes not-1 not-2 not-3) after_run)))
  where
    after_run : Few (run_heard (ending_of h bytes)).held
    after_run =
        let keeps = run_keeps_lengths (be32 bytes 0) (get_or bytes 4 0) (met h) in
        let images = images_keep_lengths (be32 bytes 0) (get_or bytes 4 0) (met h) in
        record { host = rw keeps.0 few.host; image0 = rw images.0 few.image0; image1 = rw images.1 few.image1 }

module _ (x : Heard) (at : ℕ) (l : SessionLent) where
  -- The state and the buffers after a field hold what it leaves,
  holds_what_was_heard : held_in (state_of x.held at) (went x at l).lent ≡ x.held
  holds_what_was_heard =
      let image0 = x.held.drive0.image in
      let image1 = x.held.drive1.image in
      λ i.
      record {
        host = take-append_seam x.held.host (drop (length x.held.host) l.host) i;
        drive0 = record { unit = x.held.drive0.unit; image = take-append_seam image0 (drop (length image0) l.image0) i };
        drive1 = record { unit = x.held.drive1.unit; image = take-append_seam image1 (drop (length image1) l.image1) i };
      }

  -- and no buffer gets shorter, so that there is room again.
  over_length : (bytes buffer : List ℕ) → length buffer ≤ length (at_start bytes buffer)
  over_length bytes buffer = simp (length-append, length-drop) (omega arith)

  room_again :
      (s : State) → SessionRoom s l → Few x.held → at + most_field < 2 ^ 64 → SessionRoom (state_of x.held at) (went x at l).lent
  room_again s room few early =
      record {
        host = (few.host, omega (arith, room.host.1, over_length x.held.host l.host));
        image0 = (few.image0, omega (arith, room.image0.1, over_length x.held.drive0.image l.image0));
        image1 = (few.image1, omega (arith, room.image1.1, over_length x.held.drive1.image l.image1));
        text = omega (arith, room.text, over_length x.text l.text);
        at = early;
      }

-- ---- one step after the other

module _ (k : ℕ) (s : State) (l : SessionLent) (rest : List ℕ) where
  -- What a step says, and what goes on after it.
  one_step :
      (x : Spoken) → spoken (read_for rest) s l ≡ x →
      in_a_row (suc k) s l rest ≡
      take x.said.text x.lent.text ++
      onward (λ s'. in_a_row k s' x.lent (drop (length (read_for rest)) rest)) x.said.next
  unfolding in_a_row
  one_step x is =
      ap
      (λ (x : Spoken).
      take x.said.text x.lent.text ++
      onward (λ s'. in_a_row k s' x.lent (drop (length (read_for rest)) rest)) x.said.next)
      is

  -- A last text is all that is printed.
  last_step : (text : List ℕ) → spoken (read_for rest) s l ≡ closed text l → in_a_row (suc k) s l rest ≡ text
  last_step text is =
      one_step (closed text l) is ∙ append-nil (take (length text) (at_start text l.text)) ∙
      take-append_seam text (drop (length text) l.text)

row :
    (k : ℕ) (s : State) (l : SessionLent) (rest : List ℕ) → SessionRoom s l → s.at + length rest + most_field < 2 ^ 64 →
    in_a_row k s l rest ≡ played_within k (held_in s l) s.at rest
unfolding in_a_row played_within
row zero s l rest room early = refl
row (suc k) s l [] room early =
    last_step k s l [] [] (at_the_end (read_for []) s l room (omega (arith, length-take {A = ℕ} (wanted (take 3 [])) [])))
row (suc k) s l (byte ∷ more) room early =
    let rest : List ℕ = byte ∷ more in
    by_cases (field? rest)
    (λ f.
    let x = heard (held_in s l) (tag_of rest) (bytes_in rest) in
    let at = s.at + (3 + long_of rest) in
    let left = drop (3 + long_of rest) rest in
    let short : length (bytes_in rest) ≤ most_bytes = omega (arith, bytes_long rest f.whole, f.good.long) in
    let few = few_heard (held_in s l) (tag_of rest) (bytes_in rest) (few_held s l room) short in
    let s' = state_of x.held at in
    let l' = (went x at l).lent in
    let on : in_a_row k s' l' (drop (length (read_for rest)) rest) ≡ played_within k x.held at left =
    rw (read_length rest f)
    (row k s' l' left (room_again x at l s room few (omega (arith, f.whole)))
    (omega (arith, f.whole, length-drop (3 + long_of rest) rest))
    ∙ ap (λ h. played_within k h at left) (holds_what_was_heard x at l)) in
    one_step k s l rest (went x at l)
    (went_on (read_for rest) s l room (read_field rest f) ∙ rw (read_tag rest f, read_bytes rest f, read_long rest f))
    ∙ (λ i. take-append_seam x.text (drop (length x.text) l.text) i ++ on i)
    ∙ sym (if_pos (field? rest) f _ _))
    (λ none.
    last_step k s l rest (refusal_line s.at)
    (refused (read_for rest) s l room (read_some rest (omega arith)) (read_no_field rest none))
    ∙ sym (if_neg (field? rest) none _ _))

-- The state and the units that a session begins with are what it holds at first, whatever the buffers are.
pub begins : (l : SessionLent) → l.units ≡ units_in begin → held_in (state_of begin 0) l ≡ begin
begins l blank = λ i. held_in (state_of begin 0) (lent_of [] [] [] [] (blank i))

-- A program that, until a step is the last, reads what a field wants, makes a step of it on the buffers that the step before left,
-- and prints what the step says, prints what the session prints: of any input of fewer than 2^64 - 16,387 bytes, with buffers that
-- have room for any field and for the lines of any run. It begins with what a session begins with, and makes at most one step more than the input
-- has bytes.
pub steps_in_a_row :
    (input : List ℕ) (l : SessionLent) → length input + most_field < 2 ^ 64 →
    most_bytes ≤ length l.host → most_bytes ≤ length l.image0 → most_bytes ≤ length l.image1 → text_room ≤ length l.text →
    l.units ≡ units_in begin →
    in_a_row (length input + 1) (state_of begin 0) l input ≡ session input
unfolding session
steps_in_a_row input l early host image0 image1 text blank =
    row (length input + 1) (state_of begin 0) l input
    (record {
      host = (omega arith, host);
      image0 = (omega arith, image0);
      image1 = (omega arith, image1);
      text = text;
      at = omega arith;
    })
    (omega arith)
    ∙ ap (λ h. played_within (length input + 1) h 0 input) (begins l blank)
