-- What a step comes to, by which of its buffers are long enough, whether there is such a controller, and whether the block can be fetched.
-- Each is a case of the definition; what was run is board's step, of the records as they were read.
use Rattle.std.proofs.Common.{None, Option, Some}
use Prim.Native.Nat.{ℕ, ◌+◌, ◌*◌, ◌≤◌, ◌<◌}
use mathlib.Core.List.{List}
use mathlib.Core.Logic.{if_neg, if_pos, ite}
use mathlib.Core.Path.{◌≡◌, refl, ◌∙◌, ap, sym}
use native.Mathlib.Decide.{dec_lt}
use native.Mathlib.Omega.{arith}
use lib.ListN.{length}
use Rattle.answers.specs.RunNumbers.{block_number}
use Rattle.board.specs.declared.Units.{Units}
use Rattle.board.specs.declared.chain.Stepped.{Stepped}
use Rattle.board.specs.Run.{world_of}
use Rattle.board.specs.Steps.{RanOne, SteppedTo}
use Rattle.board.specs.World.{World}
use Rattle.unit.specs.declared.Controller.{Controller}
use Rattle.wire.proofs.Decided.{in_memory?}
use Rattle.wire.specs.Storing.{written}
use Rattle.abi.specs.Calls.{CallLent, Called, called_of, controller_of, lent_of, record_left, unless_refused}
use Rattle.abi.specs.Unread.{filled_in, read_in}
use Rattle.abi.proofs.Called.{not_refused}
use Rattle.abi.proofs.Unread.{answer_filled, sectors_filled, world_filled, world_read}
use Rattle.abi.specs.Stepping.{block_bad, goes_on, no_entry, stepped_as, stepped_bytes, stepped_once, stepped_short}

-- A step, as the code read it, ran it and stored what it left. Tracks that were not read are as they stand in the bytes.
stood_once :
    (c : Controller) (at i : ℕ) (l : CallLent) (s : Stepped) {host image0 image1 events record0 record1 stepped : List ℕ} {units : Units} →
    SteppedTo (world_read c l) at i (world_of c host image0 image1 events units) s →
    record0 ≡ record_left l.record0 (filled_in l.record0 units.zero) →
    record1 ≡ record_left l.record1 (filled_in l.record1 units.one) →
    stepped ≡ written l.outcome 0 (stepped_bytes (block_number s.answer) (goes_on s.answer s.linked) s.sectors s.link) →
    called_of 0 (lent_of host image0 image1 events record0 record1 stepped) ≡ stepped_once c at i l
stood_once c at i l s to left0 left1 told =
    let on-host = ap (λ w. w.host) to.world in
    let on-image0 = ap (λ w. w.drive0.image) to.world in
    let on-image1 = ap (λ w. w.drive1.image) to.world in
    let on-events = ap (λ w. w.events) to.world in
    let on-unit0 = ap (λ w. filled_in l.record0 w.drive0.unit) to.world in
    let on-unit1 = ap (λ w. filled_in l.record1 w.drive1.unit) to.world in
    let on-answer = to.answer in
    let on-sectors = to.sectors in
    let on-linked = to.linked in
    let on-link = to.link in
    rw (world_filled c l at i, answer_filled c l at i, sectors_filled c l at i) (cc)

module _ (c : Controller) (at i : ℕ) (l : CallLent) (units : Units) where
  -- The world that was run.
  abbrev ran : World
  ran = world_of c l.host l.image0 l.image1 l.events units

  abbrev steps : Called
  steps = ite (in_memory? l.host at 28) (stepped_once c at i l) (called_of block_bad l)

  -- A block that was run,
  pub once_is :
      (s : Stepped) (r : Option Stepped) (left : Units) {host image0 image1 events record0 record1 stepped : List ℕ} →
      units.zero ≡ read_in l.record0 →
      units.one ≡ read_in l.record1 →
      r ≡ Some s →
      RanOne ran at i host image0 image1 events left r →
      record0 ≡ record_left l.record0 (filled_in l.record0 left.zero) →
      record1 ≡ record_left l.record1 (filled_in l.record1 left.one) →
      stepped ≡ written l.outcome 0 (stepped_bytes (block_number s.answer) (goes_on s.answer s.linked) s.sectors s.link) →
      called_of 0 (lent_of host image0 image1 events record0 record1 stepped) ≡ steps
  once_is s r left {host} {image0} {image1} {events} is_zero is_one is-ran done left0 left1 told =
      let ran-so : RanOne ran at i host image0 image1 events left (Some s) = rw is-ran at done in
      stood_once c at i l s (rw (is_zero, is_one) at ran-so.1) left0 left1 told ∙ sym (if_pos (in_memory? l.host at 28) ran-so.0.place _ _)

  -- and one that cannot be fetched, where there is room for its entry.
  pub none_is :
      (r : Option Stepped) (left : Units) {host image0 image1 events : List ℕ} →
      8 * i + 8 ≤ length l.events →
      r ≡ None →
      RanOne ran at i host image0 image1 events left r →
      called_of 3 (lent_of host image0 image1 events l.record0 l.record1 l.outcome) ≡ steps
  none_is r left {host} {image0} {image1} {events} room is_none done =
      let none : RanOne ran at i host image0 image1 events left None = rw is_none at done in
      let on-host = ap (λ w. w.host) none.1 in
      let on-image0 = ap (λ w. w.drive0.image) none.1 in
      let on-image1 = ap (λ w. w.drive1.image) none.1 in
      let on-events = ap (λ w. w.events) none.1 in
      (λ j. called_of 3 (lent_of (on-host j) (on-image0 j) (on-image1 j) (on-events j) l.record0 l.record1 l.outcome))
      ∙ sym (if_neg (in_memory? l.host at 28) (λ inside. none.0 (record { place = inside; entry = room })) _ _)

-- Past the tests that it shares with a run, the room for the entry.
module _ (controller at i : ℕ) (l : CallLent) where
  abbrev placed : Called
  placed = ite (in_memory? l.host at 28) (stepped_once (controller_of controller) at i l) (called_of block_bad l)

  pub stepped_is :
      stepped_as controller at i l ≡
      unless_refused stepped_short controller l (ite (dec_lt (length l.events) (8 * i + 8)) (called_of no_entry l) placed)
  unfolding stepped_as
  stepped_is = refl

  module _ (long0 : 276 ≤ length l.record0) (long1 : 276 ≤ length l.record1) (long : 16 ≤ length l.outcome) (one_of_two : controller ≤ 1) where
    pub stepped_no_entry : length l.events < 8 * i + 8 → stepped_as controller at i l ≡ called_of no_entry l
    stepped_no_entry less =
        stepped_is ∙ not_refused stepped_short controller l _ long0 long1 long one_of_two ∙ if_pos (dec_lt (length l.events) (8 * i + 8)) less _ _

    pub stepped_made : 8 * i + 8 ≤ length l.events → stepped_as controller at i l ≡ placed
    stepped_made room =
        stepped_is ∙ not_refused stepped_short controller l _ long0 long1 long one_of_two
        ∙ if_neg (dec_lt (length l.events) (8 * i + 8)) (λ h. omega arith) _ _
