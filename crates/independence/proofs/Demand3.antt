-- Demand 3: two chains that are independent can be run in either order.
-- A run is a local step, and two local steps that are apart can be made in either order.
use mathlib.Core.Path.{◌≡◌, sym, ap, ◌∙◌}
use Rattle.board.specs.declared.chain.Outcome.{Outcome}
use Rattle.unit.specs.declared.Controller.TheVariants.{First as FirstController, Second as SecondController}
use Rattle.unit.specs.declared.UnitNumber.TheVariants.{Zero, One}
use Rattle.independence.specs.Chains.{Both, BothCell, Chain, First, Second, Which, both, drive, drive_in, event_buffer, events_of, memory_byte, host_of, place_of, run_of, run_on}
use Rattle.independence.specs.Demand3.{AsEachAlone, Demand3, EitherWay, Independent, first_after, first_alone, first_then_second, second_after, second_alone, second_then_first}
use Rattle.independence.specs.Local.{Undisturbed, EitherOrder, Local, Step}
use Rattle.independence.proofs.Both.{both_extensional, both_stable, faithful, no_chain_is_both}
use Rattle.independence.proofs.Places.{placed_local}
use Rattle.independence.proofs.Runs.{run_is_local}
use Rattle.independence.proofs.Steps.{either_order, none_in_common, one_state}

pub run_local : (t : Which) (chain : Chain) → Local both (run_of t chain)
run_local t chain = placed_local (place_of t chain.controller) (faithful t chain.controller) (run_on chain) (run_is_local chain)

module _ (first second : Chain) (s : Both) where
  abbrev one : Step both Outcome
  one = run_of First first

  abbrev two : Step both Outcome
  two = run_of Second second

  apart : Independent first second s → Undisturbed both one two s
  apart i = record { written = none_in_common both one two s written_once; unread_by_second = by_second; unread_by_first = by_first }
    where
      written_once : (c : BothCell) → one.Writes s c → two.Writes s c → ⊥
      written_once (memory_byte c x) w v = i.written (w.0 ∙ sym v.0) x w.1 v.1
      written_once (drive n) w v = i.units n w v
      written_once (event_buffer r) w v = no_chain_is_both (w.0 ∙ sym v.0)

      by_second : (c : BothCell) → one.Writes s c → two.Reads s c → ⊥
      by_second (memory_byte c x) w v = (i.read (w.0 ∙ sym v.0) x).0 w.1 v.1
      by_second (drive n) w v = i.units n w v
      by_second (event_buffer r) w v = no_chain_is_both (w.0 ∙ sym v.0)

      by_first : (c : BothCell) → two.Writes s c → one.Reads s c → ⊥
      by_first (memory_byte c x) w v = (i.read (v.0 ∙ sym w.0) x).1 w.1 v.1
      by_first (drive n) w v = i.units n v w
      by_first (event_buffer r) w v = no_chain_is_both (v.0 ∙ sym w.0)

-- For every start, any two first addresses and any two allowances: all that the law of local steps says, and what is left as one state.
module _ (first second : Chain) (s : Both) (i : Independent first second s) where
  made : EitherOrder both (one first second s) (two first second s) s
  made = either_order both both_stable (run_of First first) (run_of Second second) (run_local First first) (run_local Second second) s (apart first second s i)

  one_left : first_then_second first second s ≡ second_then_first first second s
  one_left = one_state both (run_of First first) (run_of Second second) s both_extensional made

pub either_way : Demand3
either_way first second s i =
    let left = one_left first second s i in
    let of_first = sym (made first second s i).first in
    let of_second = (made first second s i).second in
    record {
      memory = λ c. ap (λ (x : Both). host_of x c) left;
      images = λ n. ap (λ (x : Both). (drive_in x n).image) left;
      records = λ n. ap (λ (x : Both). (drive_in x n).unit) left;
      events = λ t. ap (λ (x : Both). events_of x t) left;
      answers = (ap (λ (e : Outcome). e.answer) of_first, ap (λ (e : Outcome). e.answer) of_second);
      failed_numbers = (ap (λ (e : Outcome). e.failed) of_first, ap (λ (e : Outcome). e.failed) of_second);
      blocks = (ap (λ (e : Outcome). e.blocks) of_first, ap (λ (e : Outcome). e.blocks) of_second);
      sectors = (ap (λ (e : Outcome). e.sectors) of_first, ap (λ (e : Outcome). e.sectors) of_second);
    }

pub as_each_alone : AsEachAlone
as_each_alone first second s i = record { by_first = (made first second s i).by_first; by_second = (made first second s i).by_second }

-- What the conclusion says field by field, it says of all that is left and of how each ends.
module _ (first second : Chain) (s : Both) (e : EitherWay first second s) where
  pub left_same : first_then_second first second s ≡ second_then_first first second s
  left_same =
      λ k.
      record {
        host1 = e.memory FirstController k;
        host2 = e.memory SecondController k;
        drive0 = record { unit = e.records Zero k; image = e.images Zero k };
        drive1 = record { unit = e.records One k; image = e.images One k };
        events1 = e.events First k;
        events2 = e.events Second k;
      }

  pub first_same : first_alone first second s ≡ first_after first second s
  first_same = λ k. record { answer = e.answers.0 k; failed = e.failed_numbers.0 k; blocks = e.blocks.0 k; sectors = e.sectors.0 k }

  pub second_same : second_after first second s ≡ second_alone first second s
  second_same = λ k. record { answer = e.answers.1 k; failed = e.failed_numbers.1 k; blocks = e.blocks.1 k; sectors = e.sectors.1 k }
