-- What a call comes to, by which of its buffers are long enough and whether there is such a controller.
-- Each is a case of the definition.
use Prim.Native.Nat.{ℕ, ◌≤◌, ◌<◌}
use mathlib.Core.List.{List}
use mathlib.Core.Logic.{if_neg, if_pos, ite}
use mathlib.Core.Path.{◌≡◌, refl, sym, ◌∙◌, ap}
use native.Mathlib.Decide.{dec_lt}
use native.Mathlib.Omega.{arith}
use lib.ListN.{length}
use Rattle.answers.specs.Numbers.{run_number}
use Rattle.board.specs.declared.chain.Outcome.{Outcome}
use Rattle.board.specs.declared.inspection.Part.{Part}
use Rattle.board.specs.Chain.{Ending, ends, ran}
use Rattle.board.specs.Inspection.{part_of}
use Rattle.abi.specs.Calls.{CallLent, Called, answered, called_as, called_of, controller_of, controller_unknown, image_number, inspected_of, inspection, lent_of, made, outcome_short, record0_short, record1_short, record_left, unless_refused}
use Rattle.abi.specs.Layouts.{outcome_bytes, record_in}
use Rattle.abi.specs.Unread.{filled_in, read_in}
use Rattle.abi.proofs.Unread.{fill, run_filled, world_read}
use Rattle.board.specs.declared.Units.{Units}
use Rattle.unit.specs.declared.Controller.{Controller}
use Rattle.board.specs.Run.{CameTo, world_of}
use Rattle.wire.specs.Storing.{written}

-- A run that was made, from what the code ran and stored; what it left of tracks that were not read is as it stands in the bytes.
answered_is :
    (l : CallLent) (e : Ending) {c : Controller} {r : Outcome} {number : ℕ} {host image0 image1 events record0 record1 outcome : List ℕ} {units : Units} →
    CameTo e (world_of c host image0 image1 events units) r →
    record0 ≡ record_left l.record0 (filled_in l.record0 units.zero) →
    record1 ≡ record_left l.record1 (filled_in l.record1 units.one) →
    number ≡ run_number r.answer →
    outcome ≡ written l.outcome 0 (outcome_bytes number r.failed r.blocks r.sectors) →
    called_of number (lent_of host image0 image1 events record0 record1 outcome) ≡
    answered l (ends e.answer e.failed e.tally (fill c l e.world))
answered_is l e came left0 left1 is_number left =
    let on-host = ap (λ w. w.host) came.world in
    let on-image0 = ap (λ w. w.drive0.image) came.world in
    let on-image1 = ap (λ w. w.drive1.image) came.world in
    let on-events = ap (λ w. w.events) came.world in
    let on-unit0 = ap (λ w. filled_in l.record0 w.drive0.unit) came.world in
    let on-unit1 = ap (λ w. filled_in l.record1 w.drive1.unit) came.world in
    let on-answer = ap (λ o. o.answer) came.result in
    let on-failed = ap (λ o. o.failed) came.result in
    let on-blocks = ap (λ o. o.blocks) came.result in
    let on-sectors = ap (λ o. o.sectors) came.result in
    cc

-- And from what it read.
pub made_is :
    (c : Controller) (first allowance : ℕ) (l : CallLent) (units : Units) {r : Outcome} {number : ℕ}
    {host image0 image1 events record0 record1 outcome : List ℕ} {left : Units} →
    units.zero ≡ read_in l.record0 →
    units.one ≡ read_in l.record1 →
    CameTo (ran first allowance (world_of c l.host l.image0 l.image1 l.events units))
    (world_of c host image0 image1 events left) r →
    record0 ≡ record_left l.record0 (filled_in l.record0 left.zero) →
    record1 ≡ record_left l.record1 (filled_in l.record1 left.one) →
    number ≡ run_number r.answer →
    outcome ≡ written l.outcome 0 (outcome_bytes number r.failed r.blocks r.sectors) →
    called_of number (lent_of host image0 image1 events record0 record1 outcome) ≡ made c first allowance l
made_is c first allowance l units is_zero is_one came left0 left1 is_number left =
    answered_is l (ran first allowance (world_read c l)) (rw (is_zero, is_one) at came) left0 left1 is_number left ∙
    ap (answered l) (sym (run_filled c l first allowance))

-- Past the tests before it, each test that a run and a step begin with.
module _ (short controller : ℕ) (l : CallLent) (done : Called) where
  pub refused_0 : length l.record0 < 276 → unless_refused short controller l done ≡ called_of record0_short l
  refused_0 less = if_pos (dec_lt (length l.record0) 276) less _ _

  module _ (long0 : 276 ≤ length l.record0) where
    pub refused_1 : length l.record1 < 276 → unless_refused short controller l done ≡ called_of record1_short l
    refused_1 less = if_neg (dec_lt (length l.record0) 276) (λ h. omega arith) _ _ ∙ if_pos (dec_lt (length l.record1) 276) less _ _

    module _ (long1 : 276 ≤ length l.record1) where
      past_records :
          unless_refused short controller l done ≡
          ite (dec_lt (length l.outcome) 16) (called_of short l) (ite (dec_lt 1 controller) (called_of controller_unknown l) done)
      past_records =
          if_neg (dec_lt (length l.record0) 276) (λ h. omega arith) _ _ ∙ if_neg (dec_lt (length l.record1) 276) (λ h. omega arith) _ _

      pub refused_2 : length l.outcome < 16 → unless_refused short controller l done ≡ called_of short l
      refused_2 less = past_records ∙ if_pos (dec_lt (length l.outcome) 16) less _ _

      module _ (long : 16 ≤ length l.outcome) where
        pub refused_3 : 1 < controller → unless_refused short controller l done ≡ called_of controller_unknown l
        refused_3 none =
            past_records ∙ if_neg (dec_lt (length l.outcome) 16) (λ h. omega arith) _ _ ∙ if_pos (dec_lt 1 controller) none _ _

        pub not_refused : controller ≤ 1 → unless_refused short controller l done ≡ done
        not_refused one_of_two =
            past_records ∙ if_neg (dec_lt (length l.outcome) 16) (λ h. omega arith) _ _ ∙ if_neg (dec_lt 1 controller) (λ h. omega arith) _ _

pub called_is :
    (controller first allowance : ℕ) (l : CallLent) →
    called_as controller first allowance l ≡ unless_refused outcome_short controller l (made (controller_of controller) first allowance l)
unfolding called_as
called_is controller first allowance l = refl

pub called_made :
    (controller first allowance : ℕ) (l : CallLent) →
    276 ≤ length l.record0 → 276 ≤ length l.record1 → 16 ≤ length l.outcome → controller ≤ 1 →
    called_as controller first allowance l ≡ made (controller_of controller) first allowance l
called_made controller first allowance l long0 long1 long one_of_two =
    called_is controller first allowance l ∙ not_refused outcome_short controller l _ long0 long1 long one_of_two

module _ (record0 record1 : List ℕ) (long0 long1 unit place image at bytes : ℕ) where
  pub inspection_refused_0 :
      length record0 < 276 →
      inspection record0 record1 long0 long1 unit place image at bytes ≡ inspected_of record0_short image at bytes
  unfolding inspection
  inspection_refused_0 short = if_pos (dec_lt (length record0) 276) short _ _

  pub inspection_refused_1 :
      276 ≤ length record0 → length record1 < 276 →
      inspection record0 record1 long0 long1 unit place image at bytes ≡ inspected_of record1_short image at bytes
  unfolding inspection
  inspection_refused_1 fits short =
      if_neg (dec_lt (length record0) 276) (λ h. omega arith) _ _ ∙ if_pos (dec_lt (length record1) 276) short _ _

  pub inspection_made :
      276 ≤ length record0 → 276 ≤ length record1 →
      let p : Part = part_of (record_in record0) (record_in record1) long0 long1 unit place in
      inspection record0 record1 long0 long1 unit place image at bytes ≡ inspected_of 0 (image_number p.unit) p.at p.bytes
  unfolding inspection
  inspection_made fits0 fits1 =
      if_neg (dec_lt (length record0) 276) (λ h. omega arith) _ _ ∙ if_neg (dec_lt (length record1) 276) (λ h. omega arith) _ _
