-- The travel that a block's entry tells lies between -4,095 and 4,095, whatever the block and the record.
-- A block that moves the heads was let through on a unit that counts as initialized, and both its cylinders are the drive's.
use Rattle.answers.specs.declared.Refusal.{Refusal}
use Rattle.judge.specs.declared.Plan.{Plan}
use Rattle.std.proofs.Common.{Err, Ok, Result}
use Prim.Native.Nat.{ℕ, ◌+◌, ◌*◌, ◌<◌}
use mathlib.Core.List.{List, [], ◌∷◌, ◌++◌}
use mathlib.Core.Path.{◌≡◌, refl, ap, ◌∙◌}
use native.Mathlib.Omega.{arith}
use lib.IntN.{pos}
use Rattle.answers.specs.Numbers.{status_of}
use Rattle.geometry.specs.Drive.{C}
use Rattle.iopb.specs.Errors.{error_byte}
use Rattle.judge.specs.declared.Leaving.{Leaving}
use Rattle.judge.specs.declared.Leaving.TheVariants.{AsItWas, HeadsAt, HeadsAtLastTried, Fresh, Mapped}
use Rattle.judge.specs.Fits.{LeavingFits}
use Rattle.transfer.specs.Progress.{last_tried}
use Rattle.transfer.specs.Stores.{Store, bytes_from, event_byte, host_byte}
use Rattle.unit.specs.Landing.{spot_of}
use Rattle.unit.specs.Standing.{CountsAsInitialized, UnitRecord, cylinder, geometry}
use Rattle.unit.proofs.Laws.{spot_inside}
use Rattle.block.specs.Block.{Effect, left_by, travelled}
use Rattle.block.specs.Tells.{InRange}
use Rattle.block.specs.Events.{entry, travel_to}
use Rattle.block.specs.Steps.{acted_on}
use Rattle.block.proofs.Travel.{travel_in_range}
use Rattle.demands.specs.Footprint.{asked_of, named_drive, verdict_of}
use Rattle.demands.specs.Visits.{Travelled, Visit, block_of}
use Rattle.demands.proofs.Fits.{leaving_fits}
use Rattle.demands.proofs.Written.{effect_is, performance}

append_again : (xs ys zs : List Store) → xs ++ (ys ++ zs) ≡ xs ++ ys ++ zs
append_again [] ys zs = refl
append_again (x ∷ xs) ys zs = ap (λ (l : List Store). x ∷ l) (append_again xs ys zs)

nowhere : InRange (pos 0)
nowhere = travel_in_range 0 0 (omega arith) (omega arith)

module _ (v : Visit) where
  -- The two cylinders of a block that moves the heads.
  below : (u : UnitRecord) (new : ℕ) → CountsAsInitialized u → new < C (geometry u) → InRange (travel_to (cylinder u) new)
  below u new counts inside =
      travel_in_range (cylinder u) new (omega (arith, counts.cylinder, counts.within.sizes.cylinders)) (omega (arith, counts.within.sizes.cylinders))

  in_range : (u : UnitRecord) (moved : ℕ) (l : Leaving) → LeavingFits u l → InRange (travelled (cylinder u) l (cylinder (left_by u moved l)))
  in_range u moved AsItWas fits = nowhere
  in_range u moved (HeadsAt c) fits = below u c fits.0 fits.1
  in_range u moved (HeadsAtLastTried s) fits =
      let last = s.first + last_tried moved s.count in
      below u (spot_of u s.volume last).cylinder fits.0
      (spot_inside u s.volume last (omega (arith, fits.1.some, fits.1.inside))).cylinder
  in_range u moved (Fresh g) fits = nowhere
  in_range u moved (Mapped bad spare) fits = nowhere

  by_verdict : (verd : Result Plan Refusal) → verdict_of v ≡ verd → InRange (performance v).travel
  by_verdict (Err r) is = rw is nowhere
  by_verdict (Ok plan) is =
      rw is
      (in_range (named_drive v).unit (acted_on v.world.host (named_drive v) v.at (Ok plan)).sectors plan.leaving
      (rw is at (leaving_fits (asked_of v))))

  pub every_travel_in_range : Travelled v
  every_travel_in_range =
      let p = performance v in
      let word = bytes_from host_byte (v.at + 2) (status_of p.answer ∷ error_byte p.answer ∷ []) in
      let its-entry = bytes_from event_byte (8 * v.index) (entry (block_of v) p.answer p.travel) in
      record {
        earlier = p.stores ++ word;
        answer = p.answer;
        travel = p.travel;
        stores = ap (λ (e : Effect). e.stores) (effect_is v) ∙ append_again p.stores word its-entry;
        within = by_verdict (verdict_of v) refl;
      }
