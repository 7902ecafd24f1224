-- Of an image the judge asks its length alone, and of that only whether it suffices: two images that are long enough get one verdict.
-- The check that asks it is given of neither, and all others are the same.
use Rattle.std.proofs.Common.{None, Some}
use Prim.Native.Nat.{ℕ, ◌≤◌}
use mathlib.Core.List.{List, [], ◌∷◌, ◌++◌}
use mathlib.Core.Logic.{by_cases}
use mathlib.Core.Path.{◌≡◌, refl, sym, ◌∙◌}
use native.Mathlib.Omega.{arith}
use Rattle.geometry.specs.Drive.{B, need}
use Rattle.request.specs.declared.Task.{Task}
use Rattle.request.specs.declared.Task.TheVariants.{Unknown, Move as Moves, Handshake, Initialize, Restore, Seek, Format, Map}
use Rattle.unit.specs.declared.Controller.{Controller}
use Rattle.unit.specs.Standing.{UnitRecord, geometry}
use Rattle.judge.specs.declared.Plan.{Plan}
use Rattle.judge.specs.Steps.{bytes_of, of_unit}
use Rattle.judge.specs.Plans.{plan_of}
use Rattle.judge.specs.Asks.{data_misplaced, drive_held, image_short, not_initialized, of_buffer, sector_outside, track_outside}
use Rattle.judge.specs.Checks.{Check, first}
use Rattle.judge.specs.Given.{on}
use Rattle.judge.specs.Verdict.{verdict}
use Rattle.judge.proofs.First.{skip, stop}

-- One of two checks of which neither is given, with the same before it and after it.
either_passed :
    (before : List Check) (k l : Check) (after : List Check) (p : Plan) → (k.Given → ⊥) → (l.Given → ⊥) →
    first (before ++ k ∷ after) p ≡ first (before ++ l ∷ after) p
either_passed [] k l after p no-k no-l = skip k after p no-k ∙ sym (skip l after p no-l)
either_passed (x ∷ xs) k l after p no-k no-l =
    by_cases x.given? (λ given. stop x _ p given ∙ sym (stop x _ p given))
    (λ out. skip x _ p out ∙ either_passed xs k l after p no-k no-l ∙ sym (skip x _ p out))

module _ (c : Controller) (u : UnitRecord) (image other : ℕ) (host : List ℕ) (long : need (geometry u) ≤ image) (other_long : need (geometry u) ≤ other) where
  pub long_enough_alike : (t : Task) → verdict (on c u image t host) ≡ verdict (on c u other t host)
  unfolding verdict
  long_enough_alike Unknown = refl
  long_enough_alike (Moves m) =
      let a = on c u image (Moves m) host in
      let b = on c u other (Moves m) host in
      either_passed (drive_held a ∷ of_unit a m ++ sector_outside a m.target m.count ∷ []) (image_short a) (image_short b)
      (of_buffer a m.buffer (bytes_of a m)) (plan_of u (Moves m)) (λ short. omega arith) (λ short. omega arith)
  long_enough_alike Handshake = refl
  long_enough_alike (Initialize None) = refl
  long_enough_alike (Initialize (Some g)) = refl
  long_enough_alike Restore = refl
  long_enough_alike (Seek t) = refl
  long_enough_alike (Format k) =
      let a = on c u image (Format k) host in
      let b = on c u other (Format k) host in
      either_passed (drive_held a ∷ not_initialized a ∷ track_outside a k ∷ []) (image_short a) (image_short b)
      (data_misplaced a k.buffer (B (geometry u)) ∷ []) (plan_of u (Format k)) (λ short. omega arith) (λ short. omega arith)
  long_enough_alike (Map k) = refl
