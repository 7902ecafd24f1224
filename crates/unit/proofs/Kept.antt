-- A unit that counts as initialized still does once its heads stand elsewhere on the drive or its table has a pair more; and a new one does.
-- Each asks one part of the question anew, and the others are as they were.
use Prim.Native.Nat.{ℕ, ◌<◌}
use mathlib.Core.Logic.{if_pos}
use mathlib.Core.Path.{refl, subst, sym}
use native.Mathlib.Decide.{dec_lt}
use native.Mathlib.Omega.{arith}
use Rattle.geometry.specs.declared.Geometry.{Geometry}
use Rattle.geometry.specs.Drive.{C}
use Rattle.geometry.specs.Limits.{Within}
use Rattle.spares.specs.Table.{Free, Good, with_pair}
use Rattle.spares.specs.Tracks.{TrackOn}
use Rattle.spares.proofs.Adding.{stays_good}
use Rattle.spares.proofs.Laws.{empty_is_good}
use Rattle.unit.specs.Standing.{CountsAsInitialized, UnitRecord, fresh, geometry, mapped, moved_to, no_tracks, pairs, table}

pub fresh_counts : (g : Geometry) → Within g → CountsAsInitialized (fresh g)
fresh_counts g within =
    record { said = refl; within = within; cylinder = omega (arith, within.sizes.cylinders); good = empty_is_good g no_tracks refl }

module _ (u : UnitRecord) (counts : CountsAsInitialized u) where
  pub moved_counts : (c : ℕ) → c < C (geometry u) → CountsAsInitialized (moved_to u c)
  moved_counts c on = record { said = counts.said; within = counts.within; cylinder = on; good = counts.good }

  pub mapped_counts :
      (bad spare : ℕ) → TrackOn (geometry u) bad → TrackOn (geometry u) spare → Free (pairs u) (table u) bad spare → pairs u < 32 →
      CountsAsInitialized (mapped u bad spare)
  mapped_counts bad spare bad_on spare_on free room =
      record {
        said = counts.said;
        within = counts.within;
        cylinder = counts.cylinder;
        good =
            subst (λ (n : ℕ). Good (geometry u) n (with_pair (pairs u) (table u) bad spare)) (sym (if_pos (dec_lt (pairs u) 32) room _ _))
            (stays_good (pairs u) (table u) bad spare room counts.good.long (geometry u) counts.good bad_on spare_on free);
      }
