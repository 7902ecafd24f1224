-- A unit that counts as initialized before a block does so after it.
-- What a plan leaves fits the unit, and each way of leaving it keeps what it does not touch.
use Prim.Native.Nat.{ℕ, ◌+◌}
use native.Mathlib.Omega.{arith}
use mathlib.Core.Bool.{Bool, true, false}
use mathlib.Core.Path.{◌≡◌, refl}
use lib.ListN.{length}
use Rattle.judge.specs.declared.Leaving.{Leaving}
use Rattle.judge.specs.declared.Leaving.TheVariants.{AsItWas, HeadsAt, HeadsAtLastTried, Fresh, Mapped}
use Rattle.judge.specs.Fits.{LeavingFits}
use Rattle.transfer.specs.Progress.{last_tried}
use Rattle.unit.specs.Landing.{spot_of}
use Rattle.unit.specs.Standing.{CountsAsInitialized, UnitRecord, pairs, table}
use Rattle.unit.proofs.Kept.{fresh_counts, mapped_counts, moved_counts}
use Rattle.unit.proofs.Laws.{spot_inside}
use Rattle.wire.specs.Promise.{Says}
use Rattle.block.specs.Block.{left_by}
use Rattle.spares.proofs.Adding.{long_still}

module _ (u : UnitRecord) (moved : ℕ) where
  pub still_counts : (l : Leaving) → CountsAsInitialized u → LeavingFits u l → CountsAsInitialized (left_by u moved l)
  still_counts AsItWas counts fits = counts
  still_counts (HeadsAt c) counts fits = moved_counts u counts c fits.1
  still_counts (HeadsAtLastTried s) counts fits =
      let last = s.first + last_tried moved s.count in
      moved_counts u counts (spot_of u s.volume last).cylinder
      (spot_inside u s.volume last (omega (arith, fits.1.some, fits.1.inside))).cylinder
  still_counts (Fresh g) counts fits = fresh_counts g fits
  still_counts (Mapped bad spare) counts fits =
      mapped_counts u counts bad spare fits.1.bad_on fits.1.spare_on fits.1.free fits.1.room

  -- A plan that fits only a unit that counts leaves one that counts: what was told of it stays true.
  pub stays_told :
      (l : Leaving) (told : Bool) → (LeavingFits u l → CountsAsInitialized u) → Says told (CountsAsInitialized u) → LeavingFits u l →
      Says told (CountsAsInitialized (left_by u moved l))
  stays_told l true needs counts fits = still_counts l counts fits
  stays_told l false needs not_it fits = absurd (not_it (needs fits))

  -- A table keeps its length.
  pub still_long : (l : Leaving) → length (table u) ≡ 64 → LeavingFits u l → length (table (left_by u moved l)) ≡ 64
  still_long AsItWas long fits = long
  still_long (HeadsAt c) long fits = long
  still_long (HeadsAtLastTried s) long fits = long
  still_long (Fresh g) long fits = refl
  still_long (Mapped bad spare) long fits = long_still (pairs u) (table u) bad spare fits.1.room long
