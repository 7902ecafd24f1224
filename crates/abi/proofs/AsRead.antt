-- What goes by the tracks that count is told of a record as it is read: whether it counts as initialized, where what is asked for lands, and what an inspection
-- hands back. The tracks that count are those that stand in the bytes, and nothing else is asked of a table.
use Rattle.std.proofs.Common.{None, Some}
use Prim.Native.Nat.{ℕ, zero, suc}
use mathlib.Core.List.{List}
use mathlib.Core.Logic.{by_cases, ite}
use mathlib.Core.Path.{◌≡◌, refl, sym, ap, ◌∙◌}
use native.Mathlib.Decide.{dec_lt}
use Rattle.geometry.specs.declared.VolumeNumber.{VolumeNumber}
use Rattle.geometry.specs.declared.VolumeNumber.TheVariants.{Zero, One}
use Rattle.geometry.specs.Answers.{on_drive?}
use Rattle.geometry.specs.Drive.{volume_sectors}
use Rattle.spares.specs.Lands.{counted}
use Rattle.unit.specs.declared.UnitNumber.{UnitNumber}
use Rattle.unit.specs.declared.UnitNumber.TheVariants as unit
use Rattle.unit.specs.Answers.{landing, landing_at}
use Rattle.unit.specs.Landing.{spot_at}
use Rattle.unit.specs.Standing.{CountsAsInitialized, by_value, geometry}
use Rattle.unit.proofs.Alike.{counts_alike, landed_alike, spot_alike}
use Rattle.board.specs.Inspection.{inspectable?, part_of, sector_part}
use Rattle.board.proofs.Parts.{sector_not_there, sector_there}
use Rattle.abi.specs.declared.places.Wanted.{Wanted}
use Rattle.abi.specs.declared.places.Wanted.TheVariants.{Numbered, Addressed}
use Rattle.abi.specs.Layouts.{pairs_in, record_in, tracks_in}
use Rattle.abi.specs.Readings.{lands_as}
use Rattle.abi.specs.Unread.{read_in, tracks_read}
use Rattle.abi.proofs.Tracks.{length_words}
use Rattle.abi.proofs.Unread.{read_counted, read_long}

module _ (bytes : List ℕ) where
  same : counted (pairs_in bytes) (tracks_read bytes) ≡ counted (pairs_in bytes) (tracks_in bytes)
  same = read_counted bytes

  pub counts_as_read : CountsAsInitialized (read_in bytes) → CountsAsInitialized (record_in bytes)
  counts_as_read = counts_alike (by_value (record_in bytes)) (tracks_read bytes) (tracks_in bytes) same (length_words bytes 20 64)

  pub counts_in_bytes : CountsAsInitialized (record_in bytes) → CountsAsInitialized (read_in bytes)
  counts_in_bytes = counts_alike (by_value (record_in bytes)) (tracks_in bytes) (tracks_read bytes) (sym same) (read_long bytes)

  number_as_read : (v : VolumeNumber) (n : ℕ) → landing (read_in bytes) v n ≡ landing (record_in bytes) v n
  unfolding landing
  number_as_read v n =
      let g = geometry (record_in bytes) in
      ap (λ s. ite (dec_lt n (volume_sectors g v)) (Some s) None)
      (spot_alike (by_value (record_in bytes)) (tracks_read bytes) (tracks_in bytes) same v n)

  -- Where what is asked for lands.
  pub lands_as_read : (w : Wanted) → lands_as w (read_in bytes) ≡ lands_as w (record_in bytes)
  unfolding landing_at
  lands_as_read (Numbered zero n) = number_as_read Zero n
  lands_as_read (Numbered (suc zero) n) = number_as_read One n
  lands_as_read (Numbered (suc (suc volume)) n) = refl
  lands_as_read (Addressed a) =
      let g = geometry (record_in bytes) in
      ap (λ b. ite (on_drive? g a) (Some (spot_at g b)) None)
      (landed_alike (by_value (record_in bytes)) (tracks_read bytes) (tracks_in bytes) same a)

  -- What is inspected of one unit,
  sector_as_read : (n : UnitNumber) (long place : ℕ) → sector_part n (read_in bytes) long place ≡ sector_part n (record_in bytes) long place
  sector_as_read n long place =
      by_cases (inspectable? (read_in bytes) long place)
      (λ there.
      sector_there n (read_in bytes) long place there
      ∙ sym
      (sector_there n (record_in bytes) long place
      (record { initialized = counts_as_read there.initialized; inside = there.inside; image = there.image })))
      (λ not_there.
      sector_not_there n (read_in bytes) long place not_there
      ∙ sym
      (sector_not_there n (record_in bytes) long place
      (λ there. not_there (record { initialized = counts_in_bytes there.initialized; inside = there.inside; image = there.image }))))

-- and of either.
pub part_as_read :
    (record0 record1 : List ℕ) (long0 long1 unit place : ℕ) →
    part_of (read_in record0) (read_in record1) long0 long1 unit place ≡ part_of (record_in record0) (record_in record1) long0 long1 unit place
unfolding part_of
part_as_read record0 record1 long0 long1 zero place = sector_as_read record0 unit.Zero long0 place
part_as_read record0 record1 long0 long1 (suc zero) place = sector_as_read record1 unit.One long1 place
part_as_read record0 record1 long0 long1 (suc (suc unit)) place = refl
