-- What a record's bytes come to, by cases, what the calls come to by it, and that what is asked for lands on the drive.
-- The calls' definitions ask of the bytes what a reading does, so that each is a reading taken apart.
use Rattle.std.proofs.Common.{None, Option, Some}
use Rattle.std.specs.Prelude.{Err, Ok, Result}
use Prim.Native.Nat.{ℕ, zero, suc, ◌≤◌, ◌<◌}
use mathlib.Core.List.{List}
use mathlib.Core.Logic.{apply_ite, by_cases, if_neg, if_pos, ite}
use mathlib.Core.Path.{◌≡◌, refl, sym, ◌∙◌, ap}
use native.Mathlib.Decide.{dec_lt}
use native.Mathlib.Omega.{arith}
use lib.ListN.{length}
use Rattle.wire.proofs.Promises.{never}
use Rattle.geometry.specs.declared.VolumeNumber.{VolumeNumber}
use Rattle.geometry.specs.declared.VolumeNumber.TheVariants.{Zero, One}
use Rattle.geometry.specs.Drive.{drive_sectors, need}
use Rattle.unit.specs.declared.Spot.{Spot}
use Rattle.unit.specs.Answers.{landing}
use Rattle.unit.specs.Standing.{CountsAsInitialized, UnitRecord, geometry}
use Rattle.unit.proofs.Answers.{at_address, at_landing}
use Rattle.unit.proofs.Decided.{counts?}
use Rattle.unit.proofs.Laws.{address_inside, spot_inside}
use Rattle.abi.specs.declared.CallRefusal.{CallRefusal}
use Rattle.abi.specs.declared.CallRefusal.TheVariants.{NotInitialized, Record0Short}
use Rattle.abi.specs.declared.places.Wanted.{Wanted}
use Rattle.abi.specs.declared.places.Wanted.TheVariants.{Numbered, Addressed}
use Rattle.abi.specs.Layouts.{record_in, record_length}
use Rattle.abi.specs.Places.{Located, Needed, locating, needed_of, needing, numbered_in, refusing, standing}
use Rattle.abi.specs.Readings.{code_of, lands_as, reading}
use Rattle.abi.specs.Unread.{read_in}

module _ (bytes : List ℕ) where
  pub read_short : length bytes < 276 → Err Record0Short ≡ reading bytes
  unfolding reading
  read_short short = sym (if_pos (dec_lt (length bytes) record_length) short _ _)

  module _ (long : 276 ≤ length bytes) where
    pub read_counts : CountsAsInitialized (record_in bytes) → Ok (read_in bytes) ≡ reading bytes
    unfolding reading
    read_counts so =
        sym (if_neg (dec_lt (length bytes) record_length) (λ h. omega arith) _ _ ∙ if_pos (counts? (record_in bytes)) so _ _)

    pub read_not : (CountsAsInitialized (record_in bytes) → ⊥) → Err NotInitialized ≡ reading bytes
    unfolding reading
    read_not not_so =
        sym (if_neg (dec_lt (length bytes) record_length) (λ h. omega arith) _ _ ∙ if_neg (counts? (record_in bytes)) not_so _ _)

  -- A unit that was read is the one that is read there.
  pub read_so : {u : UnitRecord} → reading bytes ≡ Ok u → u ≡ read_in bytes
  unfolding reading
  read_so is =
      by_cases (dec_lt (length bytes) record_length) (λ short. absurd (never (cc (if_pos (dec_lt (length bytes) record_length) short _ _))))
      (λ long.
      by_cases (counts? (record_in bytes)) (λ so. cc (read_counts (omega arith) so)) (λ not_so. absurd (never (cc (read_not (omega arith) not_so)))))

  -- Whatever is made of a reading is made of each of its three cases.
  each_case :
      {A : Type 0} (f : Result UnitRecord CallRefusal → A) →
      f (reading bytes) ≡
      ite (dec_lt (length bytes) record_length) (f (Err Record0Short))
      (ite (counts? (record_in bytes)) (f (Ok (read_in bytes))) (f (Err NotInitialized)))
  unfolding reading
  each_case f =
      apply_ite f (dec_lt (length bytes) record_length) _ _ ∙
      ap (ite (dec_lt (length bytes) record_length) (f (Err Record0Short))) (apply_ite f (counts? (record_in bytes)) _ _)

  abbrev needed_by : ℕ → Result UnitRecord CallRefusal → Needed
  needed_by held (Ok u) = needed_of 0 (need (geometry u))
  needed_by held (Err refusal) = needed_of (code_of refusal) held

  pub needed_read : (held : ℕ) {r : Result UnitRecord CallRefusal} → r ≡ reading bytes → needed_by held r ≡ needing bytes held
  unfolding needing
  needed_read held is = ap (needed_by held) is ∙ each_case (needed_by held)

  abbrev located_by : (UnitRecord → Option Spot) → Located → Result UnitRecord CallRefusal → Located
  located_by lands held (Ok u) = standing (geometry u) (lands (record_in bytes)) held
  located_by lands held (Err refusal) = refusing (code_of refusal) held

  pub located_read :
      (lands : UnitRecord → Option Spot) (held : Located) {r : Result UnitRecord CallRefusal} → r ≡ reading bytes →
      located_by lands held r ≡ locating lands bytes held
  unfolding locating
  located_read lands held is = ap (located_by lands held) is ∙ each_case (located_by lands held)

pub no_volume : (volume n : ℕ) (u : UnitRecord) → (volume ≡ 0 → ⊥) → (volume ≡ 1 → ⊥) → None ≡ numbered_in volume n u
no_volume zero n u not-zero not-one = absurd (not-zero refl)
no_volume (suc zero) n u not-zero not-one = absurd (not-one refl)
no_volume (suc (suc volume)) n u not-zero not-one = refl

module _ (u : UnitRecord) (s : Spot) where
  number_on_drive : (v : VolumeNumber) (n : ℕ) → landing u v n ≡ Some s → s.place < drive_sectors (geometry u)
  number_on_drive v n is =
      let at = at_landing u v n s is in
      rw at.1 (omega (arith, spot_inside u v n at.0))

  -- What is asked for lands on the drive, where there is such a sector.
  pub lands_on_drive : (w : Wanted) → lands_as w u ≡ Some s → s.place < drive_sectors (geometry u)
  lands_on_drive (Numbered zero n) is = number_on_drive Zero n is
  lands_on_drive (Numbered (suc zero) n) is = number_on_drive One n is
  lands_on_drive (Numbered (suc (suc volume)) n) is = absurd (never (cc))
  lands_on_drive (Addressed a) is =
      let at = at_address u a s is in
      rw at.1 (omega (arith, address_inside u a at.0))
