-- The layouts have the lengths that they say, and a record that was stored reads back as itself, its table with it.
-- Stored from the first byte on, the layout's bytes stand at the head of the buffer, and each number is put together from its own.
use Rattle.std.proofs.Common.{None, Some}
use Prim.Native.Nat.{ℕ, ◌+◌, ◌*◌, ◌/◌, ◌%◌, ◌^◌, ◌≤◌, ◌<◌}
use mathlib.Core.Bool.{Bool, true, false, not, ◌&&◌}
use mathlib.Core.List.{List, [], ◌∷◌, ◌++◌}
use mathlib.Core.Logic.{by_cases}
use mathlib.Core.Path.{◌≡◌, refl, ◌∙◌, ap}
use native.Mathlib.Omega.{arith}
use lib.Dec.{eqb, leb}
use lib.ListN.{get_or, length}
use Rattle.wire.specs.Words.{word}
use Rattle.geometry.specs.declared.Geometry.{Geometry}
use Rattle.geometry.specs.Drive.{B, C, S, goes_by_head}
use Rattle.geometry.proofs.Same.{geometry_is}
use Rattle.unit.proofs.Decided.{record_is, same_with_table?}
use Rattle.unit.proofs.Holders.{holder_back}
use Rattle.unit.specs.declared.Controller.TheVariants.{First, Second}
use Rattle.unit.specs.Holding.{Holder}
use Rattle.unit.specs.Standing.{UnitRecord, by_value, cylinder, geometry, holder, initialized, pairs, table, unit_of}
use Rattle.board.specs.Chain.{Ending}
use Rattle.abi.specs.Calls.{record_left}
use Rattle.abi.specs.Layouts.{ending_bytes, geometry_bytes, head_bytes, holder_in, opening_bytes, order_byte, outcome_length, record_bytes, record_in, record_length, says_initialized, track_bytes, tracks_in}
use Rattle.abi.proofs.Left.{left_anew, left_as_it_came}
use Rattle.abi.proofs.Tracks.{at_the_head, length_tracks, tracks_back, words_past}
use Rattle.unit.specs.HolderNumbers.{holder_number}
use Rattle.wire.specs.Storing.{two_bytes}

-- A record fills its layout.
pub record_length_lem : (u : UnitRecord) → length (table u) ≡ 64 → length (record_bytes u) ≡ record_length
record_length_lem u long = omega (arith, length_tracks (table u))

pub outcome_length_lem : (e : Ending) → length (ending_bytes e) ≡ outcome_length
outcome_length_lem e = refl

-- What the types of a record's numbers leave room for.
pub record Narrow (u : UnitRecord) : Type 0 where
  pub few_C : C (geometry u) < 65536
  pub few_S : S (geometry u) < 65536
  pub few_B : B (geometry u) < 65536
  pub low_cylinder : cylinder u < 65536
  pub few_pairs : pairs u < 65536
  pub low_tracks : (i : ℕ) → get_or (table u) i 0 < 2 ^ 32

two_back : (n : ℕ) → n < 65536 → (0 * 256 + n / 256 % 256) * 256 + n % 256 ≡ n
two_back n fits = omega arith

-- The bytes of orders and of holders are those that a record may have.
order_low : (by : Bool) → leb (order_byte by) 1 ≡ true
order_low true = refl
order_low false = refl

order_back : (by : Bool) → not (eqb (order_byte by) 1) ≡ by
order_back true = refl
order_back false = refl

holder_low : (h : Holder) → leb (holder_number h) 2 ≡ true
holder_low None = refl
holder_low (Some First) = refl
holder_low (Some Second) = refl

-- Flag, order and holder are read back, each whatever the others are.
module _ (g : Geometry) (y : ℕ) (rest : List ℕ) (by : Bool) (h : Holder) where
  abbrev headed : Bool → List ℕ
  headed initialized = opening_bytes initialized ++ geometry_bytes g ++ two_bytes y ++ (order_byte by ∷ holder_number h ∷ []) ++ rest

  opening_back : (initialized : Bool) → says_initialized (headed initialized) ≡ initialized
  unfolding word
  opening_back true = ap (λ (x : Bool). x && leb (holder_number h) 2) (order_low by) ∙ holder_low h
  opening_back false = refl

  holder_read_back : (initialized : Bool) → holder_in (headed initialized) ≡ h
  unfolding word
  holder_read_back true = holder_back h
  holder_read_back false = holder_back h

-- ---- what is stored reads back

module _ (u : UnitRecord) (n : Narrow u) (long : length (table u) ≡ 64) where
  reads_back : (rest : List ℕ) → record_in (record_bytes u ++ rest) ≡ u
  unfolding word
  reads_back rest =
      let g = geometry u in
      let tracks = track_bytes (table u) in
      let after = two_bytes (pairs u) ++ tracks ++ rest in
      let value : by_value (record_in (record_bytes u ++ rest)) ≡ by_value u =
      record_is _ (by_value u) (opening_back g (cylinder u) after (goes_by_head g) (holder u) (initialized u))
      (geometry_is _ g (two_back (C g) n.few_C) (two_back (S g) n.few_S) (two_back (B g) n.few_B) refl refl (order_back (goes_by_head g)))
      (two_back (cylinder u) n.low_cylinder) (two_back (pairs u) n.few_pairs)
      (holder_read_back g (cylinder u) after (goes_by_head g) (holder u) (initialized u)) in
      let words : tracks_in (record_bytes u ++ rest) ≡ table u =
      words_past (head_bytes u) (tracks ++ rest) 0 64 ∙ rw long at (tracks_back (table u) rest (λ i less. n.low_tracks i)) in
      λ i. unit_of (value i) (words i)

  -- What stands in a record's bytes after a run is the record that the run left, its table with it.
  pub left_reads_back : (bytes : List ℕ) → record_length ≤ length bytes → record_in (record_left bytes u) ≡ u
  left_reads_back bytes fits =
      by_cases (same_with_table? (record_in bytes) u)
      (λ stands. ap (λ (l : List ℕ). record_in l) (left_as_it_came bytes u stands) ∙ stands)
      (λ other.
      let head = at_the_head bytes (record_bytes u) (omega (arith, record_length_lem u long)) in
      ap (λ (l : List ℕ). record_in l) (left_anew bytes u other ∙ head) ∙ reads_back _)
