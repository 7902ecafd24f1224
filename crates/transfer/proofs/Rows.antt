-- Sectors in a row on the drive, on an image that has all its marks: the marks alone say how far a row comes.
-- The marks of a row stand in a row too.
use Rattle.std.proofs.Common.{Ok}
use Prim.Native.Nat.{ℕ, ◌+◌, ◌≤◌, ◌<◌}
use mathlib.Core.Bool.{Bool, true, false, not, ◌&&◌}
use mathlib.Core.List.{List}
use mathlib.Core.Logic.{by_cases, if_neg, if_pos}
use mathlib.Core.Path.{◌≡◌, refl, sym, ap, ◌∙◌}
use native.Mathlib.Decide.{dec_lt}
use native.Mathlib.Nat.{zero-add}
use native.Mathlib.Omega.{arith}
use borrow.Author.Tests.{ne_eqb}
use lib.Dec.{eqb}
use lib.ListN.{get_or}
use Rattle.geometry.specs.declared.Geometry.{Geometry}
use Rattle.geometry.specs.Sectors.{mark_byte}
use Rattle.geometry.proofs.Laws.{marks_consecutive}
use Rattle.transfer.specs.Progress.{stops_at}
use Rattle.transfer.specs.Runs.{Readable, in_a_row, row_of, stopped}
use Rattle.transfer.proofs.Progress.{all_move, stops_at_lem}

-- What a row comes to, by its test.
module _ (good n : ℕ) where
  pub unreadable_of : good < n → row_of good n ≡ stopped good
  unreadable_of less = if_pos (dec_lt good n) less _ _

  pub whole_of : n ≤ good → row_of good n ≡ record { sectors = n; answer = Ok tt }
  whole_of whole = if_neg (dec_lt good n) (λ h. omega arith) _ _

module _ (image : List ℕ) (g : Geometry) (heeds : Bool) (place n : ℕ) (mark : ℕ) (mark-is : mark ≡ mark_byte g place) where
  abbrev stops : ℕ → Bool
  stops i = stops_at image g heeds (place + i)

  mark_on : (i : ℕ) → mark_byte g (place + i) ≡ mark + i
  mark_on i = marks_consecutive g place i ∙ ap (λ (x : ℕ). x + i) (sym mark-is)

  moved : (i : ℕ) → (heeds ≡ true → get_or image (mark + i) 0 ≡ 0) → stops i ≡ false
  unfolding stops_at
  moved i good = rw (mark_on i) (by_value heeds good)
    where
      by_value : (b : Bool) → (b ≡ true → get_or image (mark + i) 0 ≡ 0) → (b && not (eqb (get_or image (mark + i) 0) 0)) ≡ false
      by_value true zero = rw (zero refl)
      by_value false zero = refl

  unreadable : (i : ℕ) → heeds ≡ true → (get_or image (mark + i) 0 ≡ 0 → ⊥) → stops i ≡ true
  unfolding stops_at
  unreadable i heeded bad = rw (mark_on i, heeded, ne_eqb (get_or image (mark + i) 0) 0 bad)

  -- A mark may stop a row; otherwise it comes to its own end.
  module _ (r : ℕ) (found : Readable heeds image mark n r) where
    all_before : (i : ℕ) → i < r → stops (0 + i) ≡ false
    all_before i h = rw zero-add (moved i (found.good i h))

    pub row_comes : in_a_row image g heeds place n ≡ row_of r n
    row_comes =
        by_cases (dec_lt r n)
        (λ less.
        let stop = found.ends less in
        (rw zero-add at (stops_at_lem stops 0 r n less all_before (rw zero-add (unreadable r stop.0 stop.1))))
        ∙ sym (unreadable_of r n less))
        (λ whole.
        (rw zero-add at (all_move stops 0 n (λ i h. all_before i (omega arith)))) ∙ sym (whole_of r n (omega arith)))
