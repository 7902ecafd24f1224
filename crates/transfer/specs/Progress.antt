-- How far a transfer comes (01, One run and Answer number 20): sector after sector until done or stopped.
use Rattle.std.specs.Prelude.{ℕ, zero, suc, ◌-◌, min, Bool, cond, not, ◌&&◌, List, eqb, get_or, Err, Ok}
use Rattle.answers.specs.Numbers.{BlockAnswer}
use Rattle.answers.specs.declared.Refusal.{Refusal}
use Rattle.geometry.specs.declared.Geometry.{Geometry}
use Rattle.geometry.specs.Sectors.{mark_byte}

-- "one mark byte a sector: 0 good, any other unreadable" (01, Geometry): the sector at a place stops a transfer that heeds the marks where
-- its mark is not 0.
unfoldable pub stops_at : List ℕ → Geometry → Bool → ℕ → Bool
stops_at image g heeds place = heeds && not (eqb (get_or image (mark_byte g place) 0) 0)

-- How many sectors were moved, and with what answer the transfer ended.
pub record Progress : Type 0 where
  pub sectors : ℕ
  pub answer : BlockAnswer

-- From sector j on, with n sectors to go: "sectors in order until done or stopped at an unreadable sector" (00, demand 2), the second with 20,
-- "unreadable sector, DE clear; earlier sectors moved". What comes after a sector counts only where that sector does not stop the transfer.
unfoldable pub progress : (ℕ → Bool) → (j n : ℕ) → Progress
progress stops j zero = record { sectors = j; answer = Ok tt }
progress stops j (suc n) =
    cond (stops j) (record { sectors = j; answer = Err Refusal.Unreadable }) (progress stops (suc j) n)

-- "the last sector tried; the sector that stopped a read counts as tried", of so many that were to be moved
abbrev pub last_tried : ℕ → ℕ → ℕ
last_tried moved count = min moved (count - 1)
