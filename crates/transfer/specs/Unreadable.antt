-- Answer 20 by the marks (01, One run and Answer number 20: "unreadable sector, DE clear; earlier sectors moved"): none of it asks how far a transfer
-- comes.
use Rattle.std.specs.Prelude.{ℕ, ◌<◌, true, List, ◌≡◌, get_or}
use Rattle.geometry.specs.Sectors.{mark_byte}
use Rattle.transfer.specs.Data.{Transfer}

-- The mark of sector j of a transfer: "0 good, any other unreadable" (01, Geometry).
abbrev pub mark_of : List ℕ → Transfer → ℕ → ℕ
mark_of image t j = get_or image (mark_byte t.geometry (t.place j)) 0

-- The transfer heeds the marks, and one of its sectors is unreadable.
pub record MeetsUnreadable (image : List ℕ) (t : Transfer) : Type 0 where
  pub heeds : t.heeds ≡ true
  pub sector : ℕ
  pub there : sector < t.count
  pub bad : mark_of image t sector ≡ 0 → ⊥

-- Sector j is the first such: "they stop before that sector".
pub record StopsBefore (image : List ℕ) (t : Transfer) (j : ℕ) : Type 0 where
  pub heeds : t.heeds ≡ true
  pub there : j < t.count
  pub bad : mark_of image t j ≡ 0 → ⊥
  pub good : (i : ℕ) → i < j → mark_of image t i ≡ 0
