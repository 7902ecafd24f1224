-- The numbers that the blocks of a run can be told by.
use Rattle.std.specs.Prelude.{ℕ, ◌≤◌, ◌≡◌, Err, Ok}
use Rattle.answers.specs.Numbers.{BlockAnswer, refusal_number}

-- The numbers that a failed block can have. 21 was one of them, and is not used again (02, K13).
abbrev pub OfABlock : ℕ → Type 0
OfABlock n = (10 ≤ n) × (n ≤ 24) × (n ≡ 21 → ⊥)

-- "the failed block's answer number, 10 and up (otherwise 0)" (01, What the board answers for)
abbrev pub block_number : BlockAnswer → ℕ
block_number (Ok _) = 0
block_number (Err r) = refusal_number r
