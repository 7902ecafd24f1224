-- What it is to lie in host memory.
use Rattle.std.specs.Prelude.{ℕ, ◌+◌, ◌%◌, ◌≤◌, List, ◌≡◌, length}

-- An even address from which so many bytes lie wholly in host memory (01, Answer numbers: 3, 5, 12, 18 and 19 all ask this).
pub record InMemory (host : List ℕ) (at bytes : ℕ) : Type 0 where
  pub even : at % 2 ≡ 0
  pub inside : at + bytes ≤ length host
