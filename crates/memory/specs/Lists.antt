-- A list in host memory: its elements, when it is good, and when their ranges are (01, Answer numbers, 18 and 19).
use Rattle.std.specs.Prelude.{ℕ, zero, suc, ◌+◌, ◌*◌, ◌%◌, ◌≤◌, ◌<◌, List, ◌≡◌, get_or}
use Rattle.wire.specs.Memory.{InMemory}
use Rattle.wire.specs.Words.{be16, be32}
use Rattle.memory.specs.declared.Element.{Element}

-- An element is 8 bytes: "byte count (2), address (4), memory type, modifier"
abbrev pub element_at : List ℕ → ℕ → Element
element_at bytes at =
    record {
      bytes = be16 bytes at;
      address = be32 bytes (at + 2);
      memory_type = get_or bytes (at + 6) 0;
      modifier = get_or bytes (at + 7) 0;
    }

-- The i-th element of a list, and the sum of the byte counts of its first n.
abbrev pub element_of : List ℕ → ℕ → ℕ → Element
element_of host at i = element_at host (at + 8 * i)

unfoldable pub total : List ℕ → ℕ → ℕ → ℕ
total host at zero = 0
total host at (suc n) = total host at n + (element_of host at n).bytes

-- A list is good where nothing is so that check 18 refuses: "0 or over 64 elements, list address odd, list not in memory, a byte count 0 or odd, or the
-- sum not count × B".
pub record ListGood (host : List ℕ) (at elements bytes : ℕ) : Type 0 where
  pub some : 1 ≤ elements
  pub most : elements ≤ 64
  pub place : InMemory host at (8 * elements)
  pub counts : (i : ℕ) → i < elements → (0 < (element_of host at i).bytes) × ((element_of host at i).bytes % 2 ≡ 0)
  pub sum : total host at elements ≡ bytes

-- The range of each element lies in host memory: check 19 refuses "a data address odd or its range not in host memory".
abbrev pub Ranges : List ℕ → ℕ → ℕ → Type 0
Ranges host at n = (i : ℕ) → i < n → InMemory host (element_of host at i).address (element_of host at i).bytes
