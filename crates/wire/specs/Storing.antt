-- Words and bytes stored in a list of bytes.
use Rattle.std.specs.Prelude.{ℕ, zero, suc, ◌+◌, ◌/◌, ◌%◌, List, [], ◌∷◌, set}
use Rattle.std.proofs.lemmas.List.Edits.{sets}

-- The bytes once the last 8 k bits of v stand in the k bytes from `at` on, the first of them the most significant.
unfoldable pub stored : ℕ → List ℕ → ℕ → ℕ → List ℕ
stored zero bytes at v = bytes
stored (suc k) bytes at v = set (stored k bytes at (v / 256)) (at + k) (v % 256)

abbrev pub with16 : List ℕ → ℕ → ℕ → List ℕ
with16 bytes at v = stored 2 bytes at v

abbrev pub with32 : List ℕ → ℕ → ℕ → List ℕ
with32 bytes at v = stored 4 bytes at v

-- Bytes once some numbers are stored in them one after the other, from an index on.
unfoldable pub written : List ℕ → ℕ → List ℕ → List ℕ
written bytes at ns = sets bytes at ns

-- The two bytes of a number, the first of them the most significant.
abbrev pub two_bytes : ℕ → List ℕ
two_bytes n = n / 256 % 256 ∷ n % 256 ∷ []
