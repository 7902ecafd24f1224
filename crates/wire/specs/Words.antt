-- Big-endian words in a list of bytes (01, The block: "fourteen big-endian words"), at any width.
use Rattle.std.specs.Prelude.{ℕ, zero, suc, ◌+◌, ◌*◌, ◌/◌, ◌%◌, List, [], ◌∷◌, get_or}

-- The number that the k bytes from `at` on make, the first of them the most significant. A byte past the list's end counts 0.
unfoldable pub word : ℕ → List ℕ → ℕ → ℕ
word zero bytes at = 0
word (suc k) bytes at = word k bytes at * 256 + get_or bytes (at + k) 0

abbrev pub be16 : List ℕ → ℕ → ℕ
be16 bytes at = word 2 bytes at

abbrev pub be32 : List ℕ → ℕ → ℕ
be32 bytes at = word 4 bytes at

-- The four bytes of a number, the first of them the most significant.
abbrev pub four_bytes : ℕ → List ℕ
four_bytes n = n / 256 / 256 / 256 % 256 ∷ n / 256 / 256 % 256 ∷ n / 256 % 256 ∷ n % 256 ∷ []
