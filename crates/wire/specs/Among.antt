-- A byte among those of a range, as the statements about bytes that are read and written say it.
use Rattle.std.specs.Prelude.{ℕ, ◌+◌, ◌≤◌, ◌<◌}

-- x is one of the n bytes from `at` on.
abbrev pub Among : ℕ → ℕ → ℕ → Type 0
Among at n x = (at ≤ x) × (x < at + n)
