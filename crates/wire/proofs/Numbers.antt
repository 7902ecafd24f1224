-- A product of bounded numbers is bounded by the product of the bounds.
-- The bound on that product is a comparison of numerals, which antt computes.
use Prim.Native.Nat.{ℕ, ◌*◌, ◌<◌, ◌≤◌}
use native.Mathlib.Nat.{lt_of_le_of_lt, mul-le-mul}
use lib.Dec.{T, ltb, ltb→lt}

pub product_below : (a b m n k : ℕ) → a ≤ m → b ≤ n → T (ltb (m * n) k) → a * b < k
product_below a b m n k ha hb t = lt_of_le_of_lt (mul-le-mul ha hb) (ltb→lt (m * n) k t)
