-- A bit of a number, as the code tests it: what a mask leaves is not 0 where the bit is 1.
-- The mask of one bit leaves the bit's own power of two, or nothing.
use Prim.Native.Nat.{ℕ, zero, suc, ◌*◌, ◌^◌, ◌<◌}
use mathlib.Core.Bool.{not}
use mathlib.Core.Path.{◌≡◌, refl}
use native.Mathlib.Nat.{zero-mul, one-mul}
use native.Mathlib.Omega.{arith}
use borrow.Author.Tests.{ne_eqb}
use lib.Bits.{bit_and}
use lib.Dec.{eqb}
use Rattle.std.proofs.lemmas.Nat.Bits.{and_pow, bit_at-lt}
use Rattle.iopb.specs.Layout.{bit}

of_two : (b m : ℕ) → b < 2 → 0 < m → not (eqb (b * m) 0) ≡ eqb b 1
of_two zero m less some = rw zero-mul refl
of_two (suc zero) m less some = rw (one-mul, ne_eqb m 0 (λ none. omega arith)) refl
of_two (suc (suc b)) m less some = absurd (omega arith)

pub bit_by_mask : (k x : ℕ) → 0 < 2 ^ k → not (eqb (bit_and x (2 ^ k)) 0) ≡ bit k x
bit_by_mask k x some = rw and_pow (of_two _ _ (bit_at-lt x k) some)
