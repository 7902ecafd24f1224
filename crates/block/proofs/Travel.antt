-- A travel lies between -4,095 and 4,095, and different travels have different bits in the entry.
-- Upwards it is a difference of two cylinders, downwards the same below zero; a number that 32 bits hold is read back from them.
use Prim.Native.Nat.{ℕ, zero, suc, ◌-◌, ◌≤◌, ◌<◌}
use mathlib.Core.Logic.{by_cases}
use mathlib.Core.Path.{◌≡◌}
use native.Mathlib.Decide.{dec_lt}
use native.Mathlib.Nat.{add-zero, sub-zero}
use native.Mathlib.Omega.{arith}
use borrow.Author.Tests.{le-ltb, lt-ltb}
use lib.Dec.{le→leb, leb→le}
use lib.IntN.{ℤ, pos, negsuc, nat_abs}
use mir.Syntax.{w32}
use mir.Val.{SFits}
use Rattle.block.specs.Tells.{InRange}
use Rattle.block.specs.Events.{travel_to, twos_complement}
use Rattle.block.proofs.Complement.{complements_differ}

upwards : (old new : ℕ) → old ≤ new → travel_to old new ≡ pos (new - old)
upwards zero new h = rw (add-zero, sub-zero)
upwards (suc old) new h = rw (le-ltb new (suc old) h)

downwards : (old new : ℕ) → new < old → travel_to old new ≡ negsuc (old - suc new)
downwards zero new h = absurd (omega arith)
downwards (suc old) new h = rw (lt-ltb new (suc old) h)

-- Two cylinders below a limit are less than the limit apart.
pub apart : (limit old new : ℕ) → old < limit → new < limit → nat_abs (travel_to old new) < limit
apart limit old new o n =
    by_cases (dec_lt new old) (λ down. rw (downwards old new down) (omega arith))
    (λ up. rw (upwards old new (omega arith)) (omega arith))

in_range : (z : ℤ) → nat_abs z < 4096 → InRange z
in_range (pos n) h = (record { le = tt }, record { le = le→leb n 4095 (omega arith) })
in_range (negsuc n) h = (record { le = le→leb n 4094 (omega arith) }, record { le = tt })

pub travel_in_range : (old new : ℕ) → old < 4096 → new < 4096 → InRange (travel_to old new)
travel_in_range old new o n = in_range (travel_to old new) (apart 4096 old new o n)

in_32_bits : (z : ℤ) → InRange z → SFits w32 z
in_32_bits (pos n) r = record { sfits = omega (arith, leb→le n 4095 r.1.le) }
in_32_bits (negsuc n) r = record { sfits = omega (arith, leb→le n 4094 r.0.le) }

pub travels_differ : (s t : ℤ) → InRange s → InRange t → (s ≡ t → ⊥) → twos_complement s ≡ twos_complement t → ⊥
travels_differ s t s-in t-in differ same =
    differ (complements_differ s t (in_32_bits s s-in) (in_32_bits t t-in) same)
