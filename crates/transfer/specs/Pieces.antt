-- The host side of a transfer (01, One run: "through the elements joined in list order"). Bytes and pieces are counted from 0.
use Rattle.std.specs.Prelude.{ℕ, zero, suc, ◌+◌, ◌-◌}
use Rattle.std.proofs.Math.Logic.{ite}
use Rattle.std.proofs.Math.Decide.{dec_lt}

-- The index in host memory of byte k of n pieces from the i-th on, joined in their order: in the i-th, where that reaches so far,
-- or in those after it.
unfoldable pub joined : (bytes address : ℕ → ℕ) → (n i k : ℕ) → ℕ
joined bytes address zero i k = 0
joined bytes address (suc n) i k =
    ite (dec_lt k (bytes i)) (address i + k) (joined bytes address n (suc i) (k - bytes i))
