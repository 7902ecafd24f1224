-- The copy of a run of bytes from one list into another.
use Rattle.std.specs.Prelude.{ℕ, List, drop}
use Rattle.std.proofs.Math.Seq.{paste}

-- `into`, with its n bytes from `to` on replaced by the n bytes of `bytes` from `from` on.
abbrev pub copied : List ℕ → ℕ → List ℕ → ℕ → ℕ → List ℕ
copied bytes from into to n = paste into to (drop from bytes) n
