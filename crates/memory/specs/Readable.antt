-- A list that can be read: no more elements than there are slots, at an even address, wholly in host memory.
use Rattle.std.specs.Prelude.{ℕ, ◌*◌, ◌≤◌, List}
use Rattle.std.proofs.Math.Logic.Dec.{and as dec_and}
use Rattle.std.proofs.Math.Decide.{dec_le, map_dec}
use Rattle.wire.proofs.Decided.{in_memory?}
use Rattle.wire.specs.Memory.{InMemory}

pub record ListPlace (host : List ℕ) (at n : ℕ) : Type 0 where
  pub most : n ≤ 64
  pub place : InMemory host at (8 * n)

pub list_place? : (host : List ℕ) (at n : ℕ) → Dec (ListPlace host at n)
list_place? host at n =
    map_dec (λ d. record { most = d.0; place = d.1 }) (λ p. (p.most, p.place))
    (dec_and (dec_le n 64) (in_memory? host at (8 * n)))
