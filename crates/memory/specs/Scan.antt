-- What one pass over a list finds, between the code and the checks 18 and 19.
use Rattle.std.specs.Prelude.{ℕ, ◌%◌, ◌<◌, List, ◌≡◌, Result, Ok, Err}
use Rattle.answers.specs.declared.Refusal.{Refusal}
use Rattle.answers.specs.declared.Refusal.TheVariants.{ListBad, DataMisplaced}
use Rattle.memory.specs.declared.ListFault.{ListFault}
use Rattle.memory.specs.declared.ListFault.TheVariants.{Bad, RangeBad}
use Rattle.memory.specs.declared.Seen.{Seen}
use Rattle.memory.specs.Lists.{ListGood, Ranges, element_of, total}
use Rattle.wire.specs.Promise.{Says}

-- "a byte count 0 or odd": it is neither.
abbrev pub GoodCount : ℕ → Type 0
GoodCount bytes = (0 < bytes) × (bytes % 2 ≡ 0)

abbrev pub Counts : List ℕ → ℕ → ℕ → Type 0
Counts host at n = (i : ℕ) → i < n → GoodCount (element_of host at i).bytes

pub record Scanned (host : List ℕ) (at n : ℕ) (s : Seen) : Type 0 where
  pub counts : Says s.counts (Counts host at n)
  pub ranges : Says s.ranges (Ranges host at n)
  pub sum : s.sum ≡ total host at n

-- The check that refuses such a list: 18, or 19.
abbrev pub refusal_of : ListFault → Refusal
refusal_of Bad = ListBad
refusal_of RangeBad = DataMisplaced

-- The two checks of a list, in their order.
abbrev pub Listing : List ℕ → ℕ → ℕ → ℕ → Result (Unit {0}) ListFault → Type 0
Listing host at n bytes (Err Bad) = ListGood host at n bytes → ⊥
Listing host at n bytes (Err RangeBad) = ListGood host at n bytes × (Ranges host at n → ⊥)
Listing host at n bytes (Ok _) = ListGood host at n bytes × Ranges host at n
