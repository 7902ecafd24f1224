-- The pieces of a list, copied out beside the verdict (01, One run: "lists and UIB having been read" before 81 is stored).
use Rattle.std.specs.Prelude.{ℕ, zero, suc, List, replicate, set}
use Rattle.std.proofs.Math.Logic.{ite}
use Rattle.memory.specs.declared.Pieces.{Pieces}
use Rattle.memory.specs.Lists.{element_of}
use Rattle.memory.specs.Readable.{list_place?}

-- 64 slots, of which the first n hold the byte counts, or the addresses, of a list's first n elements, and the others 0.
unfoldable pub lengths_of : List ℕ → ℕ → ℕ → List ℕ
lengths_of host at zero = replicate 64 0
lengths_of host at (suc n) = set (lengths_of host at n) n (element_of host at n).bytes

unfoldable pub addresses_of : List ℕ → ℕ → ℕ → List ℕ
addresses_of host at zero = replicate 64 0
addresses_of host at (suc n) = set (addresses_of host at n) n (element_of host at n).address

abbrev pub filled : List ℕ → ℕ → ℕ → Pieces
filled host at n = record { lengths = lengths_of host at n; addresses = addresses_of host at n }

-- The pieces of a list that can be read, and none of any other.
unfoldable pub pieces_of : List ℕ → ℕ → ℕ → Pieces
pieces_of host at n = ite (list_place? host at n) (filled host at n) (filled host 0 0)
