-- What is said of lists and their ranges is decided, so that definitions elsewhere can go by cases on it.
-- Each is a conjunction of comparisons, and of one for every element.
use Prim.Native.Nat.{ℕ, ◌*◌, ◌%◌}
use mathlib.Core.List.{List}
use mathlib.Core.Logic.Dec
use native.Mathlib.Decide.{dec_le, dec_lt, map_dec, ℕ_discrete}
use Rattle.wire.proofs.Decided.{all?, in_memory?}
use Rattle.memory.specs.Scan.{GoodCount}
use Rattle.memory.specs.Lists.{ListGood, Ranges, element_of, total}

good_count? : (bytes : ℕ) → Dec (GoodCount bytes)
good_count? bytes = Dec.and (dec_lt 0 bytes) (ℕ_discrete (bytes % 2) 0)

pub list_good? : (host : List ℕ) (at elements bytes : ℕ) → Dec (ListGood host at elements bytes)
list_good? host at elements bytes =
    map_dec
    (λ d. record { some = d.0; most = d.1.0; place = d.1.1.0; counts = d.1.1.1.0; sum = d.1.1.1.1 })
    (λ l. (l.some, (l.most, (l.place, (l.counts, l.sum)))))
    (Dec.and (dec_le 1 elements)
    (Dec.and (dec_le elements 64)
    (Dec.and (in_memory? host at (8 * elements))
    (Dec.and
    (all? _ (λ i. good_count? (element_of host at i).bytes) elements)
    (ℕ_discrete (total host at elements) bytes)))))

pub ranges? : (host : List ℕ) (at n : ℕ) → Dec (Ranges host at n)
ranges? host at n = all? _ (λ i. in_memory? host (element_of host at i).address (element_of host at i).bytes) n
