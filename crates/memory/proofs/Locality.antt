-- What is found of a list depends on the list's own bytes and on how long the memory is, and on nothing else.
-- Elements that agree byte for byte are equal, and so is all that is made of them.
use Prim.Native.Nat.{ℕ, zero, suc, ◌+◌, ◌*◌, ◌≤◌, ◌<◌}
use mathlib.Core.List.{List}
use mathlib.Core.Path.{◌≡◌, refl, sym, ap₂, subst, ◌∙◌}
use native.Mathlib.Omega.{arith}
use lib.ListN.{get_or, length}
use Rattle.memory.specs.declared.Element.{Element}
use Rattle.wire.specs.Among.{Among}
use Rattle.wire.specs.Memory.{InMemory}
use Rattle.wire.proofs.Laws.{word_same}
use Rattle.wire.proofs.Memory.{range_same}
use Rattle.memory.specs.Scan.{GoodCount}
use Rattle.memory.specs.Lists.{ListGood, Ranges, element_of, total}

module _ (h k : List ℕ) (at n : ℕ) (alike : (x : ℕ) → Among at (8 * n) x → get_or h x 0 ≡ get_or k x 0) where
  pub element_same : (i : ℕ) → i < n → element_of h at i ≡ element_of k at i
  element_same i i< =
      let p : ℕ = at + 8 * i in
      let bytes = word_same 2 h k p p (λ x x<. alike (p + x) (omega arith)) in
      let address = word_same 4 h k (p + 2) (p + 2) (λ x x<. alike (p + 2 + x) (omega arith)) in
      let type = alike (p + 6) (omega arith) in
      let modifier = alike (p + 7) (omega arith) in
      λ j. record { bytes = bytes j; address = address j; memory_type = type j; modifier = modifier j }

  pub total_same : (i : ℕ) → i ≤ n → total h at i ≡ total k at i
  unfolding total
  total_same zero i≤ = refl
  total_same (suc i) i≤ = ap₂ (λ (t : ℕ) (e : Element). t + e.bytes) (total_same i (omega arith)) (element_same i i≤)

  pub ranges_same : length h ≡ length k → Ranges h at n → Ranges k at n
  ranges_same long all i i< =
      subst (λ (e : Element). InMemory k e.address e.bytes) (element_same i i<)
      (range_same h k (element_of h at i).address (element_of h at i).bytes long (all i i<))

  pub list_same : (bytes : ℕ) → length h ≡ length k → ListGood h at n bytes → ListGood k at n bytes
  list_same bytes long l =
      record {
        some = l.some;
        most = l.most;
        place = range_same h k at (8 * n) long l.place;
        counts = λ i i<. subst (λ (e : Element). GoodCount e.bytes) (element_same i i<) (l.counts i i<);
        sum = sym (total_same n (omega arith)) ∙ l.sum;
      }
