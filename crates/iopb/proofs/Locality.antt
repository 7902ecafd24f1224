-- What a block asks looks at the memory for command 87 alone, and there only at the UIB's place and its 18 bytes.
-- So two memories of one length that agree on these bytes, where they can be read, have it ask the same.
use Rattle.std.proofs.Common.{Some}
use Prim.Native.Nat.{ℕ, ◌+◌, ◌<◌}
use mathlib.Core.List.{List}
use mathlib.Core.Logic.{by_cases}
use mathlib.Core.Path.{◌≡◌, sym, ap, ◌∙◌}
use native.Mathlib.Omega.{arith}
use borrow.Author.Tests.{ne_eqb}
use lib.ListN.{get_or, length}
use Rattle.geometry.specs.Drive.{geometry_of, volume_of, with_increment}
use Rattle.request.specs.declared.Task.{Task}
use Rattle.wire.proofs.Decided.{in_memory?}
use Rattle.wire.specs.Among.{Among}
use Rattle.wire.specs.Memory.{InMemory}
use Rattle.wire.proofs.Laws.{word_same}
use Rattle.wire.proofs.Memory.{range_same}
use Rattle.iopb.specs.declared.Block.{Block}
use Rattle.iopb.specs.Ask.{shape_at, task_of}
use Rattle.iopb.specs.Layout.{bit, uib_at}
use Rattle.iopb.proofs.Answers.{shape_at_inside, shape_at_outside}

module _ (h k : List ℕ) (long : length h ≡ length k) where
  uib_same : (at : ℕ) → ((x : ℕ) → Among at 18 x → get_or h x 0 ≡ get_or k x 0) → uib_at h at ≡ uib_at k at
  uib_same at alike =
      let byte : (j : ℕ) → j < 18 → get_or h (at + j) 0 ≡ get_or k (at + j) 0 = λ j j<. alike (at + j) (omega arith) in
      let first = alike at (omega arith) in
      let low = word_same 2 h k (at + 6) (at + 6) (λ x x<. alike (at + 6 + x) (omega arith)) in
      let high = word_same 2 h k (at + 12) (at + 12) (λ x x<. alike (at + 12 + x) (omega arith)) in
      λ i.
      with_increment (bit 2 (byte 14 (omega arith) i))
      (geometry_of (high i) (byte 4 (omega arith) i) (low i) (volume_of (first i) (byte 1 (omega arith) i))
      (volume_of (byte 2 (omega arith) i) (byte 3 (omega arith) i)))

  pub shape_local :
      (at : ℕ) → (InMemory h at 18 → (x : ℕ) → Among at 18 x → get_or h x 0 ≡ get_or k x 0) → shape_at h at ≡ shape_at k at
  shape_local at alike =
      by_cases (in_memory? h at 18)
      (λ place.
      shape_at_inside h at place
      ∙ ap Some (uib_same at (alike place))
      ∙ sym (shape_at_inside k at (range_same h k at 18 long place)))
      (λ out. shape_at_outside h at out ∙ sym (shape_at_outside k at (λ place. out (range_same k h at 18 (sym long) place))))

-- An 87 asks with the UIB at its address, and what any other command asks is the same in all memories.
pub asked_by_87 : (h : List ℕ) (b : Block) → b.command ≡ 0x87 → task_of h b ≡ Task.Initialize (shape_at h b.address)
unfolding task_of
asked_by_87 h b is = rw is

pub task_apart : (h k : List ℕ) (b : Block) → (b.command ≡ 0x87 → ⊥) → task_of h b ≡ task_of k b
unfolding task_of
task_apart h k b other = rw (ne_eqb b.command 0x87 other)
