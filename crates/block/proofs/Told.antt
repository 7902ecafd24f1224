-- Word 1 and the entry that a block leaves are those of its own answer, and the entry of a refused block says travel 0.
-- They are stored last, and each byte of a row stands where it was stored.
use Rattle.judge.specs.declared.Plan.{Plan}
use Rattle.std.proofs.Common.{Err, Result}
use Prim.Native.Nat.{ℕ, ◌+◌, ◌*◌, ◌≤◌, ◌<◌}
use mathlib.Core.List.{List, [], ◌∷◌, ◌++◌}
use mathlib.Core.Path.{◌≡◌, refl, sym, ap, ◌∙◌}
use native.Mathlib.Omega.{arith}
use lib.IntN.{ℤ, pos}
use lib.ListN.{get_or, length, length-append, take, get_or-append}
use lib.Seq.{get_or-append-add, length-take-le, sets, sets-eq}
use Rattle.answers.specs.Numbers.{BlockAnswer, status_of}
use Rattle.answers.specs.declared.Refusal.{Refusal}
use Rattle.iopb.specs.Ask.{task_of}
use Rattle.iopb.specs.declared.Block.{Block}
use Rattle.iopb.specs.Errors.{error_byte}
use Rattle.iopb.specs.Layout.{block_at}
use Rattle.judge.specs.Given.{on}
use Rattle.judge.specs.Verdict.{verdict}
use Rattle.transfer.specs.Stores.{Buffers, after}
use Rattle.transfer.proofs.Stays.{lengths_stay}
use Rattle.transfer.proofs.Stores.{after_append}
use Rattle.unit.specs.declared.Controller.{Controller}
use Rattle.block.specs.Block.{Drive, effect_on, finish}
use Rattle.block.specs.Events.{entry, twos_complement}
use Rattle.block.specs.Steps.{BlockRoom, Performance, acted_on, three}
use Rattle.block.specs.Tells.{Tells}
use Rattle.block.proofs.Effects.{effect_finished, effect_judged, finish_leaves}
use Rattle.wire.specs.Words.{four_bytes}
use Rattle.wire.specs.Storing.{written}

-- Numbers stored in a row stand there in their order.
pub row_stands : (ns l : List ℕ) (at k : ℕ) → at + length ns ≤ length l → k < length ns → get_or (sets l at ns) (at + k) 0 ≡ get_or ns k 0
row_stands ns l at k fits less =
    let short = length-take-le at l (omega arith) in
    rw (sets-eq ns l at fits)
    (get_or-append (take at l ++ ns) _ 0 (at + k) (omega (arith, short, length-append (take at l) ns)) ∙
    ap (λ (n : ℕ). get_or (take at l ++ ns) (n + k) 0) (sym short) ∙ get_or-append-add (take at l) ns k 0)

-- After the finish.
finish_tells :
    (b : Block) (at i : ℕ) (answer : BlockAnswer) (travel : ℤ) (host image events : List ℕ) → BlockRoom host events at i →
    Tells b at i answer travel (after (finish b at i answer travel) (three host image events))
unfolding written
finish_tells b at i answer travel host image events room =
    rw (finish_leaves b at i answer travel host image events)
    (record {
      status = word 0 _ (omega arith) (omega arith);
      error = word 1 _ (omega arith) (omega arith);
      entry_status = row 0 _ (omega arith) (omega arith);
      entry_error = row 1 _ (omega arith) (omega arith);
      entry_level = row 2 _ (omega arith) (omega arith);
      entry_vector = row 3 _ (omega arith) (omega arith);
      entry_travel = λ k k<. row (4 + k) _ (omega arith) (omega arith) ∙ get_or-append-add (take 4 (entry b answer travel)) (four_bytes (twos_complement travel)) k 0;
    })
  where
    word : (k x : ℕ) → x ≡ at + 2 + k → k < 2 → get_or (sets host (at + 2) (status_of answer ∷ error_byte answer ∷ [])) x 0 ≡ get_or (status_of answer ∷ error_byte answer ∷ []) k 0
    word k x here less = rw here (row_stands (status_of answer ∷ error_byte answer ∷ []) host (at + 2) k (omega (arith, room.block)) less)

    row : (k x : ℕ) → x ≡ 8 * i + k → k < 8 → get_or (sets events (8 * i) (entry b answer travel)) x 0 ≡ get_or (entry b answer travel) k 0
    row k x here less = rw here (row_stands (entry b answer travel) events (8 * i) k (omega (arith, room.entry)) less)

module _ (host : List ℕ) (d : Drive) (at i : ℕ) (events : List ℕ) (room : BlockRoom host events at i) where
  -- After what was performed, whatever that is, and the finish.
  finished_tells :
      (p : Performance) →
      Tells (block_at host at) at i p.answer p.travel
      (after (p.stores ++ finish (block_at host at) at i p.answer p.travel) (three host d.image events))
  finished_tells p =
      let b = block_at host at in
      let m = three host d.image events in
      let n = after p.stores m in
      let long = lengths_stay p.stores m in
      rw (after_append p.stores (finish b at i p.answer p.travel) m)
      (finish_tells b at i p.answer p.travel n.host n.image n.events
      (record { block = omega (arith, room.block, long.0); entry = omega (arith, room.entry, long.1.1) }))

  module _ (c : Controller) where
    -- How the block was judged, what performing it came to, and what is left.
    abbrev judgement : Result Plan Refusal
    judgement = verdict (on c d.unit (length d.image) (task_of host (block_at host at)) host)

    abbrev performance : Performance
    performance = acted_on host d at judgement

    abbrev left : Buffers
    left = after (effect_on c host d at i).stores (three host d.image events)

    -- Whatever the block did: its word 1 and its entry have the status and the error of its own answer.
    pub its_answer_is_told : Tells (block_at host at) at i (effect_on c host d at i).answer performance.travel left
    its_answer_is_told = rw (effect_finished c host d at i) (finished_tells performance)

    -- Of a block refused before transfer: its answer is that of the refusal, and travel is zero.
    pub refusal_is_told : (r : Refusal) → judgement ≡ Err r → Tells (block_at host at) at i (Err r) (pos 0) left
    refusal_is_told r refused =
        rw (effect_judged c host d at i (block_at host at) (Err r) refl refused) (finished_tells (acted_on host d at (Err r)))
