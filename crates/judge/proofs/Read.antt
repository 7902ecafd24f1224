-- What judging a block reads beside its own bytes, by the papers' table: an 87 its UIB, where no line before 13 applies, and an A1 or A2 its list, where none
-- before 18 does. That a task has a UIB or a list tells its command; and of these commands the checks before that number are the table's lines, one by one.
use Rattle.std.proofs.Common.{Some}
use Prim.Native.Nat.{ℕ, ◌*◌, ◌≤◌}
use mathlib.Core.Bool.{true, false}
use mathlib.Core.List.{[], ◌∷◌}
use mathlib.Core.Logic.Iff
use mathlib.Core.Logic.{◌↔◌}
use mathlib.Core.Path.{◌≡◌, refl, sym, subst, ◌∙◌}
use lib.Dec.{T}
use Rattle.answers.specs.declared.Refusal.{Refusal}
use Rattle.iopb.specs.declared.Block.{Block}
use Rattle.iopb.specs.Ask.{move_of, shape_at, task_at, task_of, tasks}
use Rattle.iopb.specs.Layout.{uib_at}
use Rattle.iopb.proofs.Answers.{shape_at_inside, shape_at_outside}
use Rattle.iopb.proofs.Locality.{asked_by_87}
use Rattle.request.specs.declared.Buffer.{Buffer}
use Rattle.request.specs.declared.Buffer.TheVariants.{Piece, List as Elements}
use Rattle.request.specs.declared.Move.{Move}
use Rattle.request.specs.declared.Task.{Task}
use Rattle.request.specs.declared.Task.TheVariants.{Unknown, Move as Moves, Handshake, Initialize, Restore, Seek, Format, Map}
use Rattle.unit.specs.Holding.{held_by_other}
use Rattle.unit.specs.Standing.{holder}
use Rattle.wire.specs.Among.{Among}
use Rattle.wire.specs.Memory.{InMemory}
use Rattle.wire.proofs.Decided.{in_memory?}
use Rattle.wire.proofs.Promises.{never}
use Rattle.judge.specs.Given.{Asked, on}
use Rattle.judge.specs.Passed.{NoneGiven, before, checks}
use Rattle.judge.specs.Reads.{InList, InUib}
use Rattle.judge.specs.Table.{Unanswered, lines_before, listed, one_of, paper}
use Rattle.judge.proofs.Known.{so}
use Rattle.judge.proofs.Locality.{placed_uib_read, read_uib_placed}
use Rattle.judge.proofs.Table.{by_code, lines, no_task, one_of_lem, outside}

-- ---- lines and checks, of which none is given

-- A line that does not apply, beside no check; and a check and a line of one case, whatever comes after them.
beside : {X N U : Type 0} → (X → ⊥) → N ↔ U → N ↔ ((X → ⊥) × U)
beside out rest = (λ n. (out, rest.0 n), λ u. rest.1 u.1)

other : {G N U : Type 0} → N ↔ U → N ↔ (((⊥ × G) → ⊥) × U)
other rest = beside (λ x. x.0) rest

alike : {G H N U : Type 0} → G ↔ H → N ↔ U → ((G → ⊥) × N) ↔ (((Unit {0} × H) → ⊥) × U)
alike case rest = (λ n. (λ x. n.0 (case.1 x.1), rest.0 n.1), λ u. (λ g. u.0 (tt, case.0 g), rest.1 u.1))

same : {G N U : Type 0} → N ↔ U → ((G → ⊥) × N) ↔ (((Unit {0} × G) → ⊥) × U)
same rest = alike Iff.rfl rest

module _ (b : Block) (a : Asked) where
  -- ---- the command of a task

  -- A list is that of an A1 or A2, at the block's address and of its elements; a UIB is that of an 87.
  abbrev Lists : ℕ → Buffer → Type 0
  Lists c (Piece at) = Unit {0}
  Lists c (Elements at n) = T (one_of c (0xa1 ∷ 0xa2 ∷ [])) × (Elements at n ≡ Elements b.address b.elements)

  abbrev Tells : ℕ → Task → Type 0
  Tells c Unknown = Unit {0}
  Tells c (Moves m) = Lists c m.buffer
  Tells c Handshake = Unit {0}
  Tells c (Initialize s) = c ≡ 0x87
  Tells c Restore = Unit {0}
  Tells c (Seek t) = Unit {0}
  Tells c (Format k) = Unit {0}
  Tells c (Map k) = Unit {0}

  tells : Tells b.command (task_of a.host b)
  unfolding task_of
  tells =
      by_code (λ c. Tells c (task_at c (tasks a.host b))) b.command listed
      (tt, (tt, (tt, (refl, (tt, (tt, (tt, ((tt, refl), ((tt, refl), (tt, tt)))))))))) (λ none. rw (no_task b.command (tasks a.host b) none) tt)

  -- ---- the lines before a number, for a command in place of the block's

  abbrev Passes : ℕ → ℕ → Type 0
  Passes n c = Unanswered c (lines_before n (lines b a c))

  -- A UIB: of an 87 these lines say that no other holds the drive, and that the UIB lies in memory.
  of_87 : Passes 13 0x87 ↔ ((T (held_by_other a.controller (holder a.unit)) → ⊥) × InMemory a.host b.address 18)
  of_87 = (
    λ none. (λ held. none.1.0 (tt, held), so (in_memory? a.host b.address 18) (λ out. none.1.1.1.0 (tt, out))),
    λ it. (λ x. x.1, (λ x. it.0 x.1, (λ x. x.0, (λ x. x.1 it.1, tt)))),
  )

  -- A list: of an A1 or A2 they are its checks before 18.
  abbrev AsChecked : ℕ → Task → Type 0
  AsChecked c t = NoneGiven (before Refusal.ListBad (checks (on a.controller a.unit a.image t a.host))) ↔ Passes 18 c

  abbrev Of : ℕ → Type 0
  Of c = AsChecked c (task_at c (tasks a.host b))

  of_A1 : Of 0xa1
  unfolding NoneGiven
  of_A1 = beside (λ x. x.1) (same (same (other (other (same (same (alike (outside b a b.count) (other (other (other (same Iff.rfl)))))))))))

  of_A2 : Of 0xa2
  unfolding NoneGiven
  of_A2 = beside (λ x. x.1) (same (same (other (other (same (same (alike (outside b a b.count) (other (other (other (same Iff.rfl)))))))))))

-- ---- what is read

module _ (b : Block) (a : Asked) (is : a.task ≡ task_of a.host b) (x : ℕ) where
  -- "a UIB that passed check 12"
  pub uib_by_the_table :
      InUib a b.address 18 x ↔ ((b.command ≡ 0x87) × Unanswered b.command (lines_before 13 (paper b a)) × Among b.address 18 x)
  uib_by_the_table = (
    λ uib.
        let read = read_uib_placed a b.address 18 x uib in
        let code : b.command ≡ 0x87 = subst (Tells b a b.command) (sym is ∙ read.0.1) (tells b a) in
        let asks : Initialize (shape_at a.host b.address) ≡ Initialize (Some read.0.0) = sym (asked_by_87 a.host b code) ∙ sym is ∙ read.0.1 in
        let place : InMemory a.host b.address 18 =
        so (in_memory? a.host b.address 18) (λ out. never (cc (shape_at_outside a.host b.address out, asks))) in
        (code, subst (Passes b a 13) (sym code) ((of_87 b a).1 (read.1, place)), uib.among),
    λ it.
        let passed = (of_87 b a).0 (subst (Passes b a 13) it.0 it.1) in
        placed_uib_read a b.address 18 x (shape_at a.host b.address) (uib_at a.host b.address) (is ∙ asked_by_87 a.host b it.0)
        (shape_at_inside a.host b.address passed.1) passed.0 it.2,
  )

  -- A list that can be read, with the byte among it.
  abbrev CanBeRead : Buffer → Type 0
  CanBeRead (Piece at) = ⊥
  CanBeRead (Elements at n) = ((1 ≤ n) × (n ≤ 64)) × InMemory a.host at (8 * n) × Among at (8 * n) x

  module _ (one : T (one_of b.command (0xa1 ∷ 0xa2 ∷ []))) where
    passed_alike : NoneGiven (before Refusal.ListBad (checks a)) ↔ Unanswered b.command (lines_before 18 (paper b a))
    unfolding task_of
    passed_alike =
        subst (AsChecked b a b.command) (sym is) (one_of_lem (Of b a) b.command (0xa1 ∷ 0xa2 ∷ []) (of_A1 b a, (of_A2 b a, tt)) one)

    moves_by_list : (m : Move) × (task_of a.host b ≡ Moves m) × (m.buffer ≡ Elements b.address b.elements)
    unfolding task_of
    moves_by_list =
        one_of_lem (λ code. (m : Move) × (task_at code (tasks a.host b) ≡ Moves m) × (m.buffer ≡ Elements b.address b.elements)) b.command (0xa1 ∷ 0xa2 ∷ [])
        ((move_of b true (Elements b.address b.elements), refl, refl), ((move_of b false (Elements b.address b.elements), refl, refl), tt)) one

  -- "a list of 1 to 64 elements that lies at an even address and in memory, once checks 10 to 17 are passed"
  pub list_by_the_table :
      InList a x ↔
      (T (one_of b.command (0xa1 ∷ 0xa2 ∷ [])) ×
      Unanswered b.command (lines_before 18 (paper b a)) ×
      ((1 ≤ b.elements) × (b.elements ≤ 64)) ×
      InMemory a.host b.address (8 * b.elements) ×
      Among b.address (8 * b.elements) x)
  list_by_the_table = (
    λ list.
        let its : Lists b a b.command (Elements list.at list.elements) =
        subst (Lists b a b.command) list.buffer (subst (Tells b a b.command) (sym is ∙ list.asks) (tells b a)) in
        let read : CanBeRead (Elements b.address b.elements) = subst CanBeRead its.1 ((list.some, list.most), list.place, list.among) in
        (its.0, (passed_alike its.0).0 list.passed, read.0, read.1, read.2),
    λ it.
        let moves = moves_by_list it.0 in
        record {
          move = moves.0;
          asks = is ∙ moves.1;
          at = b.address;
          elements = b.elements;
          buffer = moves.2;
          passed = (passed_alike it.0).1 it.1;
          some = it.2.0;
          most = it.2.1;
          place = it.3;
          among = it.4;
        },
  )
