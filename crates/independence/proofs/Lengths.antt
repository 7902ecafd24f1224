-- Whether judging a block reads its UIB, and which list it reads, goes by the length of host memory and by no byte of it.
-- What an 87 asks looks at the place of its UIB before it looks at its bytes; what the others ask looks at no byte, and neither do the
-- checks before a list.
use Rattle.std.proofs.Common.{Option, Some}
use Prim.Native.Nat.{ℕ, ◌*◌}
use mathlib.Core.List.{List}
use mathlib.Core.Logic.{by_cases}
use mathlib.Core.Path.{◌≡◌, refl, sym, ◌∙◌, subst}
use native.Mathlib.Decide.{ℕ_discrete}
use lib.ListN.{length}
use Rattle.wire.proofs.Decided.{in_memory?}
use Rattle.wire.proofs.Memory.{range_same}
use Rattle.wire.proofs.Promises.{never}
use Rattle.answers.specs.declared.Refusal.TheVariants.{ListBad}
use Rattle.request.specs.declared.Buffer.TheVariants.{List as Elements}
use Rattle.request.specs.declared.Move.{Move}
use Rattle.request.specs.declared.Task.{Task}
use Rattle.request.specs.declared.Task.TheVariants.{Move as Moves, Initialize}
use Rattle.iopb.specs.declared.Block.{Block}
use Rattle.iopb.specs.Ask.{shape_at, task_of}
use Rattle.iopb.proofs.Answers.{shape_at_inside, shape_at_outside}
use Rattle.iopb.proofs.Locality.{asked_by_87, task_apart}
use Rattle.judge.specs.Given.{Asked, on}
use Rattle.judge.proofs.Locality.{placed_uib_read, read_uib_placed}
use Rattle.geometry.specs.declared.Geometry.{Geometry}
use Rattle.iopb.specs.Layout.{uib_at}
use Rattle.judge.specs.Reads.{InList, InUib}
use Rattle.unit.specs.declared.Controller.{Controller}
use Rattle.unit.specs.Standing.{UnitRecord}
use Rattle.judge.specs.Passed.{NoneGiven, before, checks}

no_shape_moves : {s : Option Geometry} {m : Move} → Initialize s ≡ Moves m → ⊥
no_shape_moves e = never cc

module _ (by : Controller) (h k : List ℕ) (long : length h ≡ length k) (u : UnitRecord) (image : ℕ) where
  -- The checks before 18, of the same task.
  before_list_alike :
      (t : Task) (m : Move) (at n : ℕ) → t ≡ Moves m → m.buffer ≡ Elements at n → NoneGiven (before ListBad (checks (on by u image t h))) →
      NoneGiven (before ListBad (checks (on by u image t k)))
  before_list_alike t m at n asks buffer passed = rw (asks, buffer) (rw (asks, buffer) at passed)

  -- A UIB that is where it can be read in one memory is so in the other.
  placed_alike : (at : ℕ) (g : Geometry) → shape_at h at ≡ Some g → shape_at k at ≡ Some (uib_at k at)
  placed_alike at g given =
      by_cases (in_memory? h at 18) (λ place. shape_at_inside k at (range_same h k at 18 long place))
      (λ out. absurd (never (cc (shape_at_outside h at out, given))))

  module _ (b : Block) where
    abbrev in_h : Asked
    in_h = on by u image (task_of h b) h

    abbrev in_k : Asked
    in_k = on by u image (task_of k b) k

    pub list_read_alike : (x : ℕ) → InList in_h x → InList in_k x
    list_read_alike x l =
        let same = task_apart h k b (λ is. no_shape_moves (sym (asked_by_87 h b is) ∙ l.asks)) in
        record {
          move = l.move;
          asks = sym same ∙ l.asks;
          at = l.at;
          elements = l.elements;
          buffer = l.buffer;
          passed =
              subst (λ t. NoneGiven (before ListBad (checks (on by u image t k)))) same
              (before_list_alike (task_of h b) l.move l.at l.elements l.asks l.buffer l.passed);
          some = l.some;
          most = l.most;
          place = range_same h k l.at (8 * l.elements) long l.place;
          among = l.among;
        }

    pub uib_read_alike : (x : ℕ) → InUib in_h b.address 18 x → InUib in_k b.address 18 x
    uib_read_alike x uib =
        let read = read_uib_placed in_h b.address 18 x uib in
        by_cases (ℕ_discrete b.command 0x87)
        (λ is.
        let given : shape_at h b.address ≡ Some read.0.0 = cc (asked_by_87 h b is, read.0.1) in
        placed_uib_read in_k b.address 18 x _ _ (asked_by_87 k b is) (placed_alike b.address _ given) read.1 uib.among)
        (λ other.
        placed_uib_read in_k b.address 18 x _ _ (sym (task_apart h k b other) ∙ read.0.1) refl read.1 uib.among)
