-- Two host memories of one length that agree on the bytes of a list that is read: the checks of a buffer are given alike in both.
-- A range looks at the memory's length alone, and a list is looked at only where it is read.
use Rattle.std.proofs.Common.{Err}
use Prim.Native.Nat.{ℕ, ◌*◌}
use mathlib.Core.List.{List, [], ◌∷◌, ◌++◌}
use mathlib.Core.Logic.{◌↔◌, by_cases}
use mathlib.Core.Path.{◌≡◌, refl, sym, ap, subst, ◌∙◌}
use lib.ListN.{get_or, length}
use Rattle.answers.specs.declared.Refusal.{Refusal}
use Rattle.memory.specs.Lists.{ListGood}
use Rattle.memory.proofs.Decided.{list_good?}
use Rattle.memory.proofs.Locality.{list_same, ranges_same}
use Rattle.request.specs.declared.Buffer.{Buffer}
use Rattle.request.specs.declared.Buffer.TheVariants.{Piece, List as Elements}
use Rattle.request.specs.declared.Move.{Move}
use Rattle.request.specs.declared.Task.{Task}
use Rattle.request.specs.declared.Task.TheVariants.{Move as Moves}
use Rattle.wire.specs.Among.{Among}
use Rattle.wire.proofs.Memory.{range_same}
use Rattle.judge.specs.declared.Plan.{Plan}
use Rattle.judge.specs.Steps.{before_buffer, bytes_of}
use Rattle.judge.specs.Asks.{checks_of, data_misplaced, of_buffer}
use Rattle.judge.specs.Checks.{Check, first}
use Rattle.judge.specs.Given.{Asked, on}
use Rattle.judge.specs.Reads.{InList}
use Rattle.judge.proofs.First.{early, none?, pass, skip, stop}
use Rattle.unit.specs.declared.Controller.{Controller}
use Rattle.unit.specs.Standing.{UnitRecord}
use Rattle.judge.specs.Passed.{NoneGiven, before, checks}

-- ---- two lists of checks

-- The same checks, and then what gives the same where none of those is given.
pub after_the_same :
    (ks ls ms : List Check) (p : Plan) → (NoneGiven ks → first ls p ≡ first ms p) → first (ks ++ ls) p ≡ first (ks ++ ms) p
after_the_same ks ls ms p same =
    by_cases (none? ks) (λ none. pass ks ls p none ∙ same none ∙ sym (pass ks ms p none)) (λ some. early ks ls ms p p some)

-- Two checks with one answer that are given in the same cases.
pub alike_then :
    (k l : Check) (ks ls : List Check) (p : Plan) → k.answer ≡ l.answer → k.Given ↔ l.Given →
    ((k.Given → ⊥) → first ks p ≡ first ls p) → first (k ∷ ks) p ≡ first (l ∷ ls) p
alike_then k l ks ls p answer same rest =
    by_cases k.given?
    (λ given. stop k ks p given ∙ ap Err answer ∙ sym (stop l ls p (same.0 given)))
    (λ out. skip k ks p out ∙ rest out ∙ sym (skip l ls p (λ given. out (same.1 given))))

-- ---- a buffer

-- What comes before check 18 of a transfer through a list.
pub before_list :
    (a : Asked) (m : Move) (at n : ℕ) → a.task ≡ Moves m → m.buffer ≡ Elements at n →
    NoneGiven (before_buffer a m) → NoneGiven (before Refusal.ListBad (checks a))
before_list a m at n asks buffer none =
    subst (λ (t : Task). NoneGiven (before Refusal.ListBad (checks_of a t))) (sym asks)
    (subst (λ (b : Buffer). NoneGiven (before Refusal.ListBad (before_buffer a m ++ of_buffer a b (bytes_of a m)))) (sym buffer) none)

module _ (c : Controller) (u : UnitRecord) (image : ℕ) (h k : List ℕ) (long : length h ≡ length k) where
  pub same_range : (t : Task) (at bytes : ℕ) (p : Plan) → first (data_misplaced (on c u image t h) at bytes ∷ []) p ≡ first (data_misplaced (on c u image t k) at bytes ∷ []) p
  same_range t at bytes p =
      alike_then (data_misplaced (on c u image t h) at bytes) (data_misplaced (on c u image t k) at bytes) [] [] p refl (
        λ out i. out (range_same k h at bytes (sym long) i),
        λ out i. out (range_same h k at bytes long i),
      )
      (λ out. refl)

  module _ (m : Move) (alike : (i : ℕ) → InList (on c u image (Moves m) h) i → get_or h i 0 ≡ get_or k i 0) (passed : NoneGiven (before_buffer (on c u image (Moves m) h) m)) where
    -- The elements of a list that can be read are the same in both.
    same_elements :
        (at n bytes : ℕ) → m.buffer ≡ Elements at n → (host : List ℕ) → length host ≡ length h → ListGood host at n bytes →
        (i : ℕ) → Among at (8 * n) i → get_or h i 0 ≡ get_or k i 0
    same_elements at n bytes is host same l i among =
        alike i
        (record {
          move = m;
          asks = refl;
          at = at;
          elements = n;
          buffer = is;
          passed = before_list (on c u image (Moves m) h) m at n refl is passed;
          some = l.some;
          most = l.most;
          place = range_same host h at (8 * n) same l.place;
          among = among;
        })

    pub same_buffer :
        (b : Buffer) → m.buffer ≡ b → (bytes : ℕ) (p : Plan) →
        first (of_buffer (on c u image (Moves m) h) b bytes) p ≡ first (of_buffer (on c u image (Moves m) k) b bytes) p
    same_buffer (Piece at) is bytes p = same_range (Moves m) at bytes p
    same_buffer (Elements at n) is bytes p =
        alike_then _ _ _ _ p refl (
          λ bad l. bad (list_same k h at n (λ i x. sym (same_elements at n bytes is k (sym long) l i x)) bytes (sym long) l),
          λ bad l. bad (list_same h k at n (λ i x. same_elements at n bytes is h refl l i x) bytes long l),
        )
        (λ good.
        let l : ListGood h at n bytes = by_cases (list_good? h at n bytes) (λ l. l) (λ bad. absurd (good bad)) in
        let same = same_elements at n bytes is h refl l in
        alike_then _ _ _ _ p refl (
          λ out r. out (ranges_same k h at n (λ i among. sym (same i among)) (sym long) r),
          λ out r. out (ranges_same h k at n same long r),
        )
        (λ out. refl))
