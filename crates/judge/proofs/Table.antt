-- A block gets the answer that the papers' table gives it, and no other: of each command, the checks are the table's lines for it, in order.
-- So the first check that is given is the first line that applies; and a table has one answer at most, so that the same is so the other way.
use Rattle.std.proofs.Common.{Err, None, Ok, Option, Result, Some}
use Prim.Native.Nat.{ℕ}
use mathlib.Core.Bool.{Bool, true, false, cond, not, ◌||◌}
use mathlib.Core.List.{List, [], ◌∷◌}
use mathlib.Core.Logic.Iff
use mathlib.Core.Logic.{◌↔◌, ◌⊎◌, by_cases, inl, inr, ⊎_elim}
use mathlib.Core.Path.{◌≡◌, refl, sym, ap, subst, ◌∙◌}
use borrow.Author.Tests.{eq-eqb, eqb-false, eqb-true}
use lib.Dec.{T, T_not, eqb}
use Rattle.geometry.specs.Sectors.{Covers}
use Rattle.answers.specs.declared.Refusal.{Refusal}
use Rattle.answers.specs.Numbers.{refusal_number}
use Rattle.answers.proofs.Laws.{refusals_differ}
use Rattle.geometry.specs.declared.Geometry.{Geometry}
use Rattle.geometry.specs.declared.VolumeNumber.{VolumeNumber}
use Rattle.geometry.specs.Answers.{in_volume?}
use Rattle.geometry.proofs.Answers.{numbered_inside, numbered_outside}
use Rattle.iopb.specs.declared.Block.{Block}
use Rattle.iopb.specs.Ask.{shape_at, target_of, task_at, task_of, tasks, volume_asked}
use Rattle.iopb.proofs.Answers.{shape_at_inside, shape_at_outside}
use Rattle.request.specs.declared.Start.{Start}
use Rattle.request.specs.declared.Task.{Task}
use Rattle.request.specs.declared.Task.TheVariants.{Initialize}
use Rattle.unit.specs.Standing.{UnitRecord, geometry}
use Rattle.wire.proofs.Decided.{in_memory?}
use Rattle.judge.specs.declared.Plan.{Plan}
use Rattle.judge.specs.declared.Report.{Report}
use Rattle.judge.specs.declared.Report.TheVariants.{Nothing as Silent, Identity, Formatted}
use Rattle.judge.specs.Passed.{checks}
use Rattle.judge.specs.Plans.{plan_of}
use Rattle.judge.specs.Checks.{Check, first}
use Rattle.judge.specs.Steps.{begins_at}
use Rattle.judge.specs.Given.{Asked, start_number, on}
use Rattle.judge.specs.Table.{AnsweredWith, Applies, BeforeTransfer, FromStart, Line, SectorsThere, Unanswered, listed, one_of, paper}
use Rattle.judge.specs.Verdict.{verdict}
use Rattle.judge.proofs.EachTask.{never_asked_20}
use Rattle.judge.proofs.First.{done, later, no_more, refused_among, skip, stop}
use Rattle.judge.proofs.LetThrough.{own_plan}

-- ---- lines and checks, for a command

module _ (c : ℕ) where
  one_answer : (m n : ℕ) (ls : List Line) → AnsweredWith m c ls → AnsweredWith n c ls → m ≡ n
  one_answer m n [] x y = absurd x
  one_answer m n (l ∷ ls) (inl (it, is)) (inl (this, so)) = sym is ∙ so
  one_answer m n (l ∷ ls) (inl (it, is)) (inr (out, y)) = absurd (out it)
  one_answer m n (l ∷ ls) (inr (out, x)) (inl (it, so)) = absurd (out it)
  one_answer m n (l ∷ ls) (inr (out, x)) (inr (so, y)) = one_answer m n ls x y

  not_both : (n : ℕ) (ls : List Line) → Unanswered c ls → AnsweredWith n c ls → ⊥
  not_both n [] none x = x
  not_both n (l ∷ ls) none (inl (it, is)) = none.0 it
  not_both n (l ∷ ls) none (inr (out, x)) = not_both n ls none.1 x

  -- An answer has the number of one of the lines.
  abbrev numbers : List Line → List ℕ
  numbers [] = []
  numbers (l ∷ ls) = l.number ∷ numbers ls

  answered_among : (n : ℕ) (ls : List Line) → AnsweredWith n c ls → T (one_of n (numbers ls))
  answered_among n [] x = x
  answered_among n (l ∷ ls) (inl (it, is)) = rw (eq-eqb n l.number (sym is)) tt
  answered_among n (l ∷ ls) (inr (out, x)) = later (eqb n l.number) (one_of n (numbers ls)) (answered_among n ls x)

  -- The case of a number that one line has: that line applies, and none before it does.
  abbrev pub Case : ℕ → List Line → Type 0
  Case n [] = ⊥
  Case n (l ∷ ls) = cond (eqb l.number n) (Applies c l) ((Applies c l → ⊥) × Case n ls)

  abbrev once : ℕ → List Line → Bool
  once n [] = false
  once n (l ∷ ls) = cond (eqb l.number n) (not (one_of n (numbers ls))) (once n ls)

  pub answered_by_one_line : (n : ℕ) (ls : List Line) → T (once n ls) → AnsweredWith n c ls ↔ Case n ls
  answered_by_one_line n [] one = absurd one
  answered_by_one_line n (l ∷ ls) one = by_number (answered_by_one_line n ls) (eqb l.number n) refl one
    where
      by_number :
          (T (once n ls) → AnsweredWith n c ls ↔ Case n ls) → (it : Bool) → eqb l.number n ≡ it → T (cond it (not (one_of n (numbers ls))) (once n ls)) →
          AnsweredWith n c (l ∷ ls) ↔ cond it (Applies c l) ((Applies c l → ⊥) × Case n ls)
      by_number rest true is one = (
        ⊎_elim (λ x. x.0) (λ x. absurd (T_not (one_of n (numbers ls)) one (answered_among n ls x.1))),
        λ it. inl (it, eqb-true _ _ is),
      )
      by_number rest false is one = (
        ⊎_elim (λ x. absurd (eqb-false _ _ is x.1)) (λ x. (x.0, (rest one).0 x.1)),
        λ x. inr (x.0, (rest one).1 x.1),
      )

  -- What a verdict says of some lines.
  abbrev Told : Result Plan Refusal → List Line → Type 0
  Told (Err r) ls = AnsweredWith (refusal_number r) c ls
  Told (Ok p) ls = Unanswered c ls

  passed_over : (v : Result Plan Refusal) (l : Line) (ls : List Line) → (Applies c l → ⊥) → Told v ls → Told v (l ∷ ls)
  passed_over (Err r) l ls out so = inr (out, so)
  passed_over (Ok p) l ls out so = (out, so)

  -- Some checks are those of the lines that are for the command, one by one, but for lines whose case cannot be: each has its line's number, and its
  -- line's case where none before it is given.
  abbrev Its : Line → (List Check → Type 0) → List Check → Type 0
  Its l Rest [] = ⊥
  Its l Rest (k ∷ ks) = (refusal_number k.answer ≡ l.number) × (k.Given ↔ l.Given) × ((k.Given → ⊥) → Rest ks)

  abbrev Next : (for : Bool) → Line → (List Check → Type 0) → List Check → Type 0
  Next false l Rest ks = Rest ks
  Next true l Rest ks = ((l.Given → ⊥) × Rest ks) ⊎ Its l Rest ks

  abbrev AreLines : List Line → List Check → Type 0
  AreLines [] [] = Unit {0}
  AreLines [] (k ∷ ks) = ⊥
  AreLines (l ∷ ls) ks = Next (l.for c) l (AreLines ls) ks

  told : (p : Plan) (ls : List Line) (ks : List Check) → AreLines ls ks → Told (first ks p) ls
  told p [] [] are = rw (done p) tt
  told p [] (k ∷ ks) are = absurd are
  told p (l ∷ ls) ks are = by_for (told p ls) (l.for c) refl ks are
    where
      by_for :
          ((ks : List Check) → AreLines ls ks → Told (first ks p) ls) → (for : Bool) → l.for c ≡ for → (ks : List Check) → Next for l (AreLines ls) ks →
          Told (first ks p) (l ∷ ls)
      by_for rest false is ks are = passed_over (first ks p) l ls (λ it. subst T is it.0) (rest ks are)
      by_for rest true is ks (inl (out, are)) = passed_over (first ks p) l ls (λ it. out it.1) (rest ks are)
      by_for rest true is [] (inr are) = absurd are
      by_for rest true is (k ∷ ks) (inr (number, case, are)) =
          by_cases k.given? (λ given. rw (stop k ks p given) (inl ((subst T (sym is) tt, case.0 given), sym number)))
          (λ out. rw (skip k ks p out) (passed_over (first ks p) l ls (λ it. out (case.1 it.1)) (rest ks (are out))))

-- ---- commands

-- What holds of each of some codes, and of a command that is none of them, holds of every command.
abbrev All : (ℕ → Type 0) → List ℕ → Type 0
All P [] = Unit {0}
All P (x ∷ xs) = P x × All P xs

pub by_code : (P : ℕ → Type 0) (c : ℕ) (xs : List ℕ) → All P xs → (T (not (one_of c xs)) → P c) → P c
by_code P c [] all other = other tt
by_code P c (x ∷ xs) all other = by_test (by_code P c xs all.1) (eqb c x) refl other
  where
    by_test : ((T (not (one_of c xs)) → P c) → P c) → (this : Bool) → eqb c x ≡ this → (T (not (this || one_of c xs)) → P c) → P c
    by_test rest true is other = subst P (sym (eqb-true c x is)) all.0
    by_test rest false is other = rest other

pub one_of_lem : (P : ℕ → Type 0) (c : ℕ) (xs : List ℕ) → All P xs → T (one_of c xs) → P c
one_of_lem P c xs all one = by_code P c xs all (λ other. absurd (T_not (one_of c xs) other one))

abbrev codes : List (ℕ × Task) → List ℕ
codes [] = []
codes ((code, t) ∷ ts) = code ∷ codes ts

-- One that is none of a table's asks for nothing that is known.
pub no_task : (c : ℕ) (ts : List (ℕ × Task)) → T (not (one_of c (codes ts))) → task_at c ts ≡ Task.Unknown
no_task c [] none = refl
no_task c ((code, t) ∷ ts) none = by_test (no_task c ts) (eqb c code) none
  where
    by_test :
        (T (not (one_of c (codes ts))) → task_at c ts ≡ Task.Unknown) → (same : Bool) → T (not (same || one_of c (codes ts))) →
        cond same t (task_at c ts) ≡ Task.Unknown
    by_test rest true none = absurd none
    by_test rest false none = rest none

-- ---- the paper's lines

-- A check and a line of one number and one case, whatever comes after them; and a line without a check, whose case cannot be.
alike : {n : ℕ} {G H R L : Type 0} → G ↔ H → R → L ⊎ ((n ≡ n) × (G ↔ H) × ((G → ⊥) → R))
alike case rest = inr (refl, case, λ out. rest)

same : {n : ℕ} {G R L : Type 0} → R → L ⊎ ((n ≡ n) × (G ↔ G) × ((G → ⊥) → R))
same rest = alike Iff.rfl rest

left_out : {G R L : Type 0} → (G → ⊥) → R → ((G → ⊥) × R) ⊎ L
left_out cannot rest = inl (cannot, rest)

module _ (b : Block) (a : Asked) where
  abbrev g : Geometry
  g = geometry a.unit

  abbrev v : VolumeNumber
  v = volume_asked b

  -- 16: a logical start is its number, and a physical one has a number where the volume has it.
  pub outside : (count : ℕ) → (Covers (geometry a.unit) v (begins_at a.unit (target_of b)) count → ⊥) ↔ (SectorsThere b a count → ⊥)
  outside count = Iff.not (by_start b.options.logical)
    where
      by_start :
          (logical : Bool) →
          Covers (geometry a.unit) v (start_number g v (cond logical (Start.Logical b.number) (Start.Physical b.cylinder b.head b.sector))) count ↔
          FromStart b a logical count
      by_start true = Iff.rfl
      by_start false =
          by_cases (in_volume? g v b.cylinder b.head b.sector)
          (λ in-it. rw (numbered_inside _ _ _ _ _ in-it) (λ x. (in-it, x), λ x. x.1))
          (λ out. rw (numbered_outside _ _ _ _ _ out) (λ x. absurd x, λ x. out x.0))

  -- The lines for a command in place of the block's, which line 10 alone looks at, and the checks of what it asks.
  abbrev after10 : List Line → List Line
  after10 [] = []
  after10 (l ∷ ls) = ls

  abbrev pub lines : ℕ → List Line
  lines c = record { number = 10; for = λ x. true; Given = T (not (one_of c listed)) } ∷ after10 (paper b a)

  abbrev At : ℕ → Task → Type 0
  At c t = AreLines c (lines c) (checks (on a.controller a.unit a.image t a.host))

  abbrev Of : ℕ → Type 0
  Of c = At c (task_at c (tasks a.host b))

  -- Each command's checks are its lines, most of them word for word.
  of_81 : Of 0x81
  of_81 = left_out no_more (same (same (same (same (alike (outside b.count) (same (same tt)))))))

  of_82 : Of 0x82
  of_82 = left_out no_more (same (same (same (same (alike (outside b.count) (same (same tt)))))))

  of_86 : Of 0x86
  of_86 = left_out no_more tt

  -- A UIB that is in memory is not asked 12, and one that is not has no shape, and is not asked 13.
  of_87 : Of 0x87
  of_87 =
      left_out no_more
      (by_cases (in_memory? a.host b.address 18)
      (λ place. rw (shape_at_inside a.host b.address place) (same (left_out (λ out. out place) (same tt))))
      (λ out. rw (shape_at_outside a.host b.address out) (same (inr (refl, (λ x. out, λ x. tt), λ placed. absurd (placed tt))))))

  of_89 : Of 0x89
  of_89 = left_out no_more (same (same tt))

  of_8A : Of 0x8a
  of_8A = left_out no_more (same (same (same (alike (outside 1) tt))))

  of_8C : Of 0x8c
  of_8C = left_out no_more (same (same (same (same (same tt)))))

  of_A1 : Of 0xa1
  of_A1 = left_out no_more (same (same (same (same (alike (outside b.count) (same (same (same tt))))))))

  of_A2 : Of 0xa2
  of_A2 = left_out no_more (same (same (same (same (alike (outside b.count) (same (same (same tt))))))))

  of_85 : Of 0x85
  of_85 = left_out no_more (same (same (same (same (same tt)))))

  of_unlisted : T (not (one_of b.command listed)) → Of b.command
  of_unlisted none =
      subst (At b.command) (sym (no_task b.command (tasks a.host b) none))
      (inr (refl, (λ x. none, λ x. tt), λ listed. absurd (listed tt)))

  told_by_the_table : a.task ≡ task_of a.host b → Told b.command (verdict a) (paper b a)
  unfolding task_of verdict
  told_by_the_table is =
      told b.command (plan_of a.unit a.task) (paper b a) (checks a)
      (subst (At b.command) (sym is)
      (by_code Of b.command listed (of_81, (of_82, (of_86, (of_87, (of_89, (of_8A, (of_8C, (of_A1, (of_A2, (of_85, tt)))))))))) of_unlisted))

-- ---- the verdict

-- "Block answers, in order": a block is refused with a number exactly where the table's first line that applies has it,
pub refused_by_the_table :
    (b : Block) (a : Asked) → a.task ≡ task_of a.host b → (r : Refusal) →
    (verdict a ≡ Err r) ↔ AnsweredWith (refusal_number r) b.command (paper b a)
refused_by_the_table b a is r =
    let so = told_by_the_table b a is in
    (λ e. subst (λ (v : Result Plan Refusal). Told b.command v (paper b a)) e so, by_verdict (verdict a) so)
  where
    by_verdict : (v : Result Plan Refusal) → Told b.command v (paper b a) → AnsweredWith (refusal_number r) b.command (paper b a) → v ≡ Err r
    by_verdict (Err s) so x = ap Err (refusals_differ s r (one_answer b.command _ _ (paper b a) so x))
    by_verdict (Ok p) so x = absurd (not_both b.command _ (paper b a) so x)

-- and let through, with its own plan, exactly where none does.
pub let_through_by_the_table :
    (b : Block) (a : Asked) → a.task ≡ task_of a.host b →
    (verdict a ≡ Ok (plan_of a.unit a.task)) ↔ Unanswered b.command (paper b a)
let_through_by_the_table b a is =
    let so = told_by_the_table b a is in
    (λ e. subst (λ (v : Result Plan Refusal). Told b.command v (paper b a)) e so, by_verdict (verdict a) refl so)
  where
    by_verdict :
        (v : Result Plan Refusal) → verdict a ≡ v → Told b.command v (paper b a) → Unanswered b.command (paper b a) →
        v ≡ Ok (plan_of a.unit a.task)
    by_verdict (Err s) e so none = absurd (not_both b.command _ (paper b a) none so)
    by_verdict (Ok p) e so none = ap Ok (own_plan a p e)

-- A refusal is one before transfer.
pub refused_before_transfer : (a : Asked) (r : Refusal) → verdict a ≡ Err r → BeforeTransfer r
unfolding verdict
refused_before_transfer a r e is = never_asked_20 a a.task (rw is at (refused_among (checks a) _ r e))

-- ---- what is reported

-- What a plan reports tells the command: the identity that of 86, and a number of sectors that of 8C.
abbrev Tells : ℕ → Report → Type 0
Tells c Silent = Unit {0}
Tells c Identity = c ≡ 0x86
Tells c (Formatted n) = c ≡ 0x8c

module _ (u : UnitRecord) (host : List ℕ) (b : Block) where
  -- An 87 reports nothing, whatever its UIB says.
  shape_silent : (s : Option Geometry) → Tells 0x87 (plan_of u (Initialize s)).report
  shape_silent None = tt
  shape_silent (Some g) = tt

  tells : Tells b.command (plan_of u (task_of host b)).report
  unfolding task_of
  tells =
      by_code (λ c. Tells c (plan_of u (task_at c (tasks host b))).report) b.command listed
      (tt, (tt, (refl, (shape_silent (shape_at host b.address), (tt, (tt, (refl, (tt, (tt, (tt, tt)))))))))) (λ none. rw (no_task b.command (tasks host b) none) tt)

  pub only_86_identifies : (plan_of u (task_of host b)).report ≡ Identity → b.command ≡ 0x86
  only_86_identifies is = subst (Tells b.command) is tells

  pub only_8C_counts : (n : ℕ) → (plan_of u (task_of host b)).report ≡ Formatted n → b.command ≡ 0x8c
  only_8C_counts n is = subst (Tells b.command) is tells

  pub others_report_nothing : (b.command ≡ 0x86 → ⊥) → (b.command ≡ 0x8c → ⊥) → (plan_of u (task_of host b)).report ≡ Silent
  others_report_nothing no-handshake no-format = by_report (plan_of u (task_of host b)).report tells
    where
      by_report : (r : Report) → Tells b.command r → r ≡ Silent
      by_report Silent is = refl
      by_report Identity is = absurd (no-handshake is)
      by_report (Formatted n) is = absurd (no-format is)
