-- A loop of steps, as firmware makes it: each call on what the one before left, at the link that it told, and with the index of the next entry. Between two calls nobody
-- changes what is lent. It leaves in host memory, images, event buffer and records what a run leaves, in every byte, and the run's outcome is made of what the
-- steps told: that is `RunOfSteps`, of any calls that the two promises allow. The theorem is in proofs/InSteps.
use Rattle.std.specs.Prelude.{ℕ, zero, suc, ◌≤◌, ◌<◌, List, ◌≡◌, get_or, length}
use Rattle.answers.specs.declared.RunAnswer.{RunAnswer}
use Rattle.answers.specs.Numbers.{run_number}
use Rattle.board.specs.declared.chain.Count.{Count}
use Rattle.board.specs.Chain.{counted, nothing}
use Rattle.wire.specs.Storing.{written}
use Rattle.wire.specs.Words.{be32}
use Rattle.abi.specs.Calls.{CallLent, Called, called_of, lent_of}
use Rattle.abi.specs.Layouts.{outcome_bytes, outcome_length}
use Rattle.abi.specs.Machines.{Asking, asking}

-- ---- what a loop goes by

-- What a step has told, in the 16 bytes of `stepped`, which has the outcome's place among what is lent: the block's answer, whether its link is to be followed,
-- the sectors moved, and the link.
abbrev pub answer_told : Called → ℕ
answer_told s = get_or s.lent.outcome 4 0

abbrev pub follow_told : Called → ℕ
follow_told s = get_or s.lent.outcome 5 0

abbrev pub sectors_told : Called → ℕ
sectors_told s = be32 s.lent.outcome 8

abbrev pub link_told : Called → ℕ
link_told s = be32 s.lent.outcome 12

-- The same, with other bytes in that place: a `stepped` for the next step, or a run's outcome.
abbrev pub with_outcome : CallLent → List ℕ → CallLent
with_outcome l outcome = lent_of l.host l.image0 l.image1 l.events l.record0 l.record1 outcome

-- The loop has ended: what a run would return, with what is left, and in an outcome the answer, the failed block and the counts.
abbrev pub ended : (outcome : List ℕ) → RunAnswer → (failed : ℕ) → Count → CallLent → Called
ended outcome answer failed t l =
    let n = run_number answer in
    called_of n (with_outcome l (written outcome 0 (outcome_bytes n failed t.blocks t.sectors)))

-- A block cannot be fetched: 3 of the first, 5 of a later one.
abbrev pub answer_to_bad : (blocks : ℕ) → RunAnswer
answer_to_bad zero = RunAnswer.FirstBad
answer_to_bad (suc n) = RunAnswer.LinkBad

-- After the last block: 0 where it told 0, and else 4.
abbrev pub answer_to_last : (told : ℕ) → RunAnswer
answer_to_last zero = RunAnswer.Done
answer_to_last (suc n) = RunAnswer.BlockFailed

-- A loop with so much of its allowance left, from an address on. `Step at i l s` says that a step of the block at `at`, with the entry i counted from 0, that was lent l came
-- to s. Whatever one comes to, the loop goes on or ends by it.
pub data Loop {ℓ} (Step : (at i : ℕ) → CallLent → Called → Type ℓ) (outcome : List ℕ) : (left : ℕ) → Count → (at : ℕ) → CallLent → Called → Type ℓ where
  -- the allowance is spent
  spent : (t : Count) (at : ℕ) (l : CallLent) → Loop Step outcome zero t at l (ended outcome RunAnswer.AllowanceSpent 0 t l)
  -- the block cannot be fetched
  bad :
      (left : ℕ) (t : Count) (at : ℕ) (l : CallLent) (s : Called) → Step at t.blocks l s → s.code ≡ 3 →
      Loop Step outcome (suc left) t at l (ended outcome (answer_to_bad t.blocks) 0 t s.lent)
  -- the step is refused with another code, which the loop returns, and no outcome is made
  refused :
      (left : ℕ) (t : Count) (at : ℕ) (l : CallLent) (s : Called) → Step at t.blocks l s → (s.code ≡ 3 → ⊥) → (s.code ≡ 0 → ⊥) →
      Loop Step outcome (suc left) t at l (called_of s.code (with_outcome s.lent outcome))
  -- the block was run, and its link is not to be followed
  last :
      (left : ℕ) (t : Count) (at : ℕ) (l : CallLent) (s : Called) → Step at t.blocks l s → s.code ≡ 0 → follow_told s ≡ 0 →
      Loop Step outcome (suc left) t at l (ended outcome (answer_to_last (answer_told s)) (answer_told s) (counted t (sectors_told s)) s.lent)
  -- it was run, and its link is to be followed, with any 16 bytes for the next step to tell in
  on :
      (left : ℕ) (t : Count) (at : ℕ) (l : CallLent) (s : Called) (stepped : List ℕ) (r : Called) → Step at t.blocks l s → s.code ≡ 0 →
      (follow_told s ≡ 0 → ⊥) → outcome_length ≤ length stepped →
      Loop Step outcome left (counted t (sectors_told s)) (link_told s) (with_outcome s.lent stepped) r → Loop Step outcome (suc left) t at l r

-- ---- a run, and the steps that it is

-- Host memory and records hold bytes: the type of a call says so, and its contract, which speaks of lists of numbers, does not.
pub record Bytes (l : CallLent) : Type 0 where
  pub host : (i : ℕ) → get_or l.host i 0 < 256
  pub record0 : (i : ℕ) → get_or l.record0 i 0 < 256
  pub record1 : (i : ℕ) → get_or l.record1 i 0 < 256

-- What a step is asked for.
pub record StepAsking : Type 0 where
  pub controller : ℕ
  pub at : ℕ
  pub index : ℕ
  pub lent : CallLent

abbrev pub step_asking : (controller at index : ℕ) → CallLent → StepAsking
step_asking controller at index l = record { controller = controller; at = at; index = index; lent = l }

-- A step that a promise allows, as the source states it (wire, Promise): `given` says what its arguments ask for, `seen` what a caller sees of its outcome.
pub record StepBy
    {ℓ₀ ℓ₁ ℓ₂ ℓ₃} {K : Type ℓ₀} {A : K → Type ℓ₁} {R : K → Type ℓ₂} {E : K → Type ℓ₃}
    (Post : (κ : K) → A κ → R κ → E κ → Type 0) (given : (κ : K) → A κ → StepAsking) (seen : (κ : K) → R κ → E κ → Called)
    (controller at i : ℕ) (l : CallLent) (s : Called) : Type (ℓ₀ ⊔ ℓ₁ ⊔ ℓ₂ ⊔ ℓ₃) where
  pub bytes : Bytes l
  pub lifetimes : K
  pub arguments : A lifetimes
  pub result : R lifetimes
  pub exit : E lifetimes
  pub asked : given lifetimes arguments ≡ step_asking controller at i l
  pub allowed : Post lifetimes arguments result exit
  pub came : seen lifetimes result exit ≡ s

-- The event buffer has the run's 512 bytes, the allowance is the run's, and what the steps tell and the outcome have room.
pub record RunsAlike (allowance : ℕ) (l : CallLent) (outcome : List ℕ) : Type 0 where
  pub events : 512 ≤ length l.events
  pub least : 1 ≤ allowance
  pub most : allowance ≤ 64
  pub long_stepped : outcome_length ≤ length l.outcome
  pub long_outcome : outcome_length ≤ length outcome

-- What two promises say together, of a step and of a run.
pub record RunOfSteps
    {ℓ₀ ℓ₁ ℓ₂ ℓ₃ m₀ m₁ m₂ m₃} {K : Type ℓ₀} {A : K → Type ℓ₁} {R : K → Type ℓ₂} {E : K → Type ℓ₃}
    (StepPost : (κ : K) → A κ → R κ → E κ → Type 0) (step_given : (κ : K) → A κ → StepAsking) (step_seen : (κ : K) → R κ → E κ → Called)
    {J : Type m₀} {B : J → Type m₁} {S : J → Type m₂} {F : J → Type m₃}
    (RunPost : (κ : J) → B κ → S κ → F κ → Type 0) (run_given : (κ : J) → B κ → Asking) (run_seen : (κ : J) → S κ → F κ → Called) :
    Type (ℓ₀ ⊔ ℓ₁ ⊔ ℓ₂ ⊔ ℓ₃ ⊔ m₀ ⊔ m₁ ⊔ m₂ ⊔ m₃) where
  -- Whatever is asked for and lent, a step has a result that is allowed.
  pub some_result : (controller at i : ℕ) (l : CallLent) → Bytes l → (s : Called) × StepBy StepPost step_given step_seen controller at i l s
  -- A run and a loop of steps that begins with the first entry, each as its promise allows, by one controller, with one first block, one allowance and the same bytes
  -- lent, come to the same: in the number returned, in every byte that is lent to both, and in the outcome.
  pub same :
      (controller first allowance : ℕ) (l : CallLent) (outcome : List ℕ) (r : Called) → RunsAlike allowance l outcome →
      Loop (StepBy StepPost step_given step_seen controller) outcome allowance nothing first l r →
      (κ : J) (b : B κ) (x : S κ) (f : F κ) → run_given κ b ≡ asking controller first allowance (with_outcome l outcome) → RunPost κ b x f →
      run_seen κ x f ≡ r
