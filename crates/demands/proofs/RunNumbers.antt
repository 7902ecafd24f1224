-- Every number that a run gives is in the papers: its answer is one of 0 to 6, and its failed number 0, or that of a block's answer.
use Prim.Native.Nat.{ℕ, ◌≤◌}
use mathlib.Core.Logic.{◌⊎◌, inl, inr, ⊎_elim}
use mathlib.Core.Path.{◌≡◌}
use Rattle.answers.specs.Numbers.{run_number}
use Rattle.answers.specs.RunNumbers.{OfABlock}
use Rattle.answers.proofs.Laws.{answers_in_range, refusals_in_range}
use Rattle.board.specs.Chain.{ran}
use Rattle.demands.proofs.RunAnswers.{failed_number}
use Rattle.board.specs.World.{World}

pub answer_in_range : (first allowance : ℕ) (w : World) → run_number (ran first allowance w).answer ≤ 6
answer_in_range first allowance w = answers_in_range (ran first allowance w).answer

-- The failed number is 0 or one of 10 to 20 and 22 to 24, whatever the world, the first address and the allowance.
pub failed_in_range :
    (first allowance : ℕ) (w : World) → ((ran first allowance w).failed ≡ 0) ⊎ OfABlock (ran first allowance w).failed
failed_in_range first allowance w =
    ⊎_elim (λ none. inl none)
    (λ (v, (r, (number, failed))). inr (rw number (refusals_in_range r)))
    (failed_number first allowance w)
