-- How a chain ended, as it is told: without the world that it left.
use Rattle.std.specs.Prelude.{ℕ}
use Rattle.answers.specs.declared.RunAnswer.{RunAnswer}
use Rattle.board.specs.declared.chain.Count.{Count}
use Rattle.board.specs.declared.chain.Outcome.{Outcome}
use Rattle.board.specs.Chain.{Ending}

-- From an answer, a failed block's number and what was counted; and of an ending.
abbrev pub ended_of : RunAnswer → ℕ → Count → Outcome
ended_of answer failed t = record { answer = answer; failed = failed; blocks = t.blocks; sectors = t.sectors }

abbrev pub end_of : Ending → Outcome
end_of e = ended_of e.answer e.failed e.tally
