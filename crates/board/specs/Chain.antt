-- A chain of blocks, and the run (01, One run and Answer numbers 0 to 6).
use Rattle.std.specs.Prelude.{ℕ, zero, suc, ◌+◌, Bool, true, false, length, Err, Ok}
use Rattle.std.proofs.Math.Logic.{ite}
use Rattle.std.proofs.Math.Logic.Dec.{and as dec_and, not as dec_not}
use Rattle.std.proofs.Math.Decide.{dec_le, dec_lt}
use Rattle.answers.specs.Numbers.{BlockAnswer, refusal_number}
use Rattle.answers.specs.declared.RunAnswer.{RunAnswer}
use Rattle.iopb.specs.Layout.{block_at}
use Rattle.wire.proofs.Decided.{in_memory?}
use Rattle.board.specs.declared.chain.Count.{Count}
use Rattle.board.specs.World.{World, effect_at, world_after}

-- How a chain ends: its answer, "with answer 4 the failed block's answer number, 10 and up (otherwise 0)", what was counted, the blocks run and the sectors
-- moved, and the world that it leaves.
pub record Ending : Type 0 where
  pub answer : RunAnswer
  pub failed : ℕ
  pub tally : Count
  pub world : World

abbrev pub ends : RunAnswer → ℕ → Count → World → Ending
ends answer failed t w = record { answer = answer; failed = failed; tally = t; world = w }

-- "a block fetched is a block run, refused or not"; "Sectors moved is the sum over the blocks of sectors copied"
abbrev pub counted : Count → ℕ → Count
counted t sectors = record { blocks = t.blocks + 1; sectors = t.sectors + sectors }

-- What follows a block that ended so, where `next` is what fetching the next one comes to: "running it with LK set and status 80
-- leads to fetching the next"; "A failed block's link isn't followed".
abbrev pub follows : BlockAnswer → Bool → Count → World → Ending → Ending
-- 4, "a block ended 82"
follows (Err r) link t w next = ends RunAnswer.BlockFailed (refusal_number r) t w
-- 0, "last block had no link and ended 80"
follows (Ok _) false t w next = ends RunAnswer.Done 0 t w
follows (Ok _) true t w next = next

-- The block at an address, as it stands now: its options and its link are those of the copy.
abbrev pub executed : (Count → ℕ → World → Ending) → Count → ℕ → World → Ending
executed fetch t at w =
    let b = block_at w.host at in
    let e = effect_at at t.blocks w in
    let w' = world_after at t.blocks w in
    let t' = counted t e.sectors in
    follows e.answer b.options.link t' w' (fetch t' b.link w')

-- "Each fetch spends one of the allowance": with none left the answer is 6, "allowance spent, last block 80 with LK set", and 6 comes before 5, "linked
-- address bad as in 3".
unfoldable pub fetched : ℕ → Count → ℕ → World → Ending
fetched zero t at w = ends RunAnswer.AllowanceSpent 0 t w
fetched (suc left) t at w =
    ite (in_memory? w.host at 28) (executed (fetched left) t at w) (ends RunAnswer.LinkBad 0 t w)

abbrev pub nothing : Count
nothing = record { blocks = 0; sectors = 0 }

-- "Checks 1, 2, 3 in that order", "event buffer under 512 bytes", "allowance 0 or over 64", "first block odd, or not wholly in host memory"; and then the
-- chain from the first block on.
unfoldable pub ran : ℕ → ℕ → World → Ending
ran first allowance w =
    ite (dec_lt (length w.events) 512) (ends RunAnswer.EventsShort 0 nothing w)
    (ite (dec_not (dec_and (dec_le 1 allowance) (dec_le allowance 64))) (ends RunAnswer.AllowanceBad 0 nothing w)
    (ite (dec_not (in_memory? w.host first 28)) (ends RunAnswer.FirstBad 0 nothing w)
    (fetched allowance nothing first w)))
