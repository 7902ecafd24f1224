-- The cycle of fetch and execute. A fetch has one more of the allowance than the block that it leads to, so the measure falls.
-- Each way out is the chain's law of that name; the world is carried along by the block's own promise.
use Rattle.std.proofs.Common.{◌+◌, ◌*◌}
use Rattle.board.proofs.chain.+execute_fetch.Given as goal

abbrev pub decreases-execute : goal.decreases-execute
decreases-execute l = 2 * l.left + 1

abbrev pub decreases-fetch : goal.decreases-fetch
decreases-fetch l = 2 * l.left
