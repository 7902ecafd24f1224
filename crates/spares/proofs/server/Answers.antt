-- No pair before the i-th serves the track, so that what serves it is what does of the pairs from there on.
use native.Mathlib.Omega.{arith}
use Rattle.std.proofs.lemmas.Grind.{common_steps}
use Rattle.spares.proofs.Laws.{serves_end, serves_here, serves_on}
use Rattle.spares.proofs.server.Goals as goal

pub returns-then-serves : goal.returns-then-serves
returns-then-serves c = grind (arith, common_steps, serves_here)

pub loop-i-preserved : goal.loop-i-preserved
loop-i-preserved c = grind (arith, common_steps, serves_on)

pub returns : goal.returns
returns c = grind (arith, common_steps, serves_end)
