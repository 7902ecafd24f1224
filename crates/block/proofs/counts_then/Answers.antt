-- A unit that counts stays so by each way of leaving it, and one that does not is left as it was or made anew.
-- Kept has both.
use Rattle.judge.specs.declared.Leaving.TheVariants.{HeadsAt, HeadsAtLastTried, Mapped}
use Rattle.unit.proofs.Kept.{fresh_counts}
use Rattle.block.proofs.Kept.{stays_told}
use Rattle.block.proofs.counts_then.Goals as goal

pub returns-in-AsItWas : goal.returns-in-AsItWas
returns-in-AsItWas c = rw c.in-AsItWas.is (λ u moved told fits. told)

pub returns-in-HeadsAt : goal.returns-in-HeadsAt
returns-in-HeadsAt c =
    rw c.in-HeadsAt.is
    (λ u moved told fits. stays_told u moved (HeadsAt c.in-HeadsAt.field-0) c.args.counts (λ fits. fits.0) told fits)

pub returns-in-HeadsAtLastTried : goal.returns-in-HeadsAtLastTried
returns-in-HeadsAtLastTried c =
    rw c.in-HeadsAtLastTried.is
    (λ u moved told fits. stays_told u moved (HeadsAtLastTried c.in-HeadsAtLastTried.field-0) c.args.counts (λ fits. fits.0) told fits)

pub returns-in-Fresh : goal.returns-in-Fresh
returns-in-Fresh c = rw c.in-Fresh.is (λ u moved told within. fresh_counts _ within)

pub returns-in-Mapped : goal.returns-in-Mapped
returns-in-Mapped c =
    rw c.in-Mapped.is
    (λ u moved told fits. stays_told u moved (Mapped c.in-Mapped.field-0 c.in-Mapped.field-1) c.args.counts (λ fits. fits.0) told fits)
