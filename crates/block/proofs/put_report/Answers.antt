-- Nothing reported stores nothing.
-- The identity, and what a format reports, are each stored by a function of its own.
use Rattle.transfer.specs.Stores.{after}
use Rattle.block.proofs.Effects.{row_made}
use Rattle.block.proofs.put_report.Goals as goal

pub put_formatted-requires : goal.put_formatted-requires
put_formatted-requires c = (c.requires.0, rw c.in-Formatted.is at c.requires.1)

pub returns-in-Nothing : goal.returns-in-Nothing
unfolding after
returns-in-Nothing c = λ image events. rw c.in-Nothing.is

pub returns-in-Identity : goal.returns-in-Identity
returns-in-Identity c = rw c.in-Identity.is (row_made _ _ _ _ c.put_identity.ensures)

pub returns-in-Formatted : goal.returns-in-Formatted
returns-in-Formatted c = rw c.in-Formatted.is (row_made _ _ _ _ c.put_formatted.ensures)
