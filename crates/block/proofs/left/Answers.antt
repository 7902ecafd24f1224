-- Each leaving has its own way, and a new record is made as it is defined.
use mathlib.Core.Path.{◌∙◌}
use Rattle.block.proofs.left.Goals as goal

pub last_tried-requires : goal.last_tried-requires
last_tried-requires c = (rw c.in-HeadsAtLastTried.is at c.requires).1

pub returns-in-AsItWas : goal.returns-in-AsItWas
returns-in-AsItWas c = rw c.in-AsItWas.is

pub returns-in-HeadsAt : goal.returns-in-HeadsAt
returns-in-HeadsAt c = rw c.in-HeadsAt.is c.moved_to.ensures

pub returns-in-HeadsAtLastTried : goal.returns-in-HeadsAtLastTried
returns-in-HeadsAtLastTried c = rw c.in-HeadsAtLastTried.is (c.moved_to-in-HeadsAtLastTried.ensures ∙ rw c.last_tried.ensures)

pub returns-in-Fresh : goal.returns-in-Fresh
returns-in-Fresh c = rw c.in-Fresh.is c.fresh.ensures

pub returns-in-Mapped : goal.returns-in-Mapped
returns-in-Mapped c = rw c.in-Mapped.is c.one_pair_more.ensures
