-- Each comparison that is made is one of the definition's.
-- What was found of it is put in its place there.
use borrow.Author.Tests.{ne_eqb}
use Rattle.unit.specs.HolderNumbers.{holder_of}
use Rattle.unit.proofs.holder_of.Goals as goal

pub returns-then-number-eq1 : goal.returns-then-number-eq1
unfolding holder_of
returns-then-number-eq1 c = rw c.if-number-eq1.true

pub returns-then-number-eq2 : goal.returns-then-number-eq2
unfolding holder_of
returns-then-number-eq2 c = rw (ne_eqb _ _ c.if-number-eq1.false, c.if-number-eq2.true)

pub returns-else-number-eq2 : goal.returns-else-number-eq2
unfolding holder_of
returns-else-number-eq2 c = rw (ne_eqb _ _ c.if-number-eq1.false, ne_eqb _ _ c.if-number-eq2.false)
