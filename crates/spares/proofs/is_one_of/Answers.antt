-- No track before the i-th is the one that is looked for; the loop is left at the first that is, or at the end.
use native.Mathlib.Numerals.{add-one}
use native.Mathlib.Omega.{arith}
use Rattle.wire.proofs.Decided.{all_more}
use Rattle.spares.proofs.is_one_of.Goals as goal

pub loop-i-init : goal.loop-i-init
loop-i-init c = λ k h. absurd (omega arith)

pub returns-then-table-i : goal.returns-then-table-i
returns-then-table-i c = record { at = c.loop-i.i; less = omega arith; here = c.if-table-i.true }

pub loop-i-preserved : goal.loop-i-preserved
loop-i-preserved c =
    let loop = c.loop-i in
    rw add-one (all_more _ loop.i loop.invariant c.if-table-i.false)

pub returns : goal.returns
returns c = λ found. c.loop-i.invariant found.at (omega arith) found.here
