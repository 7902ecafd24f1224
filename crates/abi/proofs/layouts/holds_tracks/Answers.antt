-- Every track before the k-th stands in the bytes; the loop is left at the first that does not, or at the end.
-- The words are the first tracks of the table where each of them is.
use mathlib.Core.Path.{sym, ◌∙◌}
use native.Mathlib.Numerals.{add-one}
use native.Mathlib.Omega.{arith}
use Rattle.wire.proofs.Decided.{all_more}
use Rattle.abi.proofs.Tracks.{each_is_there, there_is_each}
use Rattle.abi.proofs.layouts.holds_tracks.Goals as goal

pub loop-k-init : goal.loop-k-init
loop-k-init c = λ i h. absurd (omega arith)

pub returns-then-be32-table : goal.returns-then-be32-table
returns-then-be32-table c =
    let a = c.args in
    λ there.
    c.if-be32-table.true
    (c.be32.ensures ∙ there_is_each a.bytes.now a.table.now a.m there c.loop-k.k (omega arith))

pub loop-k-preserved : goal.loop-k-preserved
loop-k-preserved c =
    let now = c.loop-k in
    rw add-one (all_more _ now.k now.invariant (sym c.be32.ensures ∙ c.if-be32-table.false))

pub returns : goal.returns
returns c =
    let a = c.args in
    each_is_there a.bytes.now a.table.now a.m (omega arith) (λ k less. c.loop-k.invariant k (omega arith))
