-- The promise of this crate leaves one outcome: what both chains came to, the two units, and every byte of the six buffers.
-- It is an equation with a definition, so two outcomes are equal to the same thing.
use mathlib.Core.Path.{◌∙◌, sym}
use Rattle.wire.specs.Promise.{OneOutcome}
use Rattle.two_chains.specs.Orders.{both_of, ran_both_of}
use Rattle.two_chains.proofs.run_both.Reads as run-both

run_both_once :
    OneOutcome run-both.Post
    (λ κ x e.
    ran_both_of x
    (both_of e.0.now e.1.0.now e.1.1.0.now e.1.1.1.0.now e.1.1.1.1.0.now e.1.1.1.1.1.0.now e.1.1.1.1.1.1.0.now))
run_both_once κ a x y e f p q = p ∙ sym q
