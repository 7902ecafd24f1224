-- The judge's promise leaves one verdict, read off the contract as the source states it.
-- It is an equation with a definition, so two verdicts are equal to the same thing.
use mathlib.Core.Path.{◌∙◌, sym}
use Rattle.wire.specs.Promise.{OneResult}
use Rattle.judge.proofs.judge.Reads as judge

judge_once : OneResult judge.Post
judge_once κ a x y e f p q = p ∙ sym q
