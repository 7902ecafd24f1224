-- Each promise of this crate leaves one result, read off the contracts as the source states them.
-- Each is an equation with a definition, so two results are equal to the same thing.
use mathlib.Core.Path.{◌∙◌, sym}
use Rattle.wire.specs.Promise.{OneResult}
use Rattle.answers.proofs.RunAnswer.number.Reads as run-number
use Rattle.answers.proofs.Refusal.number.Reads as refusal-number
use Rattle.answers.proofs.block_number.Reads as block-number
use Rattle.answers.proofs.status.Reads as status

run_number_once : OneResult run-number.Post
run_number_once κ a x y e f p q = p ∙ sym q

refusal_number_once : OneResult refusal-number.Post
refusal_number_once κ a x y e f p q = p ∙ sym q

block_number_once : OneResult block-number.Post
block_number_once κ a x y e f p q = p ∙ sym q

status_once : OneResult status.Post
status_once κ a x y e f p q = p ∙ sym q
