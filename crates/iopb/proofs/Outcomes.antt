-- Each promise of this crate leaves one result, read off the contracts as the source states them.
-- Each is an equation with a definition, so two results are equal to the same thing.
use mathlib.Core.Path.{◌∙◌, sym}
use Rattle.wire.specs.Promise.{OneResult}
use Rattle.iopb.proofs.ask.task.Reads as task
use Rattle.iopb.proofs.ask.unit_at.Reads as unit-at
use Rattle.iopb.proofs.Block.read.Reads as Block-read
use Rattle.iopb.proofs.error_byte.Reads as error-byte
use Rattle.iopb.proofs.identity.Reads as identity
use Rattle.iopb.proofs.Options.of.Reads as options-of
use Rattle.iopb.proofs.uib.Reads as uib

block_read_once : OneResult Block-read.Post
block_read_once κ a x y e f p q = p ∙ sym q

error_byte_once : OneResult error-byte.Post
error_byte_once κ a x y e f p q = p ∙ sym q

identity_once : OneResult identity.Post
identity_once κ a x y e f p q = p ∙ sym q

options_of_once : OneResult options-of.Post
options_of_once κ a x y e f p q = p ∙ sym q

task_once : OneResult task.Post
task_once κ a x y e f p q = p ∙ sym q

unit_at_once : OneResult unit-at.Post
unit_at_once κ a x y e f p q = p ∙ sym q

uib_once : OneResult uib.Post
uib_once κ a x y e f p q = p ∙ sym q
