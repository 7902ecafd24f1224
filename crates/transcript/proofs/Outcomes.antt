-- Each promise of this crate leaves one outcome: the result, and of a lent slice every byte.
-- Each is an equation with a definition, so two outcomes are equal to the same thing.
use mathlib.Core.Path.{◌∙◌, sym}
use Rattle.wire.specs.Promise.{OneOutcome, OneResult}
use Rattle.transcript.specs.Steps.{lent_of, spoken_of}
use Rattle.transcript.proofs.field.wanted.Reads as wanted
use Rattle.transcript.proofs.start.Reads as start
use Rattle.transcript.proofs.step.Reads as step
use Rattle.transcript.proofs.units.Reads as units

start_once : OneResult start.Post
start_once κ a x y e f p q = p ∙ sym q

units_once : OneResult units.Post
units_once κ a x y e f p q = p ∙ sym q

wanted_once : OneResult wanted.Post
wanted_once κ a x y e f p q = p ∙ sym q

-- What a caller of a step sees: the answer, with the state in it, and every byte of the four buffers and all of both units.
step_once :
    OneOutcome step.Post
    (λ κ x e. spoken_of x (lent_of e.1.0.now e.1.1.0.now e.1.1.1.0.now e.1.1.1.1.0.now e.1.1.1.1.1.0.now))
step_once κ a x y e f p q = p ∙ sym q
