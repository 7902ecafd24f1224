-- Each promise of this crate leaves one outcome: the result, and of what is lent every byte and every number.
-- Each is an equation with a definition, so two outcomes are equal to the same thing.
use mathlib.Core.Path.{◌∙◌, sym}
use Rattle.wire.specs.Promise.{OneOutcome, OneResult}
use Rattle.abi.specs.Calls.{called_of, inspected_of, lent_in}
use Rattle.abi.specs.Places.{located_of, needed_of}
use Rattle.abi.proofs.places.vsmd_image_need.Reads as image-need
use Rattle.abi.proofs.places.vsmd_sector_at.Reads as sector-at
use Rattle.abi.proofs.places.vsmd_sector_of.Reads as sector-of
use Rattle.abi.proofs.vsmd_inspect.Reads as inspect
use Rattle.abi.proofs.vsmd_layout_version.Reads as layout-version
use Rattle.abi.proofs.vsmd_outcome_len.Reads as outcome-len
use Rattle.abi.proofs.vsmd_record_len.Reads as record-len
use Rattle.abi.proofs.vsmd_run.Reads as run
use Rattle.abi.proofs.vsmd_run_as.Reads as run-as
use Rattle.abi.proofs.vsmd_step_as.Reads as step-as

vsmd_layout_version_once : OneResult layout-version.Post
vsmd_layout_version_once κ a x y e f p q = p ∙ sym q

vsmd_record_len_once : OneResult record-len.Post
vsmd_record_len_once κ a x y e f p q = p ∙ sym q

vsmd_outcome_len_once : OneResult outcome-len.Post
vsmd_outcome_len_once κ a x y e f p q = p ∙ sym q

vsmd_run_once :
    OneOutcome run.Post
    (λ κ x e. called_of x (lent_in e))
vsmd_run_once κ a x y e f p q = p ∙ sym q

vsmd_run_as_once :
    OneOutcome run-as.Post
    (λ κ x e. called_of x (lent_in e))
vsmd_run_as_once κ a x y e f p q = p ∙ sym q

vsmd_step_as_once :
    OneOutcome step-as.Post
    (λ κ x e. called_of x (lent_in e))
vsmd_step_as_once κ a x y e f p q = p ∙ sym q

vsmd_inspect_once :
    OneOutcome inspect.Post
    (λ κ x e.
    inspected_of x e.1.1.1.1.1.1.0.now
    e.1.1.1.1.1.1.1.0.now e.1.1.1.1.1.1.1.1.0.now)
vsmd_inspect_once κ a x y e f p q = p ∙ sym q

vsmd_image_need_once : OneOutcome image-need.Post (λ κ x e. needed_of x e.1.0.now)
vsmd_image_need_once κ a x y e f p q = p ∙ sym q

vsmd_sector_of_once :
    OneOutcome sector-of.Post
    (λ κ x e. located_of x e.1.1.1.0.now e.1.1.1.1.0.now e.1.1.1.1.1.0.now)
vsmd_sector_of_once κ a x y e f p q = p ∙ sym q

vsmd_sector_at_once :
    OneOutcome sector-at.Post
    (λ κ x e. located_of x e.1.1.1.1.0.now e.1.1.1.1.1.0.now e.1.1.1.1.1.1.0.now)
vsmd_sector_at_once κ a x y e f p q = p ∙ sym q
