-- Each promise of this crate leaves one outcome: the result, and of a lent slice every byte.
-- Each is an equation with a definition, so two outcomes are equal to the same thing, or a yes or no that speaks of one statement.
use mathlib.Core.Path.{◌∙◌, sym}
use Rattle.wire.specs.Promise.{OneOutcome, OneResult}
use Rattle.wire.proofs.Promises.{says_once}
use Rattle.wire.proofs.be16.Reads as be16
use Rattle.wire.proofs.be32.Reads as be32
use Rattle.wire.proofs.copy.Reads as copy
use Rattle.wire.proofs.holds.Reads as holds
use Rattle.wire.proofs.lesser.Reads as lesser
use Rattle.wire.proofs.put16.Reads as put16
use Rattle.wire.proofs.put32.Reads as put32

be16_once : OneResult be16.Post
be16_once κ a x y e f p q = p ∙ sym q

be32_once : OneResult be32.Post
be32_once κ a x y e f p q = p ∙ sym q

put16_once : OneOutcome put16.Post (λ κ x e. e.0.now)
put16_once κ a x y e f p q = p ∙ sym q

put32_once : OneOutcome put32.Post (λ κ x e. e.0.now)
put32_once κ a x y e f p q = p ∙ sym q

copy_once : OneOutcome copy.Post (λ κ x e. e.1.1.0.now)
copy_once κ a x y e f p q = p ∙ sym q

holds_once : OneResult holds.Post
holds_once κ a x y e f p q = says_once x y _ p q

lesser_once : OneResult lesser.Post
lesser_once κ a x y e f p q = p ∙ sym q
