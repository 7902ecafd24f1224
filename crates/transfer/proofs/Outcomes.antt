-- Each promise of this crate leaves one outcome: the result, and of each lent buffer every byte.
-- Each is two equations with a definition, the second of which has both buffers as its parts.
use Rattle.transfer.specs.declared.Moved.{Moved}
use Rattle.std.proofs.Common.{Option}
use Prim.Native.Nat.{ℕ}
use mathlib.Core.List.{List}
use mathlib.Core.Path.{◌≡◌, ◌∙◌, sym}
use Rattle.wire.specs.Promise.{OneOutcome}
use Rattle.transfer.proofs.format_track.Reads as format-track
use Rattle.transfer.proofs.move_sectors.Reads as move-sectors

-- What the attempt came to, host memory and the image.
move_sectors_once :
    OneOutcome {Seen = Option Moved × (List ℕ × List ℕ)} move-sectors.Post (λ κ x e. (x, (e.0.now, e.1.0.now)))
move_sectors_once κ a x y e f p q =
    let same : x ≡ y = p.0 ∙ sym q.0 in
    let buffers = p.1 ∙ sym q.1 in
    λ i. (same i, ((buffers i).host, (buffers i).image))

-- What the attempt came to and the image; host memory is only read.
format_track_once : OneOutcome {Seen = Option Moved × List ℕ} format-track.Post (λ κ x e. (x, e.1.0.now))
format_track_once κ a x y e f p q =
    let same : x ≡ y = p.0 ∙ sym q.0 in
    let buffers = p.1 ∙ sym q.1 in
    λ i. (same i, (buffers i).image)
