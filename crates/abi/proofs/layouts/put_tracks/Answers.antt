-- After i turns the first i tracks are stored, and nothing else has changed.
-- A turn stores the four bytes of one track more; after the last all of them are stored.
use mathlib.Core.Path.{◌≡◌, refl, ◌∙◌}
use native.Mathlib.Numerals.{add-one}
use native.Mathlib.Omega.{arith}
use Rattle.abi.specs.Layouts.{track_bytes}
use Rattle.abi.proofs.Tracks.{one_more_stored}
use Rattle.wire.specs.Storing.{written}
use Rattle.abi.proofs.layouts.put_tracks.Goals as goal

pub loop-i-init : goal.loop-i-init
unfolding written track_bytes
loop-i-init c = refl

pub loop-i-preserved : goal.loop-i-preserved
loop-i-preserved c =
    let a = c.args in
    let now = c.loop-i in
    c.put32.ensures ∙ rw (now.invariant, add-one now.i) (one_more_stored a.bytes.now a.table.now now.i (omega arith))

pub returns : goal.returns
returns c =
    let done : c.loop-i.i ≡ c.args.m = omega arith in
    rw done at c.loop-i.invariant
