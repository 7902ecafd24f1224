-- After i turns the first i tracks are read and the rest of the table is as it was.
-- A turn reads one track more; after the last the tracks of all pairs that count are read.
use Prim.Native.Nat.{◌*◌, min}
use mathlib.Core.Path.{◌≡◌, refl}
use native.Mathlib.Numerals.{add-one}
use native.Mathlib.Omega.{arith}
use Rattle.abi.specs.Layouts.{words_from}
use Rattle.abi.proofs.Tracks.{one_more_read}
use Rattle.wire.specs.Storing.{written}
use Rattle.abi.proofs.layouts.read_tracks.Goals as goal

pub loop-i-init : goal.loop-i-init
unfolding written words_from
loop-i-init c = refl

pub loop-i-preserved : goal.loop-i-preserved
loop-i-preserved c =
    let a = c.args in
    let now = c.loop-i in
    rw (now.invariant, c.be32.ensures, add-one now.i) (one_more_read a.table.now a.bytes.now now.i)

pub returns : goal.returns
returns c =
    let done : c.loop-i.i ≡ 2 * min c.args.pairs 32 = omega arith in
    rw done at c.loop-i.invariant
