-- After i turns the answers are about the first i elements, and the sum is theirs.
-- A turn adds one element, and 64 elements of 16 bits keep the sum small.
use mathlib.Core.Path.{◌≡◌}
use native.Mathlib.Omega.{arith}
use Rattle.memory.specs.declared.Seen.{Seen}
use Rattle.memory.proofs.Lists.{nothing_scanned, one_more_scanned}
use Rattle.memory.proofs.scan.Goals as goal

pub loop-i-init : goal.loop-i-init
loop-i-init c = (nothing_scanned c.args.host.now c.args.at, omega arith)

pub loop-i-preserved : goal.loop-i-preserved
loop-i-preserved c =
    let a = c.args in
    let loop = c.loop-i in
    let so : Seen = record { counts = loop.counts; ranges = loop.ranges; sum = loop.sum } in
    let e = c.read-e in (
      one_more_scanned a.host.now a.at loop.i so e.result c.from-bytes.result _ _ e.ensures c.from-bytes.ensures
          loop.invariant.0
          c.is_good-counts.ensures
          c.holds-ranges.ensures,
      omega arith,
    )

pub returns : goal.returns
returns c =
    let done : c.loop-i.i ≡ c.args.elements = omega arith in
    rw done at c.loop-i.invariant.0
