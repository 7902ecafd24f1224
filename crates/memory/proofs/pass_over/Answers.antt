-- What the pass found is what checks 18 and 19 say, in their order.
-- Counts that are not good, or another sum, are no good list's; of a good list, the ranges decide.
use Rattle.memory.specs.Lists.{ListGood}
use Rattle.wire.proofs.Promises.{denied, granted}
use Rattle.memory.proofs.Lists.{good_list}
use Rattle.memory.proofs.pass_over.Goals as goal

pub returns-then-not-seen : goal.returns-then-not-seen
returns-then-not-seen c =
    let scan = c.scan-seen in
    λ l. denied scan.result.counts _ c.if-not-seen.true scan.ensures.counts l.counts

pub returns-then-not-seen-2 : goal.returns-then-not-seen-2
returns-then-not-seen-2 c =
    let good : let a = c.args in ListGood a.host.now a.at a.elements a.bytes = let scan = c.scan-seen in
    let pre = c.requires in
    good_list _ _ _ _ scan.result (pre.0, pre.1) pre.2 scan.ensures c.if-not-seen.false c.if-seen-bytes.false in
    let scan = c.scan-seen in
    (good, denied scan.result.ranges _ c.if-not-seen-2.true scan.ensures.ranges)

pub returns : goal.returns
returns c =
    let good : let a = c.args in ListGood a.host.now a.at a.elements a.bytes = let scan = c.scan-seen in
    let pre = c.requires in
    good_list _ _ _ _ scan.result (pre.0, pre.1) pre.2 scan.ensures c.if-not-seen.false c.if-seen-bytes.false in
    let scan = c.scan-seen in
    (good, granted scan.result.ranges _ c.if-not-seen-2.false scan.ensures.ranges)
