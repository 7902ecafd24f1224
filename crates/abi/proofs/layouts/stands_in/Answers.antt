-- A record that is another by value does not stand in the bytes; of one that is the same, the tracks that are known say it.
-- The others are those of the bytes, whatever they are.
use mathlib.Core.Path.{◌≡◌, sym, ◌∙◌}
use native.Mathlib.Omega.{arith}
use lib.ListN.{length}
use Rattle.wire.proofs.Promises.{says_same, says_yes}
use Rattle.abi.proofs.Left.{known_stands, stands_known}
use Rattle.abi.proofs.layouts.stands_in.Goals as goal

pub returns-then-same-clause-fact : goal.returns-then-same-clause-fact
returns-then-same-clause-fact c =
    let asked = c.same in
    let a = c.args in
    let same = sym (says_yes asked.result _ c.if-same.true asked.ensures) ∙ c.record.ensures in
    let bytes = a.bytes.now in
    let u = a.u.now in
    let long : length a.u.now.tracks ≡ 64 = omega arith in
    says_same c.holds_tracks.result _ _ (known_stands bytes u long same) (stands_known bytes u long same)
    (rw (c.known_tracks.ensures.value, c.pairs.ensures) at c.holds_tracks.ensures)
