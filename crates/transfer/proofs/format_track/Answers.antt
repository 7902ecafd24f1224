-- A request that does not fit stores nothing. One that fits is scanned, and the sectors that come are filled.
-- The two promises together are the result's two halves.
use Rattle.std.proofs.Common.{Some}
use mathlib.Core.Path.{ap, refl, sym, ◌∙◌}
use native.Mathlib.Omega.{arith}
use lib.ListN.{length}
use Rattle.geometry.proofs.Answers.{at_sector, no_sector}
use Rattle.transfer.specs.Stores.{after}
use Rattle.transfer.proofs.Filling.{fill_fits, filled, known, track_fit, track_unfit}
use Rattle.unit.specs.Standing.{geometry}
use Rattle.transfer.proofs.format_track.Goals as goal

pub returns-then-not-track_fits : goal.returns-then-not-track_fits
unfolding after
returns-then-not-track_fits c =
    let a = c.args in
    rw (track_unfit a.image.now a.u.now a.spot a.at (length a.host.now) c.if-not-track_fits.ensures)
    (record { result = refl; stores = refl })

pub unreachable-requires : goal.unreachable-requires
unreachable-requires c =
    let a = c.args in
    let g = c.geometry-g.ensures in
    (omega
    (arith, no_sector (geometry a.u.now) a.spot.place (rw g at (sym c.sector.ensures ∙ c.in_default.is)), c.if-not-track_fits.ensures))

pub reach-moved-requires : goal.reach-moved-requires
reach-moved-requires c =
    let f = c.if-not-track_fits.ensures in
    rw (c.sectors_a_track.ensures, c.geometry-g.ensures) (f.some, (f.inside, f.held))

pub fill-requires : goal.fill-requires
fill-requires c =
    let a = c.args in
    let begins = (at_sector c.geometry-g.result a.spot.place _ (sym c.sector.ensures ∙ c.in-Some.is)).1.0 in
    let k = known a.image.now a.u.now a.spot a.at _ _ _ _ _ c.geometry-g.ensures begins c.bytes_a_sector.ensures c.sectors_a_track.ensures c.reach-moved.ensures in
    fill_fits a.image.now a.u.now a.spot a.at _ _ _ _ k c.if-not-track_fits.ensures

pub returns : goal.returns
returns c =
    let a = c.args in
    let begins = (at_sector c.geometry-g.result a.spot.place _ (sym c.sector.ensures ∙ c.in-Some.is)).1.0 in
    let k = known a.image.now a.u.now a.spot a.at _ _ _ _ _ c.geometry-g.ensures begins c.bytes_a_sector.ensures c.sectors_a_track.ensures c.reach-moved.ensures in
    rw (track_fit a.image.now a.u.now a.spot a.at (length a.host.now) c.if-not-track_fits.ensures)
    (record { result = ap Some k.comes; stores = filled a.image.now a.u.now a.spot a.at _ _ _ _ _ k c.fill.ensures })
