-- A request that does not fit stores nothing. One that fits is surveyed, and the sectors that come are carried.
-- The two promises together are the result's two halves.
use Rattle.std.proofs.Common.{Some}
use mathlib.Core.Path.{ap, refl, ◌∙◌}
use lib.ListN.{length}
use Rattle.transfer.specs.Data.{data_on}
use Rattle.transfer.specs.Runs.{progress_from, reached}
use Rattle.transfer.specs.Stores.{after}
use Rattle.transfer.proofs.Wholes.{spans_fit, reached_held, reached_pieces, reached_spans, sectors_fit, sectors_unfit}
use Rattle.transfer.proofs.move_sectors.Goals as goal

pub returns-then-not-sectors_fit : goal.returns-then-not-sectors_fit
unfolding after
returns-then-not-sectors_fit c =
    let a = c.args in
    rw
    (sectors_unfit (length a.host.now) a.image.now a.u.now a.span a.to_host a.past_marks a.lengths.now a.addresses.now
    c.if-not-sectors_fit.ensures.says)
    (record { result = refl; stores = refl })

pub survey-moved-requires : goal.survey-moved-requires
survey-moved-requires c =
    let fits = c.if-not-sectors_fit.ensures in
    (spans_fit _ _ _ _ _ _ fits.says fits.small, fits.says.held)

pub carry-requires : goal.carry-requires
carry-requires c =
    let a = c.args in
    let u = a.u.now in
    let fits = c.if-not-sectors_fit.ensures in
    let spans = spans_fit u _ _ _ _ _ fits.says fits.small in
    rw c.survey-moved.ensures (
      reached_spans a.image.now u a.span c.heeds.result spans,
      (
        reached_held a.image.now u a.span c.heeds.result spans fits.says.held,
        reached_pieces a.image.now u a.span c.heeds.result (length a.host.now) a.lengths.now a.addresses.now fits.says.pieces,
      ),
    )

pub returns : goal.returns
unfolding data_on
returns c =
    let a = c.args in
    let comes =
    c.survey-moved.ensures
    ∙ ap (λ h. reached (progress_from a.image.now a.u.now a.span.volume h a.span.first a.span.count)) c.heeds.ensures in
    rw
    (sectors_fit (length a.host.now) a.image.now a.u.now a.span a.to_host a.past_marks a.lengths.now a.addresses.now
    c.if-not-sectors_fit.ensures.says)
    (record { result = ap Some comes; stores = rw comes at c.carry.ensures })
