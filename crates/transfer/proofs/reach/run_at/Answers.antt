-- A number of the volume has a landing; its run is the rest of its track, cut to what was asked for.
-- Both are positive, so the run has a sector.
use mathlib.Core.Path.{ap, sym, ◌∙◌}
use native.Mathlib.Omega.{arith}
use Rattle.unit.specs.declared.Spot.{Spot}
use Rattle.unit.proofs.Answers.{at_landing, no_landing}
use Rattle.unit.proofs.Laws.{spot_inside}
use Rattle.transfer.proofs.reach.run_at.Goals as goal

pub unreachable-requires : goal.unreachable-requires
unreachable-requires c =
    let a = c.args in
    (omega (arith, no_landing a.u.now a.v a.number (sym c.land.ensures ∙ c.in_default.is)))

pub returns : goal.returns
returns c =
    let a = c.args in
    let spot = c.in-Some.spot in
    let landed = at_landing a.u.now a.v a.number spot (sym c.land.ensures ∙ c.in-Some.is) in
    let inside = spot_inside a.u.now a.v a.number (omega arith) in
    let is = landed.1 in
    record {
      place = ap (λ (x : Spot). x.place) is;
      some = omega (arith, ap (λ (x : Spot). x.rest) is, inside.some);
      asked = omega arith;
      track = omega (arith, ap (λ (x : Spot). x.rest) is);
    }
