-- Each test that fails is a reason for there to be nothing to inspect; where all three pass, the sector is there.
-- The geometry's own answer says whether it has the place, and where the sector begins.
use mathlib.Core.Path.{◌≡◌, sym, ◌∙◌}
use native.Mathlib.Omega.{arith}
use Rattle.wire.proofs.Promises.{says_no, says_yes}
use Rattle.geometry.specs.Drive.{need}
use Rattle.geometry.proofs.Answers.{at_sector, no_sector}
use Rattle.board.specs.Inspection.{Inspectable}
use Rattle.board.proofs.Parts.{sector_not_there, sector_there}
use Rattle.unit.specs.Standing.{geometry}
use Rattle.geometry.specs.Answers.{sector_at}
use Rattle.board.proofs.inspection.sector_part.Goals as goal

pub returns-then-not-counts_as_initialized : goal.returns-then-not-counts_as_initialized
returns-then-not-counts_as_initialized c =
    let u = c.counts_as_initialized in
    let not_there = says_no u.result _ c.if-not-counts_as_initialized.true u.ensures in
    c.no_part.ensures ∙ sym (sector_not_there _ _ _ _ (λ there. not_there there.initialized))

pub returns-then-long-need : goal.returns-then-long-need
returns-then-long-need c =
    let needed : let a = c.args in c.need.result ≡ need (geometry a.u.now) = rw c.geometry-g.ensures at c.need.ensures in
    let all = needed in
    c.no_part-then-long-need.ensures ∙ sym (sector_not_there _ _ _ _ (λ there. omega (arith, there.image)))

pub returns-in-Some : goal.returns-in-Some
returns-in-Some c =
    let needed : let a = c.args in c.need.result ≡ need (geometry a.u.now) = rw c.geometry-g.ensures at c.need.ensures in
    let sector_is : let a = c.args in
    c.sector.result ≡ sector_at (geometry a.u.now) a.place = rw c.geometry-g.ensures at c.sector.ensures in
    let a = c.args in
    let u = c.counts_as_initialized in
    let g = c.geometry-g in
    let all = needed in
    let found =
    at_sector (geometry a.u.now) a.place _
    (sym sector_is ∙ c.in-Some.is) in
    let there : Inspectable a.u.now a.long a.place =
    record {
      initialized = says_yes u.result _ c.if-not-counts_as_initialized.false u.ensures;
      inside = found.0;
      image = omega arith;
    } in
    rw (found.1.0, c.bytes_a_sector-bytes.ensures, g.ensures) (sym (sector_there a.unit a.u.now a.long a.place there))

pub returns-in-None : goal.returns-in-None
returns-in-None c =
    let sector_is : let a = c.args in
    c.sector.result ≡ sector_at (geometry a.u.now) a.place = rw c.geometry-g.ensures at c.sector.ensures in
    let a = c.args in
    let out =
    no_sector (geometry a.u.now) a.place
    (sym sector_is ∙ c.in-None.is) in
    c.no_part-in-None.ensures ∙ sym (sector_not_there _ _ _ _ (λ there. omega (arith, there.inside)))
