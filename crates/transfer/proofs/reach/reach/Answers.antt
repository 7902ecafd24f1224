-- A place on the drive has a mark, and the marks that follow are in the image; what is found there says how far.
-- What it came to is the row's law.
use Prim.Native.Nat.{◌+◌, ◌-◌}
use mathlib.Core.Path.{ap, sym, ◌∙◌}
use native.Mathlib.Omega.{arith}
use lib.ListN.{length}
use Rattle.geometry.proofs.Answers.{at_sector, no_sector}
use Rattle.geometry.proofs.Laws.{marks_consecutive, sector_in_image}
use Rattle.transfer.specs.Progress.{Progress}
use Rattle.transfer.specs.Runs.{reached}
use Rattle.transfer.proofs.Rows.{row_comes}
use Rattle.transfer.proofs.reach.reach.Goals as goal

pub unreachable-requires : goal.unreachable-requires
unreachable-requires c =
    let a = c.args in
    (omega (arith, no_sector a.g a.place (sym c.sector.ensures ∙ c.in_default.is)))

pub readable-good-requires : goal.readable-good-requires
readable-good-requires c =
    let a = c.args in
    let is = (at_sector a.g a.place _ (sym c.sector.ensures ∙ c.in-Some.is)).1.1 in
    let last = (sector_in_image a.g (length a.image.now) (a.place + (a.n - 1)) (omega arith) (omega arith)).1 in
    omega (arith, is, last, marks_consecutive a.g a.place (a.n - 1))

pub returns : goal.returns
returns c =
    let a = c.args in
    let found = c.readable-good in
    c.came.ensures
    ∙ ap (λ (p : Progress). reached p)
    (sym
    (row_comes a.image.now a.g a.heeds a.place a.n _
    (at_sector a.g a.place _ (sym c.sector.ensures ∙ c.in-Some.is)).1.1
    found.result found.ensures))
