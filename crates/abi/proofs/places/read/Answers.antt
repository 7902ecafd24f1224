-- The unit is the one that stands in the bytes, and whether it counts is asked of it.
-- A record that is too short never comes here.
use mathlib.Core.Path.{◌∙◌, ap}
use native.Mathlib.Omega.{arith}
use Rattle.std.specs.Prelude.{Ok}
use Rattle.unit.specs.Standing.{UnitRecord}
use Rattle.wire.proofs.Promises.{says_no, says_yes}
use Rattle.abi.proofs.AsRead.{counts_as_read, counts_in_bytes}
use Rattle.abi.proofs.Readings.{read_counts, read_not}
use Rattle.abi.proofs.places.read.Goals as goal

pub returns-then-counts_as_initialized : goal.returns-then-counts_as_initialized
returns-then-counts_as_initialized c =
    let is = c.unit_in.ensures in
    let so = says_yes c.counts_as_initialized.result _ c.if-counts_as_initialized.true c.counts_as_initialized.ensures in
    ap (λ (u : UnitRecord). Ok u) is ∙ read_counts _ (omega arith) (counts_as_read _ (rw is at so))

pub returns-else-counts_as_initialized : goal.returns-else-counts_as_initialized
returns-else-counts_as_initialized c =
    let is = c.unit_in.ensures in
    let not_so = says_no c.counts_as_initialized.result _ c.if-counts_as_initialized.false c.counts_as_initialized.ensures in
    read_not _ (omega arith) (λ so. (rw is at not_so) (counts_in_bytes _ so))
