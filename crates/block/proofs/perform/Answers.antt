-- What is stored is the plan's, and the record and the travel are as they are defined.
use Prim.Native.Nat.{ℕ}
use mathlib.Core.Path.{◌∙◌, ap, refl}
use Rattle.unit.specs.Standing.{by_value}
use Rattle.block.specs.Block.{left_by}
use Rattle.transfer.specs.declared.Moved.{Moved}
use mir.Syntax.{w32}
use mir.ValLaws.{to_z-of_z}
use Rattle.block.proofs.perform.Goals as goal

pub returns : goal.returns
returns c =
    let carried = c.carry_and_report-m.ensures in
    let sectors = ap (λ (m : Moved). m.sectors) carried.result in
    let u = c.args.u.now in
    let left = c.left-unit.ensures ∙ ap (λ (n : ℕ). by_value (left_by u n c.args.plan.leaving)) sectors in
    record {
      result =
          rw (to_z-of_z w32 c.gone.result (record { sfits = c.gone.type_inv }), c.gone.ensures, left, carried.result) refl;
      table = c.leave_table.ensures _;
      stored = carried.stored;
    }
