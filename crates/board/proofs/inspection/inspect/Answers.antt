-- The part that was chosen lies in the image that it names, so it can be cut out there.
-- What is cut out are the part's bytes, whichever of the two images that is, and it lies at the part's place there.
use Prim.Native.Nat.{◌^◌}
use native.Mathlib.Omega.{arith}
use Rattle.unit.specs.declared.UnitNumber.TheVariants.{Zero, One}
use Rattle.board.proofs.Parts.{InItsImage, image_below, part_cut, part_lies, part_place}
use Rattle.board.proofs.inspection.inspect.Goals as goal

pub overflow_add-end : goal.overflow_add-end
overflow_add-end c =
    let lies : let a = c.args in InItsImage a.image0.now a.image1.now c.part_of-part.result = let a = c.args in
    rw c.part_of-part.ensures
    (part_lies a.image0.now a.image1.now a.units.now.zero a.units.now.one a.unit a.place) in
    let p = c.part_of-part.result in
    let a = c.args in
    let fits = image_below a.image0.now a.image1.now p.unit (2 ^ 64) (omega arith) (omega arith) in
    omega (arith, lies)

pub slice_bounds-result-end : goal.slice_bounds-result-end
slice_bounds-result-end c =
    let lies : let a = c.args in InItsImage a.image0.now a.image1.now c.part_of-part.result = let a = c.args in
    rw c.part_of-part.ensures
    (part_lies a.image0.now a.image1.now a.units.now.zero a.units.now.one a.unit a.place) in
    rw c.in-Zero.is at lies

pub returns-in-Zero : goal.returns-in-Zero
returns-in-Zero c =
    let a = c.args in
    let p = c.part_of-part in
    rw (← p.ensures)
    (record { bytes = part_cut a.image0.now a.image1.now p.result Zero c.in-Zero.is; lies = part_place a.image0.ref_ptr a.image1.ref_ptr p.result Zero c.in-Zero.is })

pub slice_bounds-result-end-in-One : goal.slice_bounds-result-end-in-One
slice_bounds-result-end-in-One c =
    let lies : let a = c.args in InItsImage a.image0.now a.image1.now c.part_of-part.result = let a = c.args in
    rw c.part_of-part.ensures
    (part_lies a.image0.now a.image1.now a.units.now.zero a.units.now.one a.unit a.place) in
    rw c.in-One.is at lies

pub returns-in-One : goal.returns-in-One
returns-in-One c =
    let a = c.args in
    let p = c.part_of-part in
    rw (← p.ensures)
    (record { bytes = part_cut a.image0.now a.image1.now p.result One c.in-One.is; lies = part_place a.image0.ref_ptr a.image1.ref_ptr p.result One c.in-One.is })
