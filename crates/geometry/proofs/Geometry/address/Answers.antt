-- A number of the volume has its digits, by the tracks that the order has the quicker count, and its head is one of the volume's.
-- The address is then the definition's, with the volume's heads and start head and the order's exchange as the calls gave them.
use Prim.Native.Nat.{◌<◌}
use mathlib.Core.Path.{sym}
use native.Mathlib.Omega.{arith}
use Rattle.geometry.specs.Drive.{volume_sectors}
use Rattle.geometry.specs.Sectors.Inside.{address_of_is}
use Rattle.geometry.proofs.Answers.{found_inside, found_outside}
use Rattle.geometry.proofs.Laws.{in_volume, number_below}
use Rattle.geometry.proofs.Geometry.address.Goals as goal

pub returns-then-volume_sectors-number : goal.returns-then-volume_sectors-number
returns-then-volume_sectors-number c = sym (found_outside _ _ _ (omega arith))

pub digits-slow-requires : goal.digits-slow-requires
digits-slow-requires c =
    let a = c.args in
    rw (c.ordered-each.ensures, c.heads_of.ensures.0) (number_below a.self a.v a.number (omega arith) 65536 (omega arith) (omega arith))

pub overflow_add-result : goal.overflow_add-result
overflow_add-result c =
    let a = c.args in
    rw (c.ordered-cylinder.ensures, c.digits-slow.ensures, c.ordered-each.ensures, c.heads_of.ensures.0)
    (omega (arith, in_volume a.self a.v a.number (omega arith)))

pub returns : goal.returns
returns c =
    let a = c.args in
    let inside : a.number < volume_sectors a.self a.v = omega arith in
    rw (found_inside, address_of_is, c.ordered-cylinder.ensures, c.digits-slow.ensures, c.ordered-each.ensures, c.heads_of.ensures.0, c.start_of.ensures.0)
