-- The list fits, so its elements are copied out, their pieces fit, and their bytes are the block's data.
use Prim.Native.Nat.{◌*◌}
use mathlib.Core.Path.{sym, ap, ◌∙◌}
use lib.ListN.{take}
use Rattle.geometry.specs.Drive.{B}
use Rattle.memory.specs.Pieces.{addresses_of, lengths_of}
use Rattle.transfer.specs.Runs.{piece_byte}
use Rattle.block.specs.Block.{data_byte}
use Rattle.block.proofs.Gathered.{copied_out, elements_fit, list_byte, list_good, made_same}
use Rattle.unit.specs.Standing.{geometry}
use Rattle.block.proofs.through_list.Goals as goal

pub slice_bounds-lengths-end : goal.slice_bounds-lengths-end
slice_bounds-lengths-end c =
    let a = c.args in
    (copied_out a.host.now a.image.now a.u.now a.job c.requires.1.1 a.address a.elements c.requires.1.0 _ c.copy_out-pieces.ensures).lengths

pub begin-requires : goal.begin-requires
begin-requires c =
    let a = c.args in
    let u = a.u.now in
    let copied = copied_out a.host.now a.image.now u a.job c.requires.1.1 a.address a.elements c.requires.1.0 _ c.copy_out-pieces.ensures in
    (c.requires.0, rw copied.out (elements_fit a.host.now a.image.now u a.job c.requires.1.1 a.address a.elements c.requires.1.0))

pub returns : goal.returns
returns c =
    let a = c.args in
    let u = a.u.now in
    let pre = c.requires in
    let n = a.elements in
    let host = a.host.now in
    let copied = copied_out host a.image.now u a.job pre.1.1 a.address n pre.1.0 _ c.copy_out-pieces.ensures in
    made_same a.image.now u a.job
    (piece_byte (take n (lengths_of host a.address n)) (take n (addresses_of host a.address n))) (data_byte host a.job.buffer)
    (λ k h.
    list_byte host a.address n (a.job.span.count * B (geometry u)) (list_good host a.image.now u a.job pre.1.1 a.address n pre.1.0) k
    ∙ ap (λ x. data_byte host x k) (sym pre.1.0))
    a.at host _ _ _ (rw copied.out at c.begin.ensures)
