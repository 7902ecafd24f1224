-- The loop stands before the next piece, as the law of that name says; a turn carries that piece.
-- It is left when all bytes are carried, and there are pieces enough for that.
use mathlib.Core.Path.{refl}
use native.Mathlib.Omega.{arith}
use Rattle.transfer.proofs.AllPieces.{a_piece, before_first, piece_carried, piece_fits}
use Rattle.transfer.proofs.carry.carry.Goals as goal

pub loop-i-init : goal.loop-i-init
loop-i-init c =
    let a = c.args in
    before_first a.u.now a.span a.to_host a.lengths.now a.addresses.now a.host.now a.image.now _
    (record { stands = record { whole = omega arith; run = λ i h. absurd (omega arith) }; here = omega arith; most = omega arith })

pub carry_piece-c-requires : goal.carry_piece-c-requires
carry_piece-c-requires c =
    let a = c.args in
    let u = a.u.now in
    let now = c.loop-i in
    let next =
    a_piece u a.span a.to_host a.lengths.now a.addresses.now a.host.now a.image.now _ _ _ _ _ _ _ _ _ now.invariant c.span_bytes-all.ensures c.if-done-all.false
    (omega arith) c.from.ensures refl c.lesser-n.ensures in
    piece_fits u a.span a.to_host a.lengths.now a.addresses.now a.host.now a.image.now c.requires.1.1 _ _ _ _ _ _ _ now.invariant next c.requires.0 c.requires.1.0

pub loop-i-preserved : goal.loop-i-preserved
loop-i-preserved c =
    let a = c.args in
    let u = a.u.now in
    let now = c.loop-i in
    let next =
    a_piece u a.span a.to_host a.lengths.now a.addresses.now a.host.now a.image.now _ _ _ _ _ _ _ _ _ now.invariant c.span_bytes-all.ensures c.if-done-all.false
    (omega arith) c.from.ensures refl c.lesser-n.ensures in
    let all = c.carry_piece-c in
    piece_carried u a.span a.to_host a.lengths.now a.addresses.now a.host.now a.image.now c.requires.1.1 _ _ _ _ _ _ _ now.invariant next
    all.new.host all.new.image all.result (omega arith) (omega arith) all.ensures
