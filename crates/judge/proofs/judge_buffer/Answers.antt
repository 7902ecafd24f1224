-- A piece is judged by check 19 alone, a list by 18 and then by 19.
-- What `wire::holds` found of a piece, and `memory::list` of a list, is what those checks say.
use Rattle.std.proofs.Common.{Err, ℕ, ◌*◌}
use Rattle.std.proofs.lemmas.Result.{err_from_is_err_and}
use mathlib.Core.Path.{ap, subst, sym, ◌∙◌}
use native.Mathlib.Omega.{arith}
use Rattle.wire.proofs.Numbers.{product_below}
use Rattle.wire.proofs.Promises.{says_no, says_yes}
use Rattle.memory.specs.Scan.{Listing}
use Rattle.judge.proofs.Tasks.{list_done, list_refused, piece_19, piece_done}
use Rattle.judge.proofs.judge_buffer.Goals as goal

pub overflow_mul-bytes : goal.overflow_mul-bytes
overflow_mul-bytes c = record { fits = product_below _ _ 65535 65535 _ (omega arith) (omega arith) tt }

pub returns-then-not-holds : goal.returns-then-not-holds
returns-then-not-holds c =
    let held = c.holds in
    sym
    (piece_19 _ _ _ _ _ _ c.in-Piece.is
    (says_no held.result _ c.if-not-holds.true (rw c.sector_bytes.ensures.0 at held.ensures)))

pub returns-else-not-holds : goal.returns-else-not-holds
returns-else-not-holds c =
    c.accepted.ensures
    ∙ sym
    (piece_done _ _ _ _ _ _ c.in-Piece.is _ c.requires.starts
    (says_yes c.holds.result _ c.if-not-holds.false (rw c.sector_bytes.ensures.0 at c.holds.ensures)))

pub returns-in_ok-list-in-List : goal.returns-in_ok-list-in-List
returns-in_ok-list-in-List c =
    let good = rw c.sector_bytes.ensures.0 at c.in_ok-list-in-List.ensures in
    c.accepted-in-List.ensures ∙ sym (list_done _ _ _ _ _ _ _ c.in-List.is good.0 _ c.requires.starts good.1)

pub returns-in_err-list-in-List : goal.returns-in_err-list-in-List
returns-in_err-list-in-List c =
    let l = c.in-List in
    let fault =
    subst (λ (n : ℕ). Listing c.args.host.now l.at l.elements (c.args.m.count * n) (Err c.in_err-list-in-List.field-0.0))
    c.sector_bytes.ensures.0 c.in_err-list-in-List.ensures in
    let p = err_from_is_err_and _ c.from_residual.ensures.1 in
    p.1 ∙ ap Err p.2 ∙ sym (list_refused _ _ _ _ _ _ _ l.is _ fault)
