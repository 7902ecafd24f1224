-- The one piece fits, and its bytes are the block's data.
use mathlib.Core.List.{[], ◌∷◌}
use mathlib.Core.Path.{sym, ap, ◌∙◌}
use Rattle.transfer.specs.Runs.{piece_byte}
use Rattle.block.specs.Block.{data_byte}
use Rattle.block.proofs.Gathered.{made_same, one_piece_byte, piece_fits}
use Rattle.block.proofs.in_one_piece.Goals as goal

pub begin-requires : goal.begin-requires
begin-requires c =
    let a = c.args in
    let pre = c.requires in
    (pre.0, rw c.job_bytes.ensures (piece_fits a.host.now a.image.now a.u.now a.job pre.1.1 a.address pre.1.0))

pub returns : goal.returns
returns c =
    let a = c.args in
    let bytes = c.job_bytes in
    made_same a.image.now a.u.now a.job (piece_byte (bytes.result ∷ []) (a.address ∷ [])) (data_byte a.host.now a.job.buffer)
    (λ k h.
    one_piece_byte a.host.now a.address bytes.result k (rw bytes.ensures h)
    ∙ ap (λ x. data_byte a.host.now x k) (sym c.requires.1.0))
    a.at a.host.now _ _ _ c.begin.ensures
