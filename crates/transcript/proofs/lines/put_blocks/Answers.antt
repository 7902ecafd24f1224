-- A turn puts one line more. The last block is the last turn, and with none there is no turn.
use mathlib.Core.Path.{◌≡◌}
use Prim.Native.Nat.{◌+◌, ◌-◌}
use native.Mathlib.Omega.{arith}
use Rattle.transcript.proofs.Texts.{block_line_short, no_lines, nothing_put, one_line_more}
use Rattle.transcript.proofs.lines.put_blocks.Goals as goal

pub loop-k-init : goal.loop-k-init
loop-k-init c = (omega arith, (rw (no_lines c.args.events.now) (nothing_put c.args.text.now c.args.at), omega arith))

pub loop-k-preserved : goal.loop-k-preserved
loop-k-preserved c =
    let events = c.args.events.now in
    let now = c.loop-k in
    let put = c.put_block-next.ensures in
    let turns : now.k + 1 - 1 ≡ now.k = omega arith in
    rw turns
    (omega arith, (one_line_more events now.k (omega arith) now.invariant.1.0 put, omega (arith, put.after, block_line_short events now.k (omega arith))))

pub returns : goal.returns
returns c =
    let first : c.loop-k.k - 1 ≡ c.args.blocks = omega arith in
    rw first at c.loop-k.invariant.1.0

pub returns-2 : goal.returns-2
returns-2 c =
    let last : c.loop-k.k ≡ c.args.blocks = omega arith in
    rw last at (one_line_more c.args.events.now c.loop-k.k (omega arith) c.loop-k.invariant.1.0 c.put_block-next.ensures)
