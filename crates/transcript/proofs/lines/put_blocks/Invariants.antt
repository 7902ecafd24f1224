-- Before the k-th block is put the lines of those before it stand in the text, and each took at most 96 bytes.
use Prim.Native.Nat.{◌+◌, ◌-◌, ◌*◌, ◌≤◌}
use Rattle.transcript.specs.Steps.{Appended}
use Rattle.transcript.specs.Text.{block_lines}
use Rattle.transcript.proofs.lines.put_blocks.Given as goal

abbrev pub invariant-loop-k : goal.invariant-loop-k
invariant-loop-k l =
    (l.k ≤ l.blocks + 1) × (Appended l.initial.text l.at (block_lines l.events (l.k - 1)) l.text l.next × (l.next ≤ l.at + 96 * (l.k - 1)))
