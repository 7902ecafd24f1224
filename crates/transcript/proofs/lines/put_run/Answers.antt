-- The line is its four parts in a row; the words are their letters, and each number has at most 20 digits.
use native.Mathlib.Omega.{arith}
use Rattle.transcript.specs.Text.{letters, letters_from}
use Rattle.transcript.proofs.Texts.{decimal_short, put_then, put_word}
use Rattle.transcript.proofs.lines.put_run.Goals as goal

pub put_number-next-requires-2 : goal.put_number-next-requires-2
put_number-next-requires-2 c = omega (arith, decimal_short c.args.answer (omega arith))

pub put_number-next-requires-3 : goal.put_number-next-requires-3
put_number-next-requires-3 c =
    let a = c.args in
    omega (arith, decimal_short a.answer (omega arith), decimal_short a.blocks (omega arith))

pub put-requires : goal.put-requires
put-requires c =
    let a = c.args in
    omega (
      arith,
      decimal_short a.answer (omega arith),
      decimal_short a.blocks (omega arith),
      decimal_short a.sectors (omega arith),
    )

pub returns : goal.returns
unfolding letters letters_from
returns c =
    put_then
    (put_word (letters " sectors ") _
    (put_word (letters " blocks ") _ c.put_number-next.ensures c.put_number-next-2.ensures)
    c.put_number-next-3.ensures)
    c.put.ensures
