-- The line is its two parts in a row; the words are their letters.
use native.Mathlib.Omega.{arith}
use Rattle.transcript.specs.Text.{letters, letters_from}
use Rattle.transcript.proofs.Texts.{decimal_short, put_then}
use Rattle.transcript.proofs.lines.put_refusal.Goals as goal

pub put-requires : goal.put-requires
put-requires c = omega (arith, decimal_short c.args.at (omega arith))

pub returns : goal.returns
unfolding letters letters_from
returns c = put_then c.put_number-next.ensures c.put.ensures
