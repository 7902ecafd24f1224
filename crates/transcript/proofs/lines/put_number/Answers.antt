-- The word, and then the number, which has at most 20 digits.
use native.Mathlib.Omega.{arith}
use Rattle.transcript.proofs.Texts.{decimal_short, put_then}
use Rattle.transcript.proofs.lines.put_number.Goals as goal

pub put_decimal-requires : goal.put_decimal-requires
put_decimal-requires c = omega (arith, decimal_short c.args.n (omega arith))

pub returns : goal.returns
returns c = put_then c.put-next.ensures c.put_decimal.ensures
