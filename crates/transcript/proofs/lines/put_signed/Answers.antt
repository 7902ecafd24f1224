-- A number below half the range is put as it is, any other as a minus and what is left of the range.
use native.Mathlib.Omega.{arith}
use Rattle.transcript.specs.Text.{letters, letters_from}
use Rattle.transcript.proofs.Texts.{put_then, signed_minus, signed_plain}
use Rattle.transcript.proofs.lines.put_signed.Goals as goal

pub returns-then-n-lt2147483648 : goal.returns-then-n-lt2147483648
returns-then-n-lt2147483648 c = rw (signed_plain c.args.n (omega arith)) c.put_number.ensures

pub returns : goal.returns
unfolding letters letters_from
returns c = rw (signed_minus c.args.n (omega arith)) (put_then c.put-next.ensures c.put_number-2.ensures)
