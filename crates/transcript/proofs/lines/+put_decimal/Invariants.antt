-- A number below 10 is its digit. Any other is the number without its last digit, put by the function itself, and then that digit.
use Rattle.transcript.proofs.lines.+put_decimal.Given as goal

abbrev pub decreases-put_decimal : goal.decreases-put_decimal
decreases-put_decimal l = l.n
