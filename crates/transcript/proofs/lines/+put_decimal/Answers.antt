-- A number below 10 is its digit. Any other is the number without its last digit, put by the function itself, and then that digit.
use native.Mathlib.Omega.{arith}
use Rattle.transcript.proofs.Texts.{byte_put, decimal_few, decimal_more, few_length, more_length, put_then}
use Rattle.transcript.proofs.lines.+put_decimal.Goals as goal

pub bounds-text-at : goal.bounds-text-at
bounds-text-at t c = omega (arith, few_length c.args.n c.if-n-lt10.true)

pub returns-then-n-lt10 : goal.returns-then-n-lt10
returns-then-n-lt10 t c =
    let a = c.args in
    rw (decimal_few a.n c.if-n-lt10.true, c.digit-last.ensures) (byte_put a.text.now a.at _)

pub put_decimal-next-requires : goal.put_decimal-next-requires
put_decimal-next-requires t c = omega (arith, more_length c.args.n (omega arith))

-- The last digit has its place after the others.
pub bounds-text-next : goal.bounds-text-next
bounds-text-next t c = omega (arith, c.put_decimal-next.ensures.after, more_length c.args.n (omega arith))

pub overflow_add-result-2 : goal.overflow_add-result-2
overflow_add-result-2 t c = omega (arith, c.put_decimal-next.ensures.after, more_length c.args.n (omega arith))

pub returns : goal.returns
returns t c =
    let put = c.put_decimal-next in
    rw (decimal_more c.args.n (omega arith), c.digit-last.ensures) (put_then put.ensures (byte_put put.new.text put.result _))
