-- Each buffer of a layout that is too short is met in turn, and then a controller that there is not.
-- Past the four tests nothing refuses.
use Rattle.abi.proofs.Called.{refused_0, refused_1, refused_2, refused_3}
use native.Mathlib.Omega.{arith}
use Rattle.abi.proofs.asked.Goals as goal

pub returns-then-record0-lt-RECORD_LEN : goal.returns-then-record0-lt-RECORD_LEN
returns-then-record0-lt-RECORD_LEN c = λ l done is0 is1 is2. refused_0 _ _ _ _ (omega (arith, is0))

pub returns-then-record1-lt-RECORD_LEN : goal.returns-then-record1-lt-RECORD_LEN
returns-then-record1-lt-RECORD_LEN c = λ l done is0 is1 is2. refused_1 _ _ _ _ (omega (arith, is0)) (omega (arith, is1))

pub returns-then-third-lt-OUTCOME_LEN : goal.returns-then-third-lt-OUTCOME_LEN
returns-then-third-lt-OUTCOME_LEN c = λ l done is0 is1 is2. refused_2 _ _ _ _ (omega (arith, is0)) (omega (arith, is1)) (omega (arith, is2))

pub returns-then-controller-gt1 : goal.returns-then-controller-gt1
returns-then-controller-gt1 c = λ l done is0 is1 is2. refused_3 _ _ _ _ (omega (arith, is0)) (omega (arith, is1)) (omega (arith, is2)) (omega arith)

pub returns : goal.returns
returns c = (c.controller_of.ensures, (omega arith, (omega arith, (omega arith, omega arith))))
