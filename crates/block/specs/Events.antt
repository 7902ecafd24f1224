-- The event entry of a block (01, One run: "status, error, level, vector, then travel").
use Rattle.std.specs.Prelude.{ℕ, ◌+◌, ◌-◌, ◌^◌, cond, List, ◌∷◌, ℤ, pos, negsuc, ◌-ℤ◌, Err, Ok}
use Rattle.answers.specs.Numbers.{BlockAnswer, status_of}
use Rattle.iopb.specs.declared.Block.{Block}
use Rattle.iopb.specs.Errors.{error_byte}
use Rattle.wire.specs.Words.{four_bytes}

-- "Travel is the new cylinder minus the old one"
abbrev pub travel_to : ℕ → ℕ → ℤ
travel_to old new = pos new -ℤ pos old

-- "a big-endian 32-bit two's complement number": -1 is FFFFFFFF.
abbrev pub twos_complement : ℤ → ℕ
twos_complement (pos n) = n
twos_complement (negsuc n) = 2 ^ 32 - (n + 1)

-- "Level and vector are zero unless IE is set; the vector is the normal one at status 80, else the error one."
abbrev pub level_of : Block → ℕ
level_of b = cond b.options.interrupt b.level 0

abbrev pub vector_of : Block → BlockAnswer → ℕ
vector_of b (Ok _) = cond b.options.interrupt b.normal_vector 0
vector_of b (Err r) = cond b.options.interrupt b.error_vector 0

-- The 8 bytes.
abbrev pub entry : Block → BlockAnswer → ℤ → List ℕ
entry b answer travel =
    status_of answer ∷ error_byte answer ∷ level_of b ∷ vector_of b answer ∷ four_bytes (twos_complement travel)
