-- What a block has left of its answer when it has ended (01, One run): in its own word 1, and in its event entry, byte by byte; and the range of a travel.
use Rattle.std.specs.Prelude.{ℕ, ◌+◌, ◌*◌, ◌<◌, ◌≡◌, ℤ, pos, negsuc, ◌≤ℤ◌, get_or}
use Rattle.answers.specs.Numbers.{BlockAnswer, status_of}
use Rattle.iopb.specs.declared.Block.{Block}
use Rattle.iopb.specs.Errors.{error_byte}
use Rattle.transfer.specs.Stores.{Buffers}
use Rattle.block.specs.Events.{level_of, twos_complement, vector_of}
use Rattle.wire.specs.Words.{four_bytes}

-- A block at an address, run after i others, that came to an answer and went so far.
pub record Tells (b : Block) (at i : ℕ) (answer : BlockAnswer) (travel : ℤ) (m : Buffers) : Type 0 where
  -- "the final status and error", in word 1
  pub status : get_or m.host (at + 2) 0 ≡ status_of answer
  pub error : get_or m.host (at + 3) 0 ≡ error_byte answer
  -- "status, error, level, vector, then travel", in "the 8 bytes at 8(k - 1)"
  pub entry_status : get_or m.events (8 * i) 0 ≡ status_of answer
  pub entry_error : get_or m.events (8 * i + 1) 0 ≡ error_byte answer
  pub entry_level : get_or m.events (8 * i + 2) 0 ≡ level_of b
  pub entry_vector : get_or m.events (8 * i + 3) 0 ≡ vector_of b answer
  pub entry_travel : (k : ℕ) → k < 4 → get_or m.events (8 * i + 4 + k) 0 ≡ get_or (four_bytes (twos_complement travel)) k 0

-- "i32 difference from −4,095 to 4,095" (01, Which places take which form)
abbrev pub InRange : ℤ → Type 0
InRange travel = (negsuc 4094 ≤ℤ travel) × (travel ≤ℤ pos 4095)
