-- The bytes of a UIB and of a list that judging a request reads, in the words of its checks. The paper's paragraph on host bytes stands in demands
-- (Footprint), in the block's own fields; that the two say the same is shown (proofs/Read).
use Rattle.geometry.specs.declared.Geometry.{Geometry}
use Rattle.std.specs.Prelude.{ℕ, ◌*◌, ◌≤◌, ◌≡◌, Option}
use Rattle.wire.specs.Among.{Among}
use Rattle.wire.specs.Memory.{InMemory}
use Rattle.answers.specs.declared.Refusal.TheVariants.{ListBad, UibOutsideLimits}
use Rattle.request.specs.declared.Buffer.TheVariants.{List as Elements}
use Rattle.request.specs.declared.Move.{Move}
use Rattle.request.specs.declared.Task.TheVariants.{Move as Moves, Initialize}
use Rattle.judge.specs.Given.{Asked}
use Rattle.judge.specs.Passed.{NoneGiven, before, checks}

-- "a UIB that passed check 12": of an 87 that no check before 13 refuses, that of 24 (02, K10) included, so many bytes at the UIB's
-- address. Both numbers are those of the block that asks.
pub record InUib (a : Asked) (at bytes x : ℕ) : Type 0 where
  pub shape : Option Geometry
  pub asks : a.task ≡ Initialize shape
  pub passed : NoneGiven (before UibOutsideLimits (checks a))
  pub among : Among at bytes x

-- "a list of 1 to 64 elements that lies at an even address and in memory, once checks 10 to 17 are passed": of an A1 or A2 that no check
-- before 18 refuses, 24 among them. A list of 65, or one of a block that an earlier check refuses, is not read; one refused for its sum is.
pub record InList (a : Asked) (x : ℕ) : Type 0 where
  pub move : Move
  pub asks : a.task ≡ Moves move
  pub at : ℕ
  pub elements : ℕ
  pub buffer : move.buffer ≡ Elements at elements
  pub passed : NoneGiven (before ListBad (checks a))
  pub some : 1 ≤ elements
  pub most : elements ≤ 64
  pub place : InMemory a.host at (8 * elements)
  pub among : Among at (8 * elements) x
