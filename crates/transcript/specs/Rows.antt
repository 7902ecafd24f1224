-- The steps of a session in a row, as a program makes them that only reads, calls and writes. From the state and the units of `begin`, with
-- buffers that have room, and for an input of fewer than 2^64 - 16,387 bytes, they print what `session` says: the theorem of proofs/Rows.
use Rattle.std.specs.Prelude.{ℕ, zero, suc, List, [], ◌++◌, drop, length, take}
use Rattle.transcript.specs.declared.Next.{Next}
use Rattle.transcript.specs.declared.Next.TheVariants.{On, Over, NoRoom}
use Rattle.transcript.specs.declared.State.{State}
use Rattle.transcript.specs.Steps.{SessionLent, spoken, wanted}

-- What is read of the input for one field: 3 bytes, and on up to as many in all as these want; fewer where the input ends.
abbrev pub read_for : List ℕ → List ℕ
read_for rest = take (wanted (take 3 rest)) rest

-- What goes on after a step, or does not.
abbrev pub onward : (State → List ℕ) → Next → List ℕ
onward next (On s) = next s
onward next Over = []
onward next NoRoom = []

-- Each step is made on the bytes read for it and on the buffers as the step before left them, and what it says is written.
unfoldable pub in_a_row : ℕ → State → SessionLent → List ℕ → List ℕ
in_a_row zero s l rest = []
in_a_row (suc k) s l rest =
    let x = spoken (read_for rest) s l in
    take x.said.text x.lent.text ++
    onward (λ s'. in_a_row k s' x.lent (drop (length (read_for rest)) rest)) x.said.next
