-- What inner functions promise each other of a table of which only the tracks that count were read: what stands for the others, and which tracks it has
-- once these are taken from the bytes. A run looks at no track that does not count, so that the others need not be read. Where the last one no longer stands as
-- unread, the whole table is known, and all of it is stored.
use Rattle.std.specs.Prelude.{ℕ, ◌*◌, min, List, ◌++◌, drop, get_or, replicate, take}
use Rattle.std.proofs.Math.Logic.{ite}
use Rattle.std.proofs.Math.Decide.{ℕ_discrete}
use Rattle.unit.specs.Standing.{UnitRecord, by_value, pairs, table, unit_of}
use Rattle.abi.specs.Layouts.{pairs_in, record_in, tracks_in, words_from}
use Rattle.wire.specs.Storing.{written}

-- It is the number of no track: the last byte of one is 00.
abbrev pub unread : ℕ
unread = 0xFFFFFFFF

abbrev pub nothing_read : List ℕ
nothing_read = replicate 64 unread

-- The tracks that count, read over it.
unfoldable pub tracks_read : List ℕ → List ℕ
tracks_read bytes = written nothing_read 0 (words_from bytes 20 (2 * min (pairs_in bytes) 32))

abbrev pub read_in : List ℕ → UnitRecord
read_in bytes = unit_of (by_value (record_in bytes)) (tracks_read bytes)

-- How many tracks at its head are known: those that count; and all of them where the last is, which a block that clears the table has written.
unfoldable pub known : (pairs : ℕ) → List ℕ → ℕ
known n ts = ite (ℕ_discrete (get_or ts 63 0) unread) (2 * min n 32) 64

-- A table with the others as another has them, and a record with the others as they stand in some bytes.
unfoldable pub filled : (others : List ℕ) → (pairs : ℕ) → List ℕ → List ℕ
filled others n ts = take (known n ts) ts ++ drop (known n ts) others

abbrev pub filled_in : List ℕ → UnitRecord → UnitRecord
filled_in bytes u = unit_of (by_value u) (filled (tracks_in bytes) (pairs u) (table u))
