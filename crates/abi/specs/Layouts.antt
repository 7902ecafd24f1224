-- How a unit record and the outcome of a run cross the boundary to a program that is not written in Rattle: as bytes. This is version 2;
-- one number serves these two and what a step leaves (Stepping). Each says its version and its length, since they may grow. Numbers are big-endian. Bytes of a longer
-- buffer past the layout are not touched.
--
--   record, 276 bytes                                  outcome, 16 bytes
--    0        version, 02                               0      version, 02
--    1        01 initialized, any other not             1      00
--    2, 3     length, 0114 (hex)                        2, 3   length, 0010 (hex)
--    4, 5     cylinders C                               4      the run's answer, 0 to 6
--    6, 7     sectors a track S                         5      with answer 4 the failed block's answer, 10 and up, else 00
--    8, 9     bytes a sector B                          6, 7   00
--   10, 11    volume 0: start head, heads               8..11  blocks run
--   12, 13    volume 1: start head, heads              12..15  sectors moved
--   14, 15    the cylinder that the heads stand on
--   16        the order of tracks: 00 by head, 01 by cylinder, any other not initialized
--   17        the holder: 00 nobody, 01 the first controller, 02 the second, any other not initialized
--   18, 19    the pairs that count
--   20..275   32 pairs of tracks, bad and spare: cylinder (2), head, 00
use Rattle.std.specs.Prelude.{ℕ, zero, suc, ◌+◌, Bool, cond, not, ◌&&◌, List, [], ◌∷◌, ◌++◌, eqb, leb, get_or, None}
use Rattle.wire.specs.Words.{be16, be32, four_bytes}
use Rattle.geometry.specs.declared.Geometry.{Geometry}
use Rattle.geometry.specs.declared.Volume.{Volume}
use Rattle.geometry.specs.declared.VolumeNumber.TheVariants.{Zero, One}
use Rattle.geometry.specs.Drive.{B, C, N, S, goes_by_head, geometry_of, start, volume, volume_of, with_increment}
use Rattle.unit.specs.Holding.{Holder}
use Rattle.unit.specs.Standing.{UnitRecord, cylinder, geometry, held_by, holder, initialized, pairs, table}
use Rattle.answers.specs.Numbers.{run_number}
use Rattle.board.specs.Chain.{Ending}
use Rattle.unit.specs.Made.{record_of}
use Rattle.unit.specs.HolderNumbers.{holder_number, holder_of}
use Rattle.wire.specs.Storing.{two_bytes}

abbrev pub record_length : ℕ
record_length = 276

abbrev pub outcome_length : ℕ
outcome_length = 16

-- A record says that its unit is initialized where it opens with 02 01 01 14: this version, the flag, and this length; and where the order is at most
-- 01 and the holder at most 02. With any other bytes it does not, so that cleared memory, erased flash and a record of another version all count as
-- not initialized.
abbrev pub says_initialized : List ℕ → Bool
says_initialized bytes = eqb (be32 bytes 0) 0x02010114 && (leb (get_or bytes 16 0) 1 && leb (get_or bytes 17 0) 2)

-- Who holds the drive (02, K10). The byte is believed where version and length are those of this layout, whatever the flag says; any other number
-- is nobody's.
abbrev pub holder_in : List ℕ → Holder
holder_in bytes = cond (eqb (get_or bytes 0 0) 2 && eqb (be16 bytes 2) 0x0114) (holder_of (get_or bytes 17 0)) None

abbrev pub volume_in : List ℕ → ℕ → Volume
volume_in bytes at = volume_of (get_or bytes at 0) (get_or bytes (at + 1) 0)

-- The order (02, K4): 01 is by cylinder, and any other by head. With one that is neither 00 nor 01 the unit is not initialized (`says_initialized`).
abbrev pub by_head_in : List ℕ → Bool
by_head_in bytes = not (eqb (get_or bytes 16 0) 1)

abbrev pub geometry_in : List ℕ → Geometry
geometry_in bytes =
    with_increment (by_head_in bytes) (geometry_of (be16 bytes 4) (be16 bytes 6) (be16 bytes 8) (volume_in bytes 10) (volume_in bytes 12))

abbrev pub pairs_in : List ℕ → ℕ
pairs_in bytes = be16 bytes 18

-- So many 32-bit numbers in a row, from an index on.
unfoldable pub words_from : List ℕ → (at n : ℕ) → List ℕ
words_from bytes at zero = []
words_from bytes at (suc n) = be32 bytes at ∷ words_from bytes (at + 4) n

-- The table: 64 tracks, bad and spare in turn, those that count first.
abbrev pub tracks_in : List ℕ → List ℕ
tracks_in bytes = words_from bytes 20 64

-- The record that stands in some bytes.
abbrev pub record_in : List ℕ → UnitRecord
record_in bytes =
    held_by (record_of (says_initialized bytes) (geometry_in bytes) (be16 bytes 14) (pairs_in bytes) (tracks_in bytes)) (holder_in bytes)

abbrev pub volume_bytes : Volume → List ℕ
volume_bytes v = start v ∷ N v ∷ []

-- A geometry but for its order, which stands apart.
abbrev pub geometry_bytes : Geometry → List ℕ
geometry_bytes g =
    two_bytes (C g) ++ two_bytes (S g) ++ two_bytes (B g) ++ volume_bytes (volume g Zero) ++ volume_bytes (volume g One)

abbrev pub order_byte : (goes_by_head : Bool) → ℕ
order_byte by = cond by 0x00 0x01

abbrev pub order_and_holder : UnitRecord → List ℕ
order_and_holder u = order_byte (goes_by_head (geometry u)) ∷ holder_number (holder u) ∷ []

abbrev pub opening_bytes : Bool → List ℕ
opening_bytes initialized = 0x02 ∷ cond initialized 0x01 0x00 ∷ 0x01 ∷ 0x14 ∷ []

unfoldable pub track_bytes : List ℕ → List ℕ
track_bytes [] = []
track_bytes (t ∷ ts) = four_bytes t ++ track_bytes ts

-- The bytes of a record: those before its table, and the table, whether its pairs count or not. A table has 64 tracks, and the one that an 87 leaves has 64 zeros (unit, `fresh`):
-- "A successful 87 clears the table" (02, K5) in the bytes too.
abbrev pub head_bytes : UnitRecord → List ℕ
head_bytes u =
    opening_bytes (initialized u) ++ geometry_bytes (geometry u) ++ two_bytes (cylinder u) ++ order_and_holder u ++ two_bytes (pairs u)

abbrev pub record_bytes : UnitRecord → List ℕ
record_bytes u = head_bytes u ++ track_bytes (table u)

-- The bytes of an outcome.
abbrev pub outcome_bytes : (answer failed blocks sectors : ℕ) → List ℕ
outcome_bytes answer failed blocks sectors =
    (0x02 ∷ 0x00 ∷ 0x00 ∷ 0x10 ∷ answer ∷ failed ∷ 0x00 ∷ 0x00 ∷ []) ++ four_bytes blocks ++ four_bytes sectors

abbrev pub ending_bytes : Ending → List ℕ
ending_bytes e = outcome_bytes (run_number e.answer) e.failed e.tally.blocks e.tally.sectors
