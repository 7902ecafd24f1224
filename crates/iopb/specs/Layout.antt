-- Where the 3200 has what (01, The block; places of the UIB from Table 10, of the element count from Appendix C).
use Rattle.std.specs.Prelude.{ℕ, ◌+◌, ◌/◌, ◌%◌, ◌^◌, Bool, List, eqb, get_or}
use Rattle.wire.specs.Words.{be16, be32}
use Rattle.geometry.specs.declared.Geometry.{Geometry}
use Rattle.geometry.specs.Drive.{geometry_of, volume_of, with_increment}
use Rattle.iopb.specs.declared.Block.{Block}
use Rattle.iopb.specs.declared.Options.{Options}

-- A byte, and a bit of a byte, bit 7 the highest.
abbrev pub byte : List ℕ → ℕ → ℕ
byte bytes at = get_or bytes at 0

abbrev pub bit : ℕ → ℕ → Bool
bit k x = eqb ((x / 2 ^ k) % 2) 1

-- "Options, bit 7 down: UN unit, VO volume, LK link, XL logical, RV reserve, DE disable read data errors, IE interrupt, EC correction"
abbrev pub options_of : ℕ → Options
options_of x =
    record {
      unit = bit 7 x;
      volume = bit 6 x;
      link = bit 5 x;
      logical = bit 4 x;
      reserve = bit 3 x;
      disable = bit 2 x;
      interrupt = bit 1 x;
      correct = bit 0 x;
    }

-- The block: word w stands at byte 2 w, its upper byte first. The number of elements is the lower byte of word 13; its upper byte is not looked at, and
-- neither is the upper byte of word 9.
abbrev pub block_at : List ℕ → ℕ → Block
block_at bytes at =
    record {
      command = byte bytes at;
      options = options_of (byte bytes (at + 1));
      cylinder = be16 bytes (at + 4);
      head = byte bytes (at + 6);
      sector = byte bytes (at + 7);
      number = be32 bytes (at + 4);
      count = be16 bytes (at + 8);
      address = be32 bytes (at + 10);
      memory_type = byte bytes (at + 14);
      modifier = byte bytes (at + 15);
      level = byte bytes (at + 16);
      normal_vector = byte bytes (at + 17);
      error_vector = byte bytes (at + 19);
      link = be32 bytes (at + 20);
      link_memory_type = byte bytes (at + 24);
      link_modifier = byte bytes (at + 25);
      elements = byte bytes (at + 27);
    }

-- Table 10: start head and heads of volume 0 at 0 and 1, of volume 1 at 2 and 3, sectors a track at 4, bytes a sector at 6, cylinders at 12; and of the
-- attributes at 14 bit 2, increment by head (02, K4).
abbrev pub uib_at : List ℕ → ℕ → Geometry
uib_at bytes at =
    with_increment (bit 2 (byte bytes (at + 14)))
    (geometry_of (be16 bytes (at + 12)) (byte bytes (at + 4)) (be16 bytes (at + 6))
    (volume_of (byte bytes at) (byte bytes (at + 1)))
    (volume_of (byte bytes (at + 2)) (byte bytes (at + 3))))
