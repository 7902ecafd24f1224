-- Runs of sectors that follow one another in the image, between the code and the definitions of Data.
use Rattle.std.specs.Prelude.{ℕ, zero, suc, ◌+◌, ◌-◌, ◌*◌, ◌%◌, ◌^◌, ◌≤◌, ◌<◌, Bool, true, false, List, [], ◌≡◌, get_or, length, Err, Ok}
use Rattle.std.proofs.Math.Logic.{ite}
use Rattle.std.proofs.Math.Decide.{dec_lt}
use Rattle.answers.specs.declared.Refusal.{Refusal}
use Rattle.geometry.specs.declared.Geometry.{Geometry}
use Rattle.geometry.specs.declared.VolumeNumber.{VolumeNumber}
use Rattle.geometry.specs.Drive.{B, volume_sectors}
use Rattle.unit.specs.declared.Span.{Span}
use Rattle.unit.specs.Landing.{spot_of}
use Rattle.unit.specs.Standing.{UnitRecord, geometry}
use Rattle.transfer.specs.declared.Moved.{Moved}
use Rattle.transfer.specs.declared.carry.Cursor.{Cursor}
use Rattle.transfer.specs.declared.reach.Run.{Run}
use Rattle.transfer.specs.Data.{disk_byte, move}
use Rattle.transfer.specs.Pieces.{joined}
use Rattle.transfer.specs.Progress.{Progress, progress, stops_at}
use Rattle.transfer.specs.Stores.{Buffers, Store, after, up_to}

-- The bytes of the first n pieces together.
unfoldable pub sum : (ℕ → ℕ) → ℕ → ℕ
sum bytes zero = 0
sum bytes (suc n) = sum bytes n + bytes n

-- The place of sector j from a number of a volume on.
abbrev pub place_from : UnitRecord → VolumeNumber → ℕ → ℕ → ℕ
place_from u v first j = (spot_of u v (first + j)).place

-- A transfer that is whole, so many sectors, and one that was stopped before a sector.
abbrev pub whole : ℕ → Progress
whole n = record { sectors = n; answer = Ok tt }

abbrev pub stopped : ℕ → Progress
stopped j = record { sectors = j; answer = Err Refusal.Unreadable }

-- Sectors that their volume has; their numbers can be counted in 64 bits.
pub record Spans (u : UnitRecord) (s : Span) : Type 0 where
  pub inside : s.first + s.count ≤ volume_sectors (geometry u) s.volume
  pub small : s.first + s.count < 2 ^ 64

-- Of n marks from an index on, none of the first r stops a transfer, and the next one, if there is one, does: only a transfer
-- that heeds the marks is stopped, by one that is not 0.
pub record Readable (heeds : Bool) (image : List ℕ) (at n r : ℕ) : Type 0 where
  pub most : r ≤ n
  pub good : (i : ℕ) → i < r → heeds ≡ true → get_or image (at + i) 0 ≡ 0
  pub ends : r < n → (heeds ≡ true) × (get_or image (at + r) 0 ≡ 0 → ⊥)

-- How far n sectors in a row come.
abbrev pub in_a_row : List ℕ → Geometry → Bool → ℕ → ℕ → Progress
in_a_row image g heeds place n = progress (λ j. stops_at image g heeds (place + j)) 0 n

-- What n sectors in a row come to, where so many of their marks are good: the next mark stops them, or they come to their end.
abbrev pub row_of : (good n : ℕ) → Progress
row_of good n = ite (dec_lt good n) (stopped good) (record { sectors = n; answer = Ok tt })

-- How far n sectors from a number of a volume on come.
abbrev pub progress_from : List ℕ → UnitRecord → VolumeNumber → Bool → ℕ → ℕ → Progress
progress_from image u v heeds first n = progress (λ j. stops_at image (geometry u) heeds (place_from u v first j)) 0 n

-- Progress, as the code hands it back.
abbrev pub reached : Progress → Moved
reached p = record { sectors = p.sectors; answer = p.answer }

-- A run at a number of a volume: where it begins, and some sectors, no more than are on the track, nor than were asked for.
pub record RunAt (u : UnitRecord) (v : VolumeNumber) (n most : ℕ) (r : Run) : Type 0 where
  pub place : r.place ≡ (spot_of u v n).place
  pub some : 0 < r.sectors
  pub asked : r.sectors ≤ most
  pub track : r.sectors ≤ (spot_of u v n).rest

-- How far some sectors from a number of a volume on come, at least one and no more than were asked for.
pub record Advanced (image : List ℕ) (u : UnitRecord) (v : VolumeNumber) (n most : ℕ) (heeds : Bool) (m : Moved) : Type 0 where
  pub run : ℕ
  pub some : 0 < run
  pub asked : run ≤ most
  pub comes : progress_from image u v heeds n run ≡ record { sectors = m.sectors; answer = m.answer }

-- The k-th byte on the disk of the sectors from a number of a volume on.
abbrev pub disk_from : UnitRecord → VolumeNumber → ℕ → ℕ → ℕ
disk_from u v first k = disk_byte (geometry u) (place_from u v first) k

-- How many bytes a cursor has behind it.
abbrev pub behind : UnitRecord → Cursor → ℕ
behind u c = c.next * B (geometry u) - c.left

-- A cursor stands right: its next `left` bytes are those of the image from `at` on, and they end with sector `next`.
pub record Stands (u : UnitRecord) (v : VolumeNumber) (first : ℕ) (c : Cursor) : Type 0 where
  pub whole : c.left ≤ c.next * B (geometry u)
  pub run : (i : ℕ) → i < c.left → disk_from u v first (behind u c + i) ≡ c.at + i

-- A cursor of a span with k bytes behind it, and one with some bytes before it.
pub record On (u : UnitRecord) (s : Span) (k : ℕ) (c : Cursor) : Type 0 where
  pub stands : Stands u s.volume s.first c
  pub here : behind u c ≡ k
  pub most : c.next ≤ s.count

pub record Ready (u : UnitRecord) (s : Span) (k : ℕ) (c : Cursor) : Type 0 where
  pub on : On u s k c
  pub some : 0 < c.left

-- A cursor n bytes on.
abbrev pub advanced : Cursor → ℕ → Cursor
advanced c n = record { at = c.at + n; left = c.left - n; next = c.next }

-- Every byte of a span's sectors lies in an image of so many bytes.
abbrev pub InImage : UnitRecord → Span → ℕ → Type 0
InImage u s long = (k : ℕ) → k < s.count * B (geometry u) → disk_from u s.volume s.first k < long

-- Two buffers after some stores.
abbrev pub lent : List ℕ → List ℕ → Buffers
lent host image = record { host = host; image = image; events = [] }

-- n bytes moved, from the k-th on the disk side and from an index of host memory on.
abbrev pub stretch : Bool → (ℕ → ℕ) → ℕ → ℕ → ℕ → List Store
stretch to_host disk k at n = up_to n (λ i. move to_host (disk (k + i)) (at + i))

-- n bytes of a piece at an index of host memory, of which the first is byte k of the span: what has to hold before they are
-- carried, and what holds then.
pub record CarryFits (u : UnitRecord) (s : Span) (c : Cursor) (at n : ℕ) (host image : List ℕ) : Type 0 where
  pub spans : Spans u s
  pub held : InImage u s (length image)
  pub on : On u s (behind u c) c
  pub bytes : behind u c + n ≤ s.count * B (geometry u)
  pub memory : at + n ≤ length host

pub record Carried (u : UnitRecord) (s : Span) (to_host : Bool) (k at n : ℕ) (m m' : Buffers) (c : Cursor) : Type 0 where
  pub on : On u s (k + n) c
  pub moved : m' ≡ after (stretch to_host (disk_from u s.volume s.first) k at n) m

-- Byte k of pieces whose byte counts and addresses stand in two lists.
abbrev pub piece_byte : List ℕ → List ℕ → ℕ → ℕ
piece_byte lengths addresses k = joined (λ i. get_or lengths i 0) (λ i. get_or addresses i 0) (length lengths) 0 k

-- Pieces that lie in a host memory of so many bytes, and have as many bytes as are to be carried.
pub record PiecesFit (long bytes : ℕ) (lengths addresses : List ℕ) : Type 0 where
  pub pairs : length addresses ≡ length lengths
  pub inside : (i : ℕ) → i < length lengths → get_or addresses i 0 + get_or lengths i 0 ≤ long
  pub enough : bytes ≤ sum (λ i. get_or lengths i 0) (length lengths)

-- All bytes of a span's sectors, to or from the pieces.
abbrev pub span_stores : UnitRecord → Span → Bool → List ℕ → List ℕ → ℕ → Store
span_stores u s to_host lengths addresses k = move to_host (disk_from u s.volume s.first k) (piece_byte lengths addresses k)

abbrev pub span_bytes : UnitRecord → Span → ℕ
span_bytes u s = s.count * B (geometry u)

-- Byte k of sectors in a row that are all filled with the bytes of one.
abbrev pub fill_store : ℕ → ℕ → ℕ → ℕ → Store
fill_store first at bytes k = move false (first + k) (at + k % bytes)
