-- What a block does, as stores of one byte each, in order (01, One run).
use Rattle.std.specs.Prelude.{ℕ, zero, suc, ◌+◌, List, [], ◌∷◌, ◌++◌, get_or, set}

-- What a block works on: host memory, its unit's image, the event buffer.
pub record Buffers : Type 0 where
  pub host : List ℕ
  pub image : List ℕ
  pub events : List ℕ

-- A byte of one of them, by its index.
pub data ByteAt : Type 0 where
  host_byte : ℕ → ByteAt
  image_byte : ℕ → ByteAt
  event_byte : ℕ → ByteAt

-- What a store puts there: a number, or the byte that another cell then holds.
pub data Value : Type 0 where
  number : ℕ → Value
  copy_of : ByteAt → Value

pub record Store : Type 0 where
  pub to : ByteAt
  pub value : Value

abbrev pub byte_in : Buffers → ByteAt → ℕ
byte_in m (host_byte x) = get_or m.host x 0
byte_in m (image_byte x) = get_or m.image x 0
byte_in m (event_byte x) = get_or m.events x 0

abbrev pub worth : Buffers → Value → ℕ
worth m (number n) = n
worth m (copy_of c) = byte_in m c

abbrev pub with : Buffers → ByteAt → ℕ → Buffers
with m (host_byte x) n = record { host = set m.host x n; image = m.image; events = m.events }
with m (image_byte x) n = record { host = m.host; image = set m.image x n; events = m.events }
with m (event_byte x) n = record { host = m.host; image = m.image; events = set m.events x n }

-- The buffers after the stores of a list, in its order.
unfoldable pub after : List Store → Buffers → Buffers
after [] m = m
after (s ∷ ss) m = after ss (with m s.to (worth m s.value))

-- The stores 0 to n - 1 of a sequence.
unfoldable pub up_to : ℕ → (ℕ → Store) → List Store
up_to zero s = []
up_to (suc n) s = up_to n s ++ (s n ∷ [])

-- Numbers stored one after the other, from an index on.
unfoldable pub bytes_from : (ℕ → ByteAt) → ℕ → List ℕ → List Store
bytes_from cell at [] = []
bytes_from cell at (n ∷ ns) = record { to = cell at; value = number n } ∷ bytes_from cell (at + 1) ns
