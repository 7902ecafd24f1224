-- What the session program prints, byte by byte (01, The session program): "Status, error, level and vector are two lower-case hex digits,
-- the rest decimal, a minus where negative."
use Rattle.std.specs.Prelude.{ℕ, zero, suc, ◌+◌, ◌-◌, ◌*◌, ◌/◌, ◌%◌, ◌^◌, List, [], ◌∷◌, ◌++◌, get_or}
use Prim.Native.Char.{code}
use Prim.Native.String.{String, char_at, len}
use Rattle.std.proofs.Math.Logic.{ite}
use Rattle.std.proofs.Math.Decide.{dec_lt}
use Rattle.wire.specs.Words.{be32}

-- A text of ASCII characters as its bytes.
unfoldable pub letters_from : String → ℕ → ℕ → List ℕ
letters_from s i zero = []
letters_from s i (suc n) = code (char_at s i) ∷ letters_from s (i + 1) n

unfoldable pub letters : String → List ℕ
letters s = letters_from s 0 (len s)

-- The digit of a number below 16: 0 to 9, then a to f.
abbrev pub digit : ℕ → ℕ
digit d = ite (dec_lt d 10) (48 + d) (87 + d)

-- "two lower-case hex digits"
abbrev pub hex : ℕ → List ℕ
hex byte = digit (byte / 16) ∷ digit (byte % 16) ∷ []

-- The decimal digits of a number, without zeros in front; the first argument bounds how many, and no number has more digits than
-- itself plus one.
unfoldable pub digits_within : ℕ → ℕ → List ℕ
digits_within zero n = []
digits_within (suc k) n = ite (dec_lt n 10) (digit n ∷ []) (digits_within k (n / 10) ++ (digit (n % 10) ∷ []))

unfoldable pub decimal : ℕ → List ℕ
decimal n = digits_within (n + 1) n

-- A 32-bit two's complement number: "a minus where negative".
unfoldable pub signed : ℕ → List ℕ
signed n = ite (dec_lt n (2 ^ 31)) (decimal n) (letters "-" ++ decimal (2 ^ 32 - n))

-- "It prints each run, one line and then a line for each block run."
abbrev pub run_line : (answer blocks sectors : ℕ) → List ℕ
run_line answer blocks sectors =
    letters "run answer " ++ decimal answer ++ letters " blocks " ++ decimal blocks ++ letters " sectors " ++ decimal sectors ++
    letters "\n"

-- The line of the k-th block, k from 1, from its entry in the event buffer: status, error, level, vector, travel.
abbrev pub block_line : List ℕ → ℕ → List ℕ
block_line events k =
    let at = 8 * (k - 1) in
    letters "block " ++ decimal k ++ letters " status " ++ hex (get_or events at 0) ++ letters " error " ++
    hex (get_or events (at + 1) 0) ++ letters " level " ++ hex (get_or events (at + 2) 0) ++ letters " vector " ++
    hex (get_or events (at + 3) 0) ++ letters " travel " ++ signed (be32 events (at + 4)) ++ letters "\n"

unfoldable pub block_lines : List ℕ → ℕ → List ℕ
block_lines events zero = []
block_lines events (suc k) = block_lines events k ++ block_line events (suc k)

-- "session refused at byte N"
abbrev pub refusal_line : ℕ → List ℕ
refusal_line at = letters "session refused at byte " ++ decimal at ++ letters "\n"
