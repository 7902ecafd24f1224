-- What the program does with a reader whose bytes are known, and with a writer whose bytes are.
-- The steps that it makes are those in a row, each on what the reader gives for a field and each with its text written.
use Rattle.std.specs.Prelude.{ℕ, ◌+◌, ◌^◌, ◌<◌, List, ◌++◌, ◌≡◌, ⊤, Option, Some, None, IfSome, drop, length, take}
use Rattle.std.specs.Io.KnownBytes.{Appends}
use Rattle.transcript.specs.declared.Next.{Next}
use Rattle.transcript.specs.declared.Next.TheVariants.{On, Over, NoRoom}
use Rattle.transcript.specs.Rows.{in_a_row, onward, read_for}
use Rattle.transcript.specs.Steps.{SessionLent, most_field}
use Rattle.transcript.specs.Session.{session}

-- Of known bytes so many were read from the front, fewer where the bytes end, and the others are left.
abbrev pub TakesUpTo : ℕ → Option (List ℕ) → Option (List ℕ) → List ℕ → Type 0
TakesUpTo n None new got = ⊤
TakesUpTo n (Some xs) new got = (got ≡ take n xs) × (new ≡ Some (drop n xs))

-- Of known bytes what there is for a field was read from the front, and the others are left.
abbrev pub TakesField : Option (List ℕ) → Option (List ℕ) → List ℕ → Type 0
TakesField None new got = ⊤
TakesField (Some xs) new got = (got ≡ read_for xs) × (new ≡ Some (drop (length got) xs))

-- What will have been written after so many turns more: what was, and what the steps that are left say.
abbrev pub in_the_end : ℕ → Next → SessionLent → Option (List ℕ) → Option (List ℕ) → Option (List ℕ)
in_the_end k next l None written = None
in_the_end k next l (Some xs) None = None
in_the_end k next l (Some xs) (Some ys) = Some (ys ++ onward (λ s. in_a_row k s l xs) next)

-- No step comes after this.
abbrev pub IsLast : Next → Type 0
IsLast (On s) = ⊥
IsLast Over = ⊤
IsLast NoRoom = ⊤

-- Known, it stays what it was.
abbrev pub Stays : Option (List ℕ) → Option (List ℕ) → Type 0
Stays old new = IfSome old (λ e. new ≡ Some e)

-- Of a reader with known bytes, fewer than 2^64 - 16,387, a writer has got what a session of them says.
abbrev pub IsPlayed : Option (List ℕ) → Option (List ℕ) → Option (List ℕ) → Type 0
IsPlayed None old new = ⊤
IsPlayed (Some xs) old new = length xs + most_field < 2 ^ 64 → Appends old new (session xs)
