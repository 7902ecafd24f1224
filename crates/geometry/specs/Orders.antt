-- The order in which the tracks of a volume follow one another (02, K4).
use Rattle.std.specs.Prelude.{ℕ, Bool, false, true}

-- With "the UIB attribute for increment by head" on, the next track has the next head, and its cylinder goes on once all heads are through; off, it is the
-- other way round: "consecutive tracks go along one head first". So of a pair, what is said of cylinders and what of heads, this makes the one that goes on
-- slower and the one that goes on quicker: as they stand by head, exchanged by cylinder. Done twice it gives the pair back.
abbrev pub ordered : (goes_by_head : Bool) → ℕ × ℕ → ℕ × ℕ
ordered true both = both
ordered false both = (both.1, both.0)
