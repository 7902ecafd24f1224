-- A table of bad tracks with their spares (02, K5): how many pairs of it count is told beside it. Pair i has its bad track at 2 i and the
-- spare at 2 i + 1. There is room for 32 pairs.
use Rattle.spares.specs.declared.Track.{Track}
use Rattle.std.specs.Prelude.{ℕ, zero, suc, ◌+◌, ◌*◌, ◌≤◌, ◌<◌, min, List, ◌≡◌, get_or, length, set, None, Option, Some}
use Rattle.std.proofs.Math.Logic.{ite}
use Rattle.std.proofs.Math.Logic.Dec.{and as dec_and}
use Rattle.std.proofs.Math.Decide.{dec_lt, ℕ_discrete}
use Rattle.geometry.specs.declared.Geometry.{Geometry}
use Rattle.spares.specs.Tracks.{TrackOn, track_number, stands_for, track_on?}

abbrev pub bad_of : List ℕ → ℕ → ℕ
bad_of ts i = get_or ts (2 * i) 0

abbrev pub spare_of : List ℕ → ℕ → ℕ
spare_of ts i = get_or ts (2 * i + 1) 0

-- A table of which n pairs count is good: it has the "32 pairs", no more than these count, every track of those that do is on the drive, and none
-- is there twice. One that is not, with "over 32 pairs, a track outside the drive, or one track twice in the table", makes its record count as
-- not initialized.
pub record Good (g : Geometry) (n : ℕ) (ts : List ℕ) : Type 0 where
  pub long : length ts ≡ 64
  pub room : n ≤ 32
  pub on : (i : ℕ) → i < 2 * n → TrackOn g (get_or ts i 0)
  pub once : (i j : ℕ) → i < j → j < 2 * n → get_or ts i 0 ≡ get_or ts j 0 → ⊥

-- A track is one of the first m of a table.
pub record OneOf (m : ℕ) (ts : List ℕ) (t : ℕ) : Type 0 where
  pub at : ℕ
  pub less : at < m
  pub here : get_or ts at 0 ≡ t

-- Two tracks are free to become a pair: answer 22 refuses them where "the tracks are equal or either is in the table already".
pub record Free (n : ℕ) (ts : List ℕ) (bad spare : ℕ) : Type 0 where
  pub differ : bad ≡ spare → ⊥
  pub bad_new : OneOf (2 * min n 32) ts bad → ⊥
  pub spare_new : OneOf (2 * min n 32) ts spare → ⊥

-- What serves a track, of n pairs from the i-th on: "Every later command that lands on a bad track works on its spare". It is the first pair that
-- has the track as bad and a spare that the drive has; where none does, the track itself.
unfoldable pub served_from : Geometry → List ℕ → (i n t : ℕ) → Option Track
served_from g ts i zero t = None
served_from g ts i (suc n) t =
    ite (dec_and (ℕ_discrete (bad_of ts i) t) (track_on? g (spare_of ts i))) (Some (stands_for (spare_of ts i))) (served_from g ts (suc i) n t)

-- What serves a track, by its cylinder and its head. From head 256 on no number stands for a track, and no table has it.
abbrev pub served_at : Geometry → ℕ → List ℕ → ℕ → ℕ → Option Track
served_at g n ts c h = ite (dec_lt h 256) (served_from g ts 0 (min n 32) (track_number c h)) None

-- One pair more after the n of a table, and how many there are then: where there is room, and else as it was.
abbrev pub one_pair_more : ℕ → ℕ
one_pair_more n = ite (dec_lt n 32) (n + 1) n

abbrev pub with_pair : ℕ → List ℕ → ℕ → ℕ → List ℕ
with_pair n ts bad spare = ite (dec_lt n 32) (set (set ts (2 * n) bad) (2 * n + 1) spare) ts
