-- What serves a track of a table, as the crates above may know it.
-- The pairs are gone through from the first on, and one that serves a track ends the search.
use Rattle.std.proofs.Common.{None, Option, Some}
use Prim.Native.Nat.{ℕ, zero, suc, ◌+◌, ◌-◌, ◌*◌, ◌/◌, ◌%◌, ◌≤◌, ◌<◌, min}
use mathlib.Core.List.{List}
use mathlib.Core.Logic.Dec
use mathlib.Core.Logic.{◌↔◌, by_cases, if_neg, if_pos}
use mathlib.Core.Path.{◌≡◌, refl, sym, ap, subst, ◌∙◌}
use native.Mathlib.Decide.{dec_lt, ℕ_discrete}
use native.Mathlib.Nat.{min-eq_left}
use native.Mathlib.Numerals.{add-one}
use native.Mathlib.Omega.{arith}
use lib.ListN.{get_or, length}
use Rattle.geometry.specs.declared.Geometry.{Geometry}
use Rattle.wire.proofs.Promises.{never}
use Rattle.geometry.specs.Drive.{C, drive_heads}
use Rattle.spares.specs.declared.Track.{Track}
use Rattle.spares.specs.Table.{Good, bad_of, served_at, served_from, spare_of}
use Rattle.spares.specs.Tracks.{TrackOn, stands_for, track_number, track_on?}
use Rattle.spares.specs.Lands.{lands_on, number_serving, Serves, serves?, served}

module _ (g : Geometry) (ts : List ℕ) (t : ℕ) where
  pub serves_first : (i n : ℕ) → Serves g ts i t → served_from g ts i (suc n) t ≡ Some (stands_for (spare_of ts i))
  unfolding served_from
  serves_first i n it = if_pos (Dec.and (ℕ_discrete (bad_of ts i) t) (track_on? g (spare_of ts i))) (it.bad, it.on) _ _

  pub serves_later : (i n : ℕ) → (Serves g ts i t → ⊥) → served_from g ts i (suc n) t ≡ served_from g ts (suc i) n t
  unfolding served_from
  serves_later i n not_it =
      if_neg (Dec.and (ℕ_discrete (bad_of ts i) t) (track_on? g (spare_of ts i))) (λ it. not_it (record { bad = it.0; on = it.1 })) _ _

  pub serves_none : (i : ℕ) → served_from g ts i 0 t ≡ None
  unfolding served_from
  serves_none i = refl

  -- The same of the pairs from the i-th on that n leaves, as a search goes through them.
  pub serves_here : (i n : ℕ) → i < n → Serves g ts i t → served_from g ts i (n - i) t ≡ Some (stands_for (spare_of ts i))
  serves_here i n less it =
      let more : n - i ≡ suc (n - (i + 1)) = omega arith in
      rw more (serves_first i (n - (i + 1)) it)

  pub serves_on : (i n : ℕ) → i < n → (Serves g ts i t → ⊥) → served_from g ts i (n - i) t ≡ served_from g ts (i + 1) (n - (i + 1)) t
  serves_on i n less not_it =
      let more : n - i ≡ suc (n - (i + 1)) = omega arith in
      rw (more, add-one) (serves_later i (n - suc i) not_it)

  pub serves_end : (i n : ℕ) → n ≤ i → served_from g ts i (n - i) t ≡ None
  serves_end i n past =
      let none : n - i ≡ 0 = omega arith in
      rw none (serves_none i)

-- ---- what a search finds

-- No pair from the i-th on serves the track, of n; or the j-th does, and none before it.
data Search (g : Geometry) (ts : List ℕ) (t i n : ℕ) : Option Track → Type 0 where
  none : ((j : ℕ) → i ≤ j → j < i + n → Serves g ts j t → ⊥) → Search g ts t i n None
  first :
      (j : ℕ) → i ≤ j → j < i + n → Serves g ts j t → ((l : ℕ) → i ≤ l → l < j → Serves g ts l t → ⊥) →
      Search g ts t i n (Some (stands_for (spare_of ts j)))

module _ (g : Geometry) (ts : List ℕ) (t : ℕ) where
  -- Where the i-th does not, those after it tell.
  later : (i j : ℕ) → (Serves g ts i t → ⊥) → (suc i ≤ j → Serves g ts j t → ⊥) → i ≤ j → Serves g ts j t → ⊥
  later i j not_it after_it from it =
      by_cases (dec_lt i j) (λ less. after_it less it)
      (λ not-less.
      let same : j ≡ i = omega arith in
      not_it (subst (λ (x : ℕ). Serves g ts x t) same it))

  widened : (i n : ℕ) {s : Option Track} → (Serves g ts i t → ⊥) → Search g ts t (suc i) n s → Search g ts t i (suc n) s
  widened i n not_it (none nobody) = none (λ j from below it. later i j not_it (λ from-later. nobody j from-later (omega arith)) from it)
  widened i n not_it (first j from below it before) =
      first j (omega arith) (omega arith) it (λ l from-i less. later i l not_it (λ from-later. before l from-later less) from-i)

  search : (i n : ℕ) → Search g ts t i n (served_from g ts i n t)
  unfolding served_from
  search i zero = none (λ j from below it. omega arith)
  search i (suc n) =
      by_cases (serves? g ts i t)
      (λ it. subst (Search g ts t i (suc n)) (sym (serves_first g ts t i n it)) (first i (omega arith) (omega arith) it (λ l from below it. omega arith)))
      (λ not_it. subst (Search g ts t i (suc n)) (sym (serves_later g ts t i n not_it)) (widened i n not_it (search (suc i) n)))

-- ---- of a good table

module _ (g : Geometry) (n : ℕ) (ts : List ℕ) (good : Good g n ts) where
  all_count : min n 32 ≡ n
  all_count = min-eq_left good.room

  -- What serves a track, found among the pairs that there are.
  finds : (t : ℕ) → Search g ts t 0 n (served g n ts t)
  finds t = subst (λ (m : ℕ). Search g ts t 0 n (served_from g ts 0 m t)) (sym all_count) (search g ts t 0 n)

  -- No track twice: two places that hold the same are one.
  pub one_place : (i j : ℕ) → i < 2 * n → j < 2 * n → get_or ts i 0 ≡ get_or ts j 0 → i ≡ j
  one_place i j i-in j-in same =
      by_cases (dec_lt i j) (λ less. absurd (good.once i j less j-in same))
      (λ not-less. by_cases (dec_lt j i) (λ less. absurd (good.once j i less i-in (sym same))) (λ neither. omega arith))

  -- Pair i serves its bad track.
  pub pair_serves : (i : ℕ) → i < n → Serves g ts i (bad_of ts i)
  pair_serves i less = record { bad = refl; on = good.on (2 * i + 1) (omega arith) }

  pub served_by_its_spare : (i : ℕ) → i < n → served g n ts (bad_of ts i) ≡ Some (stands_for (spare_of ts i))
  served_by_its_spare i less = by_find (finds (bad_of ts i))
    where
      by_find : {s : Option Track} → Search g ts (bad_of ts i) 0 n s → s ≡ Some (stands_for (spare_of ts i))
      by_find (none nobody) = absurd (nobody i (omega arith) (omega arith) (pair_serves i less))
      by_find (first j from below it before) =
          let twice = one_place (2 * j) (2 * i) (omega arith) (omega arith) it.bad in
          let same : j ≡ i = omega arith in
          ap (λ (x : ℕ). Some (stands_for (spare_of ts x))) same

  -- A spare is never itself mapped.
  pub spare_serves_itself : (i : ℕ) → i < n → served g n ts (spare_of ts i) ≡ None
  spare_serves_itself i less = by_find (finds (spare_of ts i))
    where
      by_find : {s : Option Track} → Search g ts (spare_of ts i) 0 n s → s ≡ None
      by_find (none nobody) = refl
      by_find (first j from below it before) =
          let twice = one_place (2 * j) (2 * i + 1) (omega arith) (omega arith) it.bad in
          absurd (omega arith)

-- ---- where a track lands

-- A track that no pair has as bad serves itself, whatever else the table holds.
pub serves_itself : (g : Geometry) (n : ℕ) (ts : List ℕ) (t : ℕ) → ((i : ℕ) → i < min n 32 → bad_of ts i ≡ t → ⊥) → served g n ts t ≡ None
serves_itself g n ts t nobody = by_find (search g ts t 0 (min n 32))
  where
    by_find : {s : Option Track} → Search g ts t 0 (min n 32) s → s ≡ None
    by_find (none other) = refl
    by_find (first j from below it before) = absurd (nobody j (omega arith) it.bad)

-- A spare that serves is on the drive, whatever the table.
pub server_on_drive : (g : Geometry) (n : ℕ) (ts : List ℕ) (t : ℕ) (k : Track) → served g n ts t ≡ Some k → (k.cylinder < C g) × (k.head < drive_heads g)
server_on_drive g n ts t k is = by_find (search g ts t 0 (min n 32)) is
  where
    by_find : {s : Option Track} → Search g ts t 0 (min n 32) s → s ≡ Some k → (k.cylinder < C g) × (k.head < drive_heads g)
    by_find (none nobody) same = absurd (never cc)
    by_find (first j from below it before) same =
        let its : stands_for (spare_of ts j) ≡ k = cc in
        subst (λ (k : Track). (k.cylinder < C g) × (k.head < drive_heads g)) its (it.on.cylinder, it.on.head)

-- The same of a cylinder and a head, which have a number where the head is below 256.
module _ (g : Geometry) (n : ℕ) (ts : List ℕ) (c h : ℕ) where
  pub itself_at : served g n ts (track_number c h) ≡ None → served_at g n ts c h ≡ None
  itself_at itself =
      by_cases (dec_lt h 256) (λ small. if_pos (dec_lt h 256) small _ _ ∙ itself) (λ large. if_neg (dec_lt h 256) large _ _)

  pub server_at_on_drive : (k : Track) → served_at g n ts c h ≡ Some k → (k.cylinder < C g) × (k.head < drive_heads g)
  server_at_on_drive k is =
      by_cases (dec_lt h 256) (λ small. server_on_drive g n ts (track_number c h) k (sym (if_pos (dec_lt h 256) small _ _) ∙ is))
      (λ large.
      let none : served_at g n ts c h ≡ None = if_neg (dec_lt h 256) large _ _ in
      absurd (never (cc none)))

module _ (c h : ℕ) (less : h < 256) where
  up : track_number c h / 65536 ≡ c
  up = omega arith

  down : track_number c h / 256 % 256 ≡ h
  down = omega arith

  -- A number stands for the track that it is the number of.
  pub stands_for_it : stands_for (track_number c h) ≡ record { cylinder = c; head = h }
  stands_for_it = rw (up, down)

  -- The drive has the track with that number exactly where it has the cylinder and the head.
  pub on_drive_by_parts : (g : Geometry) → TrackOn g (track_number c h) ↔ ((c < C g) × (h < drive_heads g))
  on_drive_by_parts g = (
    λ on. (omega (arith, on.cylinder, up), omega (arith, on.head, down)),
    λ parts. record { cylinder = omega (arith, up); head = omega (arith, down); last = omega arith },
  )

-- A table without pairs is good, and every track serves itself.
pub empty_is_good : (g : Geometry) (ts : List ℕ) → length ts ≡ 64 → Good g 0 ts
empty_is_good g ts long = record { long = long; room = omega arith; on = λ i less. absurd (omega arith); once = λ i j less j-in. absurd (omega arith) }

pub empty_serves_itself : (g : Geometry) (ts : List ℕ) (t : ℕ) → served g 0 ts t ≡ None
empty_serves_itself g ts t = serves_itself g 0 ts t (λ i less. omega arith)

-- The number of the track that a number stands for is that number again, where the drive has it.
pub number_again : (g : Geometry) (t : ℕ) → TrackOn g t → track_number (stands_for t).cylinder (stands_for t).head ≡ t
number_again g t on = omega (arith, on.last)

module _ (g : Geometry) (n : ℕ) (ts : List ℕ) (good : Good g n ts) where
  -- Either no pair has the track as bad, and it lands on itself; or one has, and it lands on the spare of that.
  data Lands (t : ℕ) : ℕ → Type 0 where
    on_itself : ((i : ℕ) → i < n → bad_of ts i ≡ t → ⊥) → Lands t t
    on_spare : (i : ℕ) → i < n → bad_of ts i ≡ t → Lands t (spare_of ts i)

  lands : (t : ℕ) → Lands t (lands_on g n ts t)
  lands t = by_find (finds g n ts good t)
    where
      by_find : {s : Option Track} → Search g ts t 0 n s → Lands t (number_serving t s)
      by_find (none nobody) =
          on_itself
          (λ i less is. nobody i (omega arith) (omega arith) (subst (Serves g ts i) is (pair_serves g n ts good i less)))
      by_find (first j from below it before) =
          subst (Lands t) (sym (number_again g (spare_of ts j) it.on)) (on_spare j (omega arith) it.bad)

  -- No bad track is ever landed on.
  pub never_on_a_bad_track : (t i : ℕ) → i < n → lands_on g n ts t ≡ bad_of ts i → ⊥
  never_on_a_bad_track t i less is = by_landing (lands t) is
    where
      by_landing : {x : ℕ} → Lands t x → x ≡ bad_of ts i → ⊥
      by_landing (on_itself nobody) same = nobody i less (sym same)
      by_landing (on_spare j j-in bad) same =
          let twice = one_place g n ts good (2 * j + 1) (2 * i) (omega arith) (omega arith) same in
          omega arith

  -- Two tracks that land on one are one, or a bad track and the spare that serves it.
  pub data Meet (t u : ℕ) : Type 0 where
    the_same : t ≡ u → Meet t u
    served_by : (i : ℕ) → i < n → bad_of ts i ≡ t → spare_of ts i ≡ u → Meet t u
    serving : (i : ℕ) → i < n → bad_of ts i ≡ u → spare_of ts i ≡ t → Meet t u

  pub lands_on_one : (t u : ℕ) → lands_on g n ts t ≡ lands_on g n ts u → Meet t u
  lands_on_one t u same = by_landing (lands t) (lands u) same
    where
      by_landing : {x y : ℕ} → Lands t x → Lands u y → x ≡ y → Meet t u
      by_landing (on_itself a) (on_itself b) one = the_same one
      by_landing (on_itself a) (on_spare j j-in bad) one = serving j j-in bad (sym one)
      by_landing (on_spare i i-in bad) (on_itself b) one = served_by i i-in bad one
      by_landing (on_spare i i-in bad-i) (on_spare j j-in bad-j) one =
          let twice = one_place g n ts good (2 * i + 1) (2 * j + 1) (omega arith) (omega arith) one in
          let pair : i ≡ j = omega arith in
          the_same (sym bad-i ∙ ap (bad_of ts) pair ∙ bad-j)
