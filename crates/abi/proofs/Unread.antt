-- A table of which only the tracks that count were read is the whole one, once the others are taken from the bytes; and so is what a block makes of it.
-- Place by place a track is one that is known or one of the others, and an 85 writes the two that follow those that are known.
use Prim.Native.Nat.{ℕ, ◌+◌, ◌-◌, ◌*◌, ◌%◌, ◌≤◌, ◌<◌, min}
use mathlib.Core.List.{List}
use mathlib.Core.Logic.{◌⊎◌, by_cases, if_neg, if_pos, inl, inr, ⊎_elim}
use mathlib.Core.Path.{◌≡◌, refl, sym, ap, ◌∙◌}
use native.Mathlib.Decide.{dec_lt, ℕ_discrete}
use native.Mathlib.Nat.{min-eq_left}
use native.Mathlib.Omega.{arith}
use lib.ListN.{drop, drop_of_length-le, get_or, get_or-replicate, length, length-append, length-drop, get_or-append, take}
use lib.Seq.{ext_get_or, get_or-append-add, get_or-drop, get_or-take, length-sets, length-take-le, take-append-le}
use Rattle.spares.specs.Lands.{counted}
use Rattle.spares.specs.Table.{with_pair}
use Rattle.spares.proofs.Adding.{beside_the_pair, its_bad, its_spare, long_still}
use Rattle.unit.specs.declared.Controller.{Controller}
use Rattle.unit.specs.Standing.{UnitRecord, by_value, no_tracks, pairs, unit_of}
use Rattle.block.specs.Block.{Effect}
use Rattle.block.proofs.PastPairs.{PastPairs, past_effect}
use Rattle.board.specs.Chain.{ends, ran}
use Rattle.board.specs.World.{World, effect_at, unit_at, world_after}
use Rattle.demands.proofs.PastPairs.{LongTables, effect_at_past, past_both, past_of, ran_past, world_past}
use Rattle.abi.specs.Calls.{CallLent, world_in}
use Rattle.abi.specs.Layouts.{pairs_in, record_in, tracks_in, words_from}
use Rattle.abi.specs.Unread.{filled, filled_in, known, nothing_read, read_in, tracks_read, unread}
use Rattle.abi.proofs.Tracks.{at_the_head, length_words, past_written, word_at}
use Rattle.wire.specs.Storing.{written}

-- ---- how many are known

module _ (n : ℕ) (ts : List ℕ) where
  pub known_unread : get_or ts 63 0 ≡ unread → known n ts ≡ 2 * min n 32
  unfolding known
  known_unread last = if_pos (ℕ_discrete (get_or ts 63 0) unread) last _ _

  pub known_all : (get_or ts 63 0 ≡ unread → ⊥) → known n ts ≡ 64
  unfolding known
  known_all last = if_neg (ℕ_discrete (get_or ts 63 0) unread) last _ _

  pub known_in_room : (2 * min n 32 ≤ known n ts) × (known n ts ≤ 64)
  known_in_room =
      by_cases (ℕ_discrete (get_or ts 63 0) unread) (λ last. let k = known_unread last in (omega arith, omega arith))
      (λ last. let k = known_all last in (omega arith, omega arith))

-- ---- place by place

module _ (others : List ℕ) (n : ℕ) (ts : List ℕ) (long : length ts ≡ 64) where
  head_long : length (take (known n ts) ts) ≡ known n ts
  head_long = length-take-le (known n ts) ts (omega (arith, (known_in_room n ts).1))

  pub known_there : (i : ℕ) → i < known n ts → get_or (filled others n ts) i 0 ≡ get_or ts i 0
  unfolding filled
  known_there i less =
      get_or-append (take (known n ts) ts) (drop (known n ts) others) 0 i (omega (arith, head_long)) ∙ get_or-take (known n ts) ts i 0 less

  pub others_there : (i : ℕ) → known n ts ≤ i → get_or (filled others n ts) i 0 ≡ get_or others i 0
  unfolding filled
  others_there i past =
      let head = take (known n ts) ts in
      let place : i ≡ length head + (i - known n ts) = omega (arith, head_long) in
      let back : known n ts + (i - known n ts) ≡ i = omega arith in
      ap (λ (j : ℕ). get_or (filled others n ts) j 0) place ∙ get_or-append-add head (drop (known n ts) others) (i - known n ts) 0
      ∙ get_or-drop (known n ts) others (i - known n ts) 0 ∙ ap (λ (j : ℕ). get_or others j 0) back

  module _ (others-long : length others ≡ 64) where
    pub filled_long : length (filled others n ts) ≡ 64
    unfolding filled
    filled_long = simp (length-append, length-drop) (omega (arith, head_long, (known_in_room n ts).1))

  -- Of the tracks that count none is another.
  pub filled_counted : counted n (filled others n ts) ≡ counted n ts
  unfolding filled
  filled_counted =
      let m = 2 * min n 32 in
      let k = known n ts in
      take-append-le m (take k ts) (drop k others) (omega (arith, head_long, (known_in_room n ts).0))
      ∙ ext_get_or 0 (take m (take k ts)) (take m ts)
      (length-take-le m (take k ts) (omega (arith, head_long, (known_in_room n ts).0)) ∙ sym (length-take-le m ts (omega arith)))
      (λ i less.
      let below : i < m = omega (arith, length-take-le m (take k ts) (omega (arith, head_long, (known_in_room n ts).0))) in
      get_or-take m (take k ts) i 0 below ∙ get_or-take k ts i 0 (omega (arith, (known_in_room n ts).0)) ∙ sym (get_or-take m ts i 0 below))

-- ---- as it is read

module _ (bytes : List ℕ) where
  abbrev counts : ℕ
  counts = 2 * min (pairs_in bytes) 32

  abbrev words : List ℕ
  words = words_from bytes 20 counts

  pub read_long : length (tracks_read bytes) ≡ 64
  unfolding tracks_read written
  read_long = length-sets nothing_read 0 words

  read_there : (i : ℕ) → i < counts → get_or (tracks_read bytes) i 0 ≡ get_or (tracks_in bytes) i 0
  unfolding tracks_read
  read_there i less =
      let many = length_words bytes 20 counts in
      ap (λ (l : List ℕ). get_or l i 0) (at_the_head nothing_read words (omega arith)) ∙ get_or-append words (drop (length words) nothing_read) 0 i (omega arith)
      ∙ word_at bytes 20 counts i less ∙ sym (word_at bytes 20 64 i (omega arith))

  -- The tracks that count are known, and no others.
  read_known : known (pairs_in bytes) (tracks_read bytes) ≡ counts
  unfolding tracks_read
  read_known =
      by_cases (dec_lt counts 64)
      (λ some.
      known_unread (pairs_in bytes) (tracks_read bytes)
      (past_written nothing_read 0 words 63 (omega (arith, length_words bytes 20 counts)) ∙ get_or-replicate 64 63 unread 0 (omega arith)))
      (λ all. omega (arith, known_in_room (pairs_in bytes) (tracks_read bytes)))

  -- With the others as they stand in the bytes it is the table that stands there.
  filled_read : filled (tracks_in bytes) (pairs_in bytes) (tracks_read bytes) ≡ tracks_in bytes
  filled_read =
      ext_get_or 0 (filled (tracks_in bytes) (pairs_in bytes) (tracks_read bytes)) (tracks_in bytes)
      (filled_long (tracks_in bytes) (pairs_in bytes) (tracks_read bytes) read_long (length_words bytes 20 64) ∙ sym (length_words bytes 20 64))
      (λ i less.
      by_cases (dec_lt i counts)
      (λ below. known_there (tracks_in bytes) (pairs_in bytes) (tracks_read bytes) read_long i (omega (arith, read_known)) ∙ read_there i below)
      (λ past. others_there (tracks_in bytes) (pairs_in bytes) (tracks_read bytes) read_long i (omega (arith, read_known))))

  -- Of the tracks that count none is another.
  pub read_counted : counted (pairs_in bytes) (tracks_read bytes) ≡ counted (pairs_in bytes) (tracks_in bytes)
  read_counted =
      sym (filled_counted (tracks_in bytes) (pairs_in bytes) (tracks_read bytes) read_long) ∙ ap (counted (pairs_in bytes)) filled_read

  -- What is read is that record, by value and by the tracks that were read for it.
  pub read_is :
      (u : UnitRecord) {n : ℕ} {tracks : List ℕ} → by_value u ≡ by_value (record_in bytes) → n ≡ pairs u →
      tracks ≡ written nothing_read 0 (words_from bytes 20 (2 * min n 32)) → unit_of (by_value u) tracks ≡ read_in bytes
  unfolding tracks_read
  read_is u is counted read = rw (read, counted, is)

  pub record_read : filled_in bytes (read_in bytes) ≡ record_in bytes
  record_read = λ i. unit_of (by_value (record_in bytes)) (filled_read i)

-- ---- what blocks make of it

module _ (others : List ℕ) (others-long : length others ≡ 64) where
  -- An 87 clears it, and then all of it is known.
  pub filled_cleared : filled others 0 no_tracks ≡ no_tracks
  unfolding filled
  filled_cleared = rw (known_all 0 no_tracks (λ is. omega arith), drop_of_length-le others {i = 64} (omega arith)) refl

  -- An 85 adds its pair after those that are known.
  module _ (n : ℕ) (ts : List ℕ) (b s : ℕ) (long : length ts ≡ 64) (room : n < 32) (last : s % 256 ≡ 0) where
    abbrev paired : List ℕ
    paired = with_pair n ts b s

    all_count : (min n 32 ≡ n) × (min (n + 1) 32 ≡ n + 1)
    all_count = (min-eq_left (omega arith), min-eq_left (omega arith))

    -- How many are known then: the pair more, or all, as before it or because it was the last.
    known_then :
        ((known n ts ≡ 2 * n) × (known (n + 1) paired ≡ 2 * n + 2)) ⊎
        ((known (n + 1) paired ≡ 64) × ((known n ts ≡ 64) ⊎ (n ≡ 31)))
    known_then =
        by_cases (ℕ_discrete n 31)
        (λ full.
        let spare : get_or paired 63 0 ≡ s = ap (λ (i : ℕ). get_or paired i 0) (omega arith) ∙ its_spare n ts b s room long in
        inr (known_all (n + 1) paired (λ is. omega arith), inr full))
        (λ some.
        let same : get_or paired 63 0 ≡ get_or ts 63 0 = beside_the_pair n ts b s room long 63 (λ is. omega arith) (λ is. omega arith) in
        by_cases (ℕ_discrete (get_or ts 63 0) unread)
        (λ is. inl (omega (arith, known_unread n ts is, all_count.0), omega (arith, known_unread (n + 1) paired (same ∙ is), all_count.1)))
        (λ no. inr (known_all (n + 1) paired (λ is. no (sym same ∙ is)), inl (known_all n ts no))))

    pub filled_added : filled others (n + 1) paired ≡ with_pair n (filled others n ts) b s
    filled_added =
        let long' = long_still n ts b s room long in
        let whole = filled_long others n ts long others-long in
        ext_get_or 0 (filled others (n + 1) paired) (with_pair n (filled others n ts) b s)
        (filled_long others (n + 1) paired long' others-long ∙ sym (long_still n (filled others n ts) b s room whole))
        (λ i less. each i (omega (arith, filled_long others (n + 1) paired long' others-long)))
      where
        each : (i : ℕ) → i < 64 → get_or (filled others (n + 1) paired) i 0 ≡ get_or (with_pair n (filled others n ts) b s) i 0
        each i less =
            let long' = long_still n ts b s room long in
            let whole = filled_long others n ts long others-long in
            let there = known_there others (n + 1) paired long' in
            let least = (known_in_room (n + 1) paired).0 in
            by_cases (ℕ_discrete i (2 * n))
            (λ first.
            there i (omega (arith, all_count.1)) ∙
            ap (λ (j : ℕ). get_or paired j 0) first ∙ its_bad n ts b s room long ∙
            sym (ap (λ (j : ℕ). get_or (with_pair n (filled others n ts) b s) j 0) first ∙ its_bad n (filled others n ts) b s room whole))
            (λ not_first.
            by_cases (ℕ_discrete i (2 * n + 1))
            (λ second.
            there i (omega (arith, all_count.1)) ∙
            ap (λ (j : ℕ). get_or paired j 0) second ∙ its_spare n ts b s room long ∙
            sym (ap (λ (j : ℕ). get_or (with_pair n (filled others n ts) b s) j 0) second ∙ its_spare n (filled others n ts) b s room whole))
            (λ not-second.
            beside i less not_first not-second ∙ sym (beside_the_pair n (filled others n ts) b s room whole i not_first not-second)))
          where
            by_known :
                (i : ℕ) → (i ≡ 2 * n → ⊥) → (i ≡ 2 * n + 1 → ⊥) → (i < known (n + 1) paired → i < known n ts) → (known (n + 1) paired ≤ i → known n ts ≤ i) →
                get_or (filled others (n + 1) paired) i 0 ≡ get_or (filled others n ts) i 0
            by_known i not_first not-second in_both in-none =
                let long' = long_still n ts b s room long in
                by_cases (dec_lt i (known (n + 1) paired))
                (λ below.
                known_there others (n + 1) paired long' i below ∙ beside_the_pair n ts b s room long i not_first not-second
                ∙ sym (known_there others n ts long i (in_both below)))
                (λ past.
                others_there others (n + 1) paired long' i (omega arith) ∙ sym (others_there others n ts long i (in-none (omega arith))))

            beside : (i : ℕ) → i < 64 → (i ≡ 2 * n → ⊥) → (i ≡ 2 * n + 1 → ⊥) → get_or (filled others (n + 1) paired) i 0 ≡ get_or (filled others n ts) i 0
            beside i less not_first not-second =
                ⊎_elim (λ more. by_known i not_first not-second (λ below. omega arith) (λ past. omega arith))
                (λ all. ⊎_elim (λ before. by_known i not_first not-second (λ below. omega arith) (λ past. omega arith))
                (λ full. by_known i not_first not-second (λ below. omega (arith, (known_in_room n ts).0, all_count.0)) (λ past. omega arith)) all.1) known_then

-- ---- along a run

-- A block takes no notice of it.
pub fills : (bytes : List ℕ) → PastPairs (filled (tracks_in bytes))
fills bytes =
    let all = length_words bytes 20 64 in
    record {
      same = filled_counted (tracks_in bytes);
      long = λ n ts long. filled_long (tracks_in bytes) n ts long all;
      cleared = filled_cleared (tracks_in bytes) all;
      added = filled_added (tracks_in bytes) all;
    }

-- The world as it is read, of what is lent to a call, and once it is filled from the records' bytes.
module _ (c : Controller) (l : CallLent) where
  abbrev pub world_read : World
  world_read =
      record {
        controller = c;
        host = l.host;
        drive0 = record { unit = read_in l.record0; image = l.image0 };
        drive1 = record { unit = read_in l.record1; image = l.image1 };
        events = l.events;
      }

  abbrev pub fill : World → World
  fill w = past_both (filled (tracks_in l.record0)) (filled (tracks_in l.record1)) w

  pub read_filled : fill world_read ≡ world_in c l
  read_filled =
      λ i.
      record {
        controller = c;
        host = l.host;
        drive0 = record { unit = record_read l.record0 i; image = l.image0 };
        drive1 = record { unit = record_read l.record1 i; image = l.image1 };
        events = l.events;
      }

  pub read_tables_long : LongTables world_read
  read_tables_long = record { first = read_long l.record0; second = read_long l.record1 }

  -- A run of it comes to what a run of the world in the bytes does, and so does a block.
  pub run_filled :
      (first allowance : ℕ) →
      ran first allowance (world_in c l) ≡
      (let e = ran first allowance world_read in ends e.answer e.failed e.tally (fill e.world))
  run_filled first allowance =
      ap (ran first allowance) (sym read_filled) ∙ ran_past _ _ (fills l.record0) (fills l.record1) first allowance world_read read_tables_long

  module _ (at i : ℕ) where
    pub world_filled : world_after at i (world_in c l) ≡ fill (world_after at i world_read)
    world_filled = ap (world_after at i) (sym read_filled) ∙ world_past _ _ (fills l.record0) (fills l.record1) world_read read_tables_long at i

    effect_filled :
        effect_at at i (world_in c l) ≡
        past_effect (past_of (filled (tracks_in l.record0)) (filled (tracks_in l.record1)) (unit_at world_read at)) (effect_at at i world_read)
    effect_filled = ap (effect_at at i) (sym read_filled) ∙ effect_at_past _ _ (fills l.record0) (fills l.record1) world_read read_tables_long at i

    pub answer_filled : (effect_at at i (world_in c l)).answer ≡ (effect_at at i world_read).answer
    answer_filled = ap (λ (e : Effect). e.answer) effect_filled

    pub sectors_filled : (effect_at at i (world_in c l)).sectors ≡ (effect_at at i world_read).sectors
    sectors_filled = ap (λ (e : Effect). e.sectors) effect_filled
