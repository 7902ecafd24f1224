-- Whatever is shown by going through the tasks one by one: a task more is a line in each, here, and a law of its command in Table.
-- What they have in common stands beside them (Buffers, Known), and what follows for every task above (Table, Locality, LetThrough).
use Rattle.std.proofs.Common.{Err, None, Some}
use Prim.Native.Nat.{ℕ, ◌<◌}
use mathlib.Core.List.{List, [], ◌∷◌}
use mathlib.Core.Logic.Dec
use mathlib.Core.Path.{◌≡◌, refl, sym, ap, ◌∙◌}
use native.Mathlib.Omega.{arith}
use lib.Dec.{T}
use lib.ListN.{get_or, length}
use Rattle.answers.specs.declared.Refusal.TheVariants.{DriveHeld}
use Rattle.geometry.specs.Drive.{B, S}
use Rattle.geometry.specs.Answers.{on_drive?}
use Rattle.geometry.specs.Sectors.{address}
use Rattle.geometry.proofs.Decided.{covers?, within?}
use Rattle.memory.specs.Lists.{ListGood}
use Rattle.request.specs.declared.Buffer.{Buffer}
use Rattle.request.specs.declared.Buffer.TheVariants.{Piece, List as Elements}
use Rattle.request.specs.declared.Task.{Task}
use Rattle.request.specs.declared.Task.TheVariants.{Unknown, Move as Moves, Handshake, Initialize, Restore, Seek, Format, Map}
use Rattle.spares.specs.Lands.{counted}
use Rattle.spares.proofs.Alike.{free_alike}
use Rattle.spares.proofs.Decided.{free?}
use Rattle.unit.specs.Holding.{held_by_other}
use Rattle.unit.specs.Landing.{spot_of}
use Rattle.unit.specs.declared.Controller.{Controller}
use Rattle.unit.specs.declared.Spot.{Spot}
use Rattle.unit.specs.Standing.{UnitRecord, by_value, geometry, holder, pairs, table, unit_of}
use Rattle.unit.proofs.Alike.{counts_alike, spot_alike, track_alike}
use Rattle.unit.proofs.Decided.{counts?}
use Rattle.unit.proofs.Laws.{track_inside, track_whole}
use Rattle.wire.proofs.Decided.{in_memory?}
use Rattle.judge.specs.declared.Leaving.{Leaving}
use Rattle.judge.specs.declared.Moving.{Moving}
use Rattle.judge.specs.declared.Plan.{Plan}
use Rattle.judge.specs.declared.Report.{Report}
use Rattle.judge.specs.Steps.{asks_holder, before_buffer, by_its_own, bytes_of, own_checks, begins_at}
use Rattle.judge.specs.Plans.{number_there, job_of, only, plan, plan_of}
use Rattle.judge.specs.Asks.{checks_of, drive_held, image_short, not_initialized, of_buffer, track_outside, tracks_outside, tracks_taken}
use Rattle.judge.specs.Checks.{Check, first}
use Rattle.judge.specs.Fits.{SpanGood}
use Rattle.judge.specs.Given.{Asked, bad_number, on, spare_number, start_number}
use Rattle.judge.specs.Reads.{InList}
use Rattle.judge.specs.Table.{one_of}
use Rattle.judge.specs.Verdict.{verdict}
use Rattle.judge.proofs.Known.{Accepted, covered, good_buffer, has_number, heads_only, seek_inside, so}
use Rattle.judge.proofs.Buffers.{after_the_same, alike_then, before_list, same_buffer, same_range}
use Rattle.judge.proofs.First.{numbers_of, skip, stop}
use Rattle.judge.specs.Passed.{NoneGiven}

-- ---- what is asked

-- One that is asked who holds the drive is asked that first, and then what is its own,
asked_first : (a : Asked) (t : Task) → T (asks_holder t) → checks_of a t ≡ drive_held a ∷ own_checks a t
asked_first a Unknown asks = absurd asks
asked_first a (Moves m) asks = refl
asked_first a Handshake asks = absurd asks
asked_first a (Initialize None) asks = refl
asked_first a (Initialize (Some g)) asks = refl
asked_first a Restore asks = refl
asked_first a (Seek t) asks = refl
asked_first a (Format k) asks = refl
asked_first a (Map k) asks = refl

-- so that it is judged by its own checks where the other controller does not hold the drive,
pub on_its_own : (a : Asked) → T (asks_holder a.task) → (T (held_by_other a.controller (holder a.unit)) → ⊥) → verdict a ≡ by_its_own a
unfolding verdict by_its_own
on_its_own a asks free = ap (λ ks. first ks (plan_of a.unit a.task)) (asked_first a a.task asks) ∙ skip _ _ _ free

-- and refused where that holds it.
pub stopped_by_holder :
    (a : Asked) → T (asks_holder a.task) → T (held_by_other a.controller (holder a.unit)) → verdict a ≡ Err DriveHeld
unfolding verdict
stopped_by_holder a asks held = ap (λ ks. first ks (plan_of a.unit a.task)) (asked_first a a.task asks) ∙ stop _ _ _ held

-- No task is asked a check with 20, which is the answer of a transfer that is stopped.
pub never_asked_20 : (a : Asked) (t : Task) → T (one_of 20 (numbers_of (checks_of a t))) → ⊥
never_asked_20 a Unknown there = there
never_asked_20 a (Moves m) there = by_buffer m.buffer there
  where
    by_buffer : (b : Buffer) → T (one_of 20 (numbers_of (of_buffer a b (bytes_of a m)))) → ⊥
    by_buffer (Piece at) there = there
    by_buffer (Elements at n) there = there
never_asked_20 a Handshake there = there
never_asked_20 a (Initialize None) there = there
never_asked_20 a (Initialize (Some g)) there = there
never_asked_20 a Restore there = there
never_asked_20 a (Seek t) there = there
never_asked_20 a (Format k) there = there
never_asked_20 a (Map k) there = there

-- ---- the same in two memories

module _ (c : Controller) (u : UnitRecord) (image : ℕ) (h k : List ℕ) (long : length h ≡ length k) where
  pub verdict_local : (t : Task) → ((i : ℕ) → InList (on c u image t h) i → get_or h i 0 ≡ get_or k i 0) → verdict (on c u image t h) ≡ verdict (on c u image t k)
  unfolding verdict
  verdict_local Unknown alike = refl
  verdict_local (Moves m) alike =
      let a = on c u image (Moves m) h in
      after_the_same (before_buffer a m) (of_buffer a m.buffer (bytes_of a m))
      (of_buffer (on c u image (Moves m) k) m.buffer (bytes_of a m)) (plan_of u (Moves m))
      (λ passed. same_buffer c u image h k long m alike passed m.buffer refl (bytes_of a m) (plan_of u (Moves m)))
  verdict_local Handshake alike = refl
  verdict_local (Initialize None) alike = refl
  verdict_local (Initialize (Some g)) alike = refl
  verdict_local Restore alike = refl
  verdict_local (Seek t) alike = refl
  verdict_local (Format x) alike =
      let a = on c u image (Format x) h in
      after_the_same (drive_held a ∷ not_initialized a ∷ track_outside a x ∷ image_short a ∷ []) _ _ (plan_of u (Format x))
      (λ passed. same_range c u image h k long (Format x) x.buffer (B (geometry u)) (plan_of u (Format x)))
  verdict_local (Map x) alike = refl

-- ---- the same with another table

-- A table with the same pairs that count.
module _
    (c : Controller) (u : UnitRecord) (image : ℕ) (host : List ℕ) (ts : List ℕ) (same : counted (pairs u) (table u) ≡ counted (pairs u) ts)
    (long : length (table u) ≡ 64) (ts-long : length ts ≡ 64)
  where
    abbrev changed : UnitRecord
    changed = unit_of (by_value u) ts

    abbrev this : Task → Asked
    this t = on c u image t host

    abbrev other : Task → Asked
    other t = on c changed image t host

    -- A plan asks the table only where its command lands, and in both that is the same.
    plan_alike : (t : Task) → plan_of u t ≡ plan_of changed t
    plan_alike Unknown = refl
    plan_alike (Moves m) = refl
    plan_alike Handshake = refl
    plan_alike (Initialize None) = refl
    plan_alike (Initialize (Some g)) = refl
    plan_alike Restore = refl
    plan_alike (Seek t) =
        ap (λ (s : Spot). only (Leaving.HeadsAt s.cylinder))
        (spot_alike (by_value u) (table u) ts same t.volume (number_there (start_number (geometry u) t.volume t.start)))
    plan_alike (Format k) =
        ap (λ (s : Spot). plan (Moving.Track s k.buffer) (Report.Formatted (S (geometry u))) (Leaving.HeadsAt s.cylinder))
        (track_alike (by_value u) (table u) ts same k.cylinder k.head)
    plan_alike (Map k) = refl

    -- Both units count as initialized, or neither does.
    held_and_initialized :
        (t : Task) (ks ls : List Check) (p : Plan) → first ks p ≡ first ls p →
        first (drive_held (this t) ∷ not_initialized (this t) ∷ ks) p ≡ first (drive_held (other t) ∷ not_initialized (other t) ∷ ls) p
    held_and_initialized t ks ls p rest =
        after_the_same (drive_held (this t) ∷ []) (not_initialized (this t) ∷ ks) (not_initialized (other t) ∷ ls) p
        (λ passed.
        alike_then (not_initialized (this t)) (not_initialized (other t)) ks ls p refl (
          λ out counts. out (counts_alike (by_value u) ts (table u) (sym same) long counts),
          λ out counts. out (counts_alike (by_value u) (table u) ts same ts-long counts),
        )
        (λ out. rest))

    checks_alike : (t : Task) (p : Plan) → first (checks_of (this t) t) p ≡ first (checks_of (other t) t) p
    checks_alike Unknown p = refl
    checks_alike (Moves m) p = held_and_initialized (Moves m) _ _ p refl
    checks_alike Handshake p = refl
    checks_alike (Initialize None) p = refl
    checks_alike (Initialize (Some g)) p = refl
    checks_alike Restore p = held_and_initialized Restore [] [] p refl
    checks_alike (Seek t) p = held_and_initialized (Seek t) _ _ p refl
    checks_alike (Format k) p = held_and_initialized (Format k) _ _ p refl
    checks_alike (Map k) p =
        held_and_initialized (Map k) _ _ p
        (after_the_same (tracks_outside (this (Map k)) k ∷ []) _ _ p
        (λ passed.
        alike_then (tracks_taken (this (Map k)) k) (tracks_taken (other (Map k)) k) _ _ p refl (
          λ out free. out (free_alike (pairs u) ts (table u) (sym same) (bad_number k) (spare_number k) free),
          λ out free. out (free_alike (pairs u) (table u) ts same (bad_number k) (spare_number k) free),
        )
        (λ out. refl)))

    pub verdict_alike : (t : Task) → verdict (on c u image t host) ≡ verdict (on c (unit_of (by_value u) ts) image t host)
    unfolding verdict
    verdict_alike t = ap (first (checks_of (this t) t)) (plan_alike t) ∙ checks_alike t (plan_of changed t)

-- ---- what its plan is known to be

module _ (c : Controller) (u : UnitRecord) (image : ℕ) (host : List ℕ) where
  pub accepted : (t : Task) → NoneGiven (checks_of (on c u image t host) t) → Accepted (on c u image t host) (plan_of u t)
  unfolding NoneGiven
  accepted Unknown (listed, rest) = absurd (listed tt)
  accepted (Moves m) (free, (initialized, (present, (some-sectors, (inside, (long, buffer)))))) =
      let a = on c u image (Moves m) host in
      let begin = begins_at u m.target in
      let some : 0 < m.count = omega arith in
      let span : SpanGood u (job_of m (number_there begin)).span =
      record {
        some = some;
        inside = covered c u image host m.target.volume begin m.count some (so (covers? (geometry u) m.target.volume begin m.count) inside);
      } in
      let good = good_buffer c u image host a m.buffer (bytes_of a m) buffer in
      record {
        fits =
            record {
              moving = record { counts = so (counts? u) initialized; span = span; long = omega arith; buffer = good };
              report = tt;
              leaving = (so (counts? u) initialized, span);
            };
        mover = (m, (refl, refl));
        report = tt;
        quiet = refl;
        list = λ at n x is among.
            let l : ListGood host at n (bytes_of a m) = (rw is at good).0 in
            record {
              move = m;
              asks = refl;
              at = at;
              elements = n;
              buffer = is;
              passed =
                  before_list a m at n refl is (free, (initialized, (present, (some-sectors, (inside, (long, tt))))));
              some = l.some;
              most = l.most;
              place = l.place;
              among = among;
            };
      }
  accepted Handshake none = record { fits = record { moving = tt; report = tt; leaving = tt }; mover = tt; report = refl; quiet = tt; list = tt }
  accepted (Initialize None) (free, (placed, rest)) = absurd (placed tt)
  accepted (Initialize (Some g)) (free, (within, rest)) = heads_only c u image host _ (Leaving.Fresh g) (so (within? g) within)
  accepted Restore (free, (initialized, rest)) =
      let counts = so (counts? u) initialized in
      heads_only c u image host _ (Leaving.HeadsAt 0) (counts, omega (arith, counts.within.sizes.cylinders))
  accepted (Seek t) (free, (initialized, (present, (inside, rest)))) =
      let begin = begins_at u t in
      heads_only c u image host _ (Leaving.HeadsAt (spot_of u t.volume (number_there begin)).cylinder)
      (so (counts? u) initialized, seek_inside c u image host t.volume begin (so (covers? (geometry u) t.volume begin 1) inside))
  accepted (Format k) (free, (initialized, (inside, (long, (held, rest))))) =
      let counts = so (counts? u) initialized in
      let on = so (on_drive? (geometry u) (address k.cylinder k.head 0)) inside in
      record {
        fits =
            record {
              moving =
                  record {
                    counts = counts;
                    cylinder = k.cylinder;
                    head = k.head;
                    named = on;
                    lands = refl;
                    some = counts.within.sizes.sectors.0;
                    track = omega (arith, track_inside u k.cylinder k.head on, track_whole u k.cylinder k.head);
                    long = omega arith;
                    buffer = so (in_memory? host k.buffer (B (geometry u))) held;
                  };
              report = counts.within.sizes.sectors;
              leaving = (counts, (track_inside u k.cylinder k.head on).cylinder);
            };
        mover = (k, refl);
        report = ((k, refl), refl);
        quiet = tt;
        list = tt;
      }
  accepted (Map k) (free, (initialized, (inside, (taken, (full, rest))))) =
      let counts = so (counts? u) initialized in
      let on = so (Dec.and (on_drive? (geometry u) (address k.bad_cylinder k.bad_head 0)) (on_drive? (geometry u) (address k.spare_cylinder k.spare_head 0))) inside in
      heads_only c u image host _ (Leaving.Mapped (bad_number k) (spare_number k)) (
        counts,
        record {
          bad_on = has_number c u image host counts k.bad_cylinder k.bad_head on.0;
          spare_on = has_number c u image host counts k.spare_cylinder k.spare_head on.1;
          free = so (free? (pairs u) (table u) (bad_number k) (spare_number k)) taken;
          room = omega arith;
        },
      )
