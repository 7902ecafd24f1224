-- A block that is refused because the other controller holds its drive reads its 28 bytes and nothing else (02, K10): no UIB, no list, no data.
-- What a block reads of these it reads past the check that refuses this one.
use Rattle.std.proofs.Common.{Err}
use Prim.Native.Nat.{ℕ}
use mathlib.Core.Path.{◌≡◌, subst}
use native.Mathlib.Nat.{zero-mul}
use native.Mathlib.Omega.{arith}
use lib.Dec.{T}
use Rattle.wire.specs.Among.{Among}
use Rattle.answers.specs.declared.Refusal.{Refusal}
use Rattle.judge.specs.Asks.{checks_of}
use Rattle.judge.proofs.Locality.{read_uib_placed}
use Rattle.judge.specs.Given.{Asked}
use Rattle.judge.specs.Reads.{InList, InUib}
use Rattle.request.specs.declared.Task.{Task}
use Rattle.unit.specs.Holding.{held_by_other}
use Rattle.unit.specs.Standing.{holder}
use Rattle.demands.specs.Footprint.{ReadsHost, asked_of}
use Rattle.demands.specs.Visits.{Visit, effect_of}
use Rattle.demands.proofs.BlockLaws.{answer_24_exactly, refusal_moves_nothing, refused_exactly}
use Rattle.demands.proofs.Read.{ReadJudged, reads_judged}
use Rattle.demands.proofs.Read.ReadJudged.{list, own, taken, uib}
use Rattle.demands.proofs.Written.{sectors_come}
use Rattle.judge.specs.Passed.{NoneGiven, before}

module _ (a : Asked) (held : T (held_by_other a.controller (holder a.unit))) where
  no_uib : (at bytes x : ℕ) → InUib a at bytes x → ⊥
  no_uib at bytes x u = (read_uib_placed a at bytes x u).1 held

  no_list : (x : ℕ) → InList a x → ⊥
  unfolding NoneGiven
  no_list x l =
      let passed = subst (λ (t : Task). NoneGiven (before Refusal.ListBad (checks_of a t))) l.asks l.passed in
      passed.0 held

module _ (v : Visit) (refused : (effect_of v).answer ≡ Err Refusal.DriveHeld) where
  pub reads_its_28_bytes_alone : (x : ℕ) → ReadsHost v x → Among v.at 28 x
  reads_its_28_bytes_alone x read = own_alone (reads_judged v x read)
    where
      own_alone : ReadJudged v x → Among v.at 28 x
      own_alone (own among) = among
      own_alone (uib u) = absurd (no_uib (asked_of v) ((answer_24_exactly v).0 refused).1 _ _ x u)
      own_alone (list l) = absurd (no_list (asked_of v) ((answer_24_exactly v).0 refused).1 x l)
      own_alone (taken d) =
          let nothing = (refusal_moves_nothing v Refusal.DriveHeld ((refused_exactly v Refusal.DriveHeld (λ is. omega arith)).0 refused)).0 in
          let none = rw (sectors_come v, nothing, zero-mul) at d.moved in
          omega arith
