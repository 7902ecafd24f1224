-- What is known of a request that no check refuses: that its plan fits, and whose it is.
-- Here is what it says, and what a check that is not given leaves.
use Rattle.std.proofs.Common.{Err, None, Ok, Option, Result, Some}
use Prim.Native.Nat.{ℕ, ◌+◌, ◌*◌, ◌≤◌, ◌<◌}
use mathlib.Core.List.{List, [], ◌∷◌}
use mathlib.Core.Logic.{by_cases}
use mathlib.Core.Path.{◌≡◌, sym, ◌∙◌}
use native.Mathlib.Omega.{arith}
use Rattle.geometry.specs.Sectors.{Covers}
use Rattle.wire.proofs.Decided.{in_memory?}
use Rattle.wire.specs.Among.{Among}
use Rattle.wire.proofs.Promises.{never as impossible}
use Rattle.answers.specs.declared.Refusal.{Refusal}
use Rattle.geometry.specs.declared.VolumeNumber.{VolumeNumber}
use Rattle.geometry.specs.Drive.{C, S, volume_sectors}
use Rattle.geometry.proofs.Ends.{heads_of_within}
use Rattle.request.specs.declared.Buffer.{Buffer}
use Rattle.request.specs.declared.Buffer.TheVariants.{Piece, List as Elements}
use Rattle.request.specs.declared.Move.{Move}
use Rattle.request.specs.declared.Track.{Track as Tracks}
use Rattle.request.specs.declared.Task.{Task}
use Rattle.request.specs.declared.Task.TheVariants.{Move as Moves, Handshake, Format}
use Rattle.unit.specs.Landing.{spot_of}
use Rattle.spares.specs.Tracks.{TrackOn, track_number}
use Rattle.spares.proofs.Laws.{on_drive_by_parts}
use Rattle.unit.specs.declared.Controller.{Controller}
use Rattle.unit.specs.Standing.{CountsAsInitialized, UnitRecord, geometry}
use Rattle.unit.proofs.Laws.{spot_inside}
use Rattle.memory.proofs.Decided.{list_good?, ranges?}
use Rattle.judge.specs.declared.Plan.{Plan}
use Rattle.judge.specs.declared.Leaving.{Leaving}
use Rattle.judge.specs.declared.Moving.{Moving}
use Rattle.judge.specs.declared.Moving.TheVariants.{Sectors, Track}
use Rattle.judge.specs.declared.Report.{Report}
use Rattle.judge.specs.declared.Report.TheVariants.{Nothing, Identity, Formatted}
use Rattle.judge.specs.Plans.{number_there, only}
use Rattle.judge.specs.Asks.{of_buffer}
use Rattle.judge.specs.Checks.{Check, first}
use Rattle.judge.specs.Fits.{BufferGood, LeavingFits, PlanFits}
use Rattle.judge.specs.Given.{Asked, HasTrack, on}
use Rattle.judge.specs.Reads.{InList}
use Rattle.judge.proofs.First.{done, skip, stop}
use Rattle.judge.specs.Passed.{NoneGiven}

no_refusal : {r : Refusal} {p : Plan} → Err r ≡ Ok p → ⊥
no_refusal e = impossible cc

plan_of : (p q : Plan) → ◌≡◌ {A = Result Plan Refusal} (Ok p) (Ok q) → p ≡ q
plan_of p q e = cc

-- A list of checks that lets a plan through: none of them is given, and the plan is its own.
pub all_passed : (ks : List Check) (p q : Plan) → first ks p ≡ Ok q → NoneGiven ks × (p ≡ q)
unfolding NoneGiven
all_passed [] p q e = (tt, plan_of p q (sym (done p) ∙ e))
all_passed (k ∷ ks) p q e =
    by_cases k.given? (λ given. absurd (no_refusal (sym (stop k ks p given) ∙ e)))
    (λ out.
    let rest = all_passed ks p q (sym (skip k ks p out) ∙ e) in
    ((out, rest.0), rest.1))

-- What a check that is not given leaves, where its case is that something does not hold.
pub so : {P : Type 0} → Dec P → ((P → ⊥) → ⊥) → P
so d out = by_cases d (λ p. p) (λ no-p. absurd (out no-p))

-- Beside that it fits: whose it is, what it reports, and the list that it has been judged by.
abbrev pub ReportKnown : Asked → Report → Type 0
ReportKnown a Nothing = Unit {0}
-- only a handshake reports what the board is, and only a format how many sectors it was: those of a track
ReportKnown a Identity = a.task ≡ Handshake
ReportKnown a (Formatted n) = ((k : Tracks) × (a.task ≡ Format k)) × (n ≡ S (geometry a.unit))

-- sectors are moved for a read or a write, its way, and a track for a format
abbrev pub MoverKnown : Task → Moving → Type 0
MoverKnown t Moving.Nothing = Unit {0}
MoverKnown t (Sectors j) = (m : Move) × ((t ≡ Moves m) × (j.to_host ≡ m.to_host))
MoverKnown t (Track spot at) = (k : Tracks) × (t ≡ Format k)

abbrev pub ListKnown : Asked → Moving → Type 0
ListKnown a Moving.Nothing = Unit {0}
ListKnown a (Sectors j) = (at n x : ℕ) → j.buffer ≡ Elements at n → Among at (8 * n) x → InList a x
ListKnown a (Track spot at) = Unit {0}

-- one that moves sectors reports nothing
abbrev pub Quiet : Moving → Report → Type 0
Quiet Moving.Nothing r = Unit {0}
Quiet (Sectors j) r = r ≡ Nothing
Quiet (Track spot at) r = Unit {0}

pub record Accepted (a : Asked) (p : Plan) : Type 0 where
  pub fits : PlanFits a.unit a.image a.host p
  pub mover : MoverKnown a.task p.moving
  pub report : ReportKnown a p.report
  pub quiet : Quiet p.moving p.report
  pub list : ListKnown a p.moving

module _ (c : Controller) (u : UnitRecord) (image : ℕ) (host : List ℕ) where
  abbrev asking : Task → Asked
  asking t = on c u image t host

  pub good_buffer : (a : Asked) (b : Buffer) (bytes : ℕ) → NoneGiven (of_buffer a b bytes) → BufferGood a.host b bytes
  unfolding NoneGiven
  good_buffer a (Piece at) bytes none = so (in_memory? a.host at bytes) none.0
  good_buffer a (Elements at n) bytes none = (so (list_good? a.host at n bytes) none.0, so (ranges? a.host at n) none.1.0)

  pub covered :
      (v : VolumeNumber) (x : Option ℕ) (count : ℕ) → 0 < count → Covers (geometry u) v x count → number_there x + count ≤ volume_sectors (geometry u) v
  covered v (Some n) count some c = omega arith
  covered v None count some c = absurd c

  pub seek_inside : (v : VolumeNumber) (x : Option ℕ) → Covers (geometry u) v x 1 → (spot_of u v (number_there x)).cylinder < C (geometry u)
  seek_inside v (Some n) c = (spot_inside u v n c.0).cylinder
  seek_inside v None c = absurd c

  -- A track of a drive that counts as initialized has its number in a table.
  pub has_number : CountsAsInitialized u → (c h : ℕ) → HasTrack u c h → TrackOn (geometry u) (track_number c h)
  has_number counts c h has =
      let low : h < 256 = omega (arith, has.head, heads_of_within (geometry u) counts.within.volumes) in
      (on_drive_by_parts c h low (geometry u)).1 (has.cylinder, has.head)

  pub heads_only : (t : Task) (l : Leaving) → LeavingFits u l → Accepted (asking t) (only l)
  heads_only t l fits = record { fits = record { moving = tt; report = tt; leaving = fits }; mover = tt; report = tt; quiet = tt; list = tt }
