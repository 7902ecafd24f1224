-- What a block writes of host memory, and the data that it takes from there, by the papers' list: each line for its commands.
-- A plan that was let through is its task's own, and a refused block moves and reports nothing.
use Rattle.answers.specs.declared.Refusal.{Refusal}
use Rattle.std.proofs.Common.{Err, Ok, Result}
use Prim.Native.Nat.{ℕ, ◌+◌, ◌*◌, ◌<◌}
use mathlib.Core.Bool.{Bool, true, false}
use mathlib.Core.Logic.{◌⊎◌, inl, inr}
use mathlib.Core.Path.{◌≡◌, refl, sym, ap, subst, ◌∙◌}
use native.Mathlib.Nat.{zero-mul}
use native.Mathlib.Omega.{arith}
use Rattle.wire.specs.Among.{Among}
use Rattle.wire.proofs.Promises.{never}
use Rattle.geometry.specs.Drive.{B}
use Rattle.request.specs.declared.Move.{Move}
use Rattle.request.specs.declared.Task.TheVariants.{Move as Moves, Handshake, Format}
use Rattle.request.specs.declared.Track.{Track as Tracks}
use Rattle.judge.specs.declared.Moving.{Moving}
use Rattle.judge.specs.declared.Moving.TheVariants.{Nothing, Sectors, Track}
use Rattle.judge.specs.declared.Plan.{Plan}
use Rattle.judge.specs.declared.Report.{Report}
use Rattle.judge.specs.declared.Report.TheVariants.{Nothing as Silent, Identity, Formatted}
use Rattle.judge.specs.Given.{Asked}
use Rattle.judge.specs.Verdict.{verdict}
use Rattle.judge.proofs.Known.{MoverKnown, ReportKnown}
use Rattle.judge.proofs.LetThrough.{format_reports, handshake_reports, mover_let_through, report_let_through}
use Rattle.transfer.specs.Data.{progress_on}
use Rattle.transfer.specs.Progress.{progress}
use Rattle.unit.specs.Standing.{geometry}
use Rattle.block.specs.Block.{Drive, transfer_of}
use Rattle.demands.specs.Footprint.{HostData, HostWritten, InReport, moving_of, report_of, transfer_by}
use Rattle.demands.specs.Footprint.HostWritten.{moved, report, status_word}

-- A read or a write, by the way that its data goes.
abbrev MovesData : Asked → Bool → Type 0
MovesData a to_host = (m : Move) × ((a.task ≡ Moves m) × (m.to_host ≡ to_host))

-- A format that is let through.
abbrev pub Formats : Asked → Type 0
Formats a = ((k : Tracks) × (a.task ≡ Format k)) × ((p : Plan) × (verdict a ≡ Ok p))

module _ (a : Asked) where
  -- Words are reported for an 86, where they are words 2 to 7, and for an 8C that is let through, where they are the lower byte of word 3 and
  -- word 4.
  abbrev pub ReportedFor : ℕ → ℕ → Type 0
  ReportedFor at x = ((a.task ≡ Handshake) × Among (at + 4) 12 x) ⊎ (Formats a × Among (at + 7) 3 x)

  reported_for : (at x : ℕ) → InReport at (report_of (verdict a)) x → ReportedFor at x
  reported_for at x = by_verdict (verdict a) refl
    where
      by_report : (p : Plan) → verdict a ≡ Ok p → (r : Report) → ReportKnown a r → InReport at r x → ReportedFor at x
      by_report p is Silent known none = absurd none
      by_report p is Identity known among = inl (known, among)
      by_report p is (Formatted n) known among = inr ((known.0, (p, is)), among)

      by_verdict : (v : Result Plan Refusal) → verdict a ≡ v → InReport at (report_of v) x → ReportedFor at x
      by_verdict (Err r) is none = absurd none
      by_verdict (Ok p) is among = by_report p is p.report (report_let_through a p is) among

  for_reported : (at x : ℕ) → ReportedFor at x → InReport at (report_of (verdict a)) x
  for_reported at x (inl (is, among)) = rw (handshake_reports a is) among
  for_reported at x (inr (((k, is), (p, do-so)), among)) =
      subst (λ (r : Report). InReport at r x) (sym (ap report_of do-so ∙ format_reports a k p is do-so)) among

  known : MoverKnown a.task (moving_of (verdict a))
  known = by_verdict (verdict a) refl
    where
      by_verdict : (v : Result Plan Refusal) → verdict a ≡ v → MoverKnown a.task (moving_of v)
      by_verdict (Err r) is = tt
      by_verdict (Ok p) is = mover_let_through a p is

  -- Data goes to host memory for a read.
  to_host_for : (transfer_by a).to_host ≡ true → MovesData a true
  to_host_for = by_moving (moving_of (verdict a)) known
    where
      by_moving :
          (m : Moving) → MoverKnown a.task m → (transfer_of a.host a.unit m).to_host ≡ true → MovesData a true
      by_moving Nothing none goes = absurd (never cc)
      by_moving (Sectors j) (m, (asks, way)) goes = (m, (asks, sym way ∙ goes))
      by_moving (Track spot at) format goes = absurd (never cc)

  -- To move nothing is to move no sectors.
  no_sectors : (d : Drive) → (progress_on d.image (transfer_of a.host a.unit Nothing)).sectors ≡ 0
  unfolding progress
  no_sectors d = refl

  -- It is taken from there for a write, or for a format.
  pub taken_for : (d : Drive) (x : ℕ) → HostData a d false x → MovesData a false ⊎ ((k : Tracks) × (a.task ≡ Format k))
  taken_for d x byte = by_moving (moving_of (verdict a)) known byte.goes byte.byte byte.moved
    where
      by_moving :
          (m : Moving) → MoverKnown a.task m → (transfer_of a.host a.unit m).to_host ≡ false → (k : ℕ) →
          k < (progress_on d.image (transfer_of a.host a.unit m)).sectors * B (transfer_of a.host a.unit m).geometry →
          MovesData a false ⊎ ((k : Tracks) × (a.task ≡ Format k))
      by_moving Nothing none goes k less =
          absurd (omega (arith, less, zero-mul (B (geometry a.unit)), ap (λ (n : ℕ). n * B (geometry a.unit)) (no_sectors d)))
      by_moving (Sectors j) (m, (asks, way)) goes k less = inl (m, (asks, sym way ∙ goes))
      by_moving (Track spot at) format goes k less = inr format

  -- "word 1 of each fetched block, words 2 to 7 for 86, the data bytes that 81 and A1 moved", and what 8C reports: these bytes are written,
  -- and no others.
  abbrev pub Listed : ℕ → Drive → ℕ → Type 0
  Listed at d x = Among (at + 2) 2 x ⊎ (ReportedFor at x ⊎ (MovesData a true × HostData a d true x))

  pub written_for : (at : ℕ) (d : Drive) (x : ℕ) → HostWritten at a d x → Listed at d x
  written_for at d x (status_word among) = inl among
  written_for at d x (report among) = inr (inl (reported_for at x among))
  written_for at d x (moved byte) = inr (inr (to_host_for byte.goes, byte))

  pub for_written : (at : ℕ) (d : Drive) (x : ℕ) → Listed at d x → HostWritten at a d x
  for_written at d x (inl among) = status_word among
  for_written at d x (inr (inl told)) = report (for_reported at x told)
  for_written at d x (inr (inr (moves, byte))) = moved byte
