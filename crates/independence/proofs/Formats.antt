-- A format that is let through: what it names, reads, writes and comes to is told by its plan.
-- Its words are the three bytes that stand between its head and its buffer's address.
use Rattle.answers.specs.declared.Refusal.{Refusal}
use Rattle.judge.specs.declared.Plan.{Plan}
use Rattle.std.proofs.Common.{Ok, Result}
use Prim.Native.Nat.{ℕ, ◌+◌, ◌*◌, ◌%◌, ◌<◌}
use mathlib.Core.Bool.{true, false}
use mathlib.Core.List.{[], ◌∷◌}
use mathlib.Core.Logic.{inl, ⊎_elim}
use mathlib.Core.Path.{◌≡◌, sym, subst}
use native.Mathlib.Omega.{arith}
use Rattle.wire.specs.Among.{Among}
use Rattle.wire.proofs.Promises.{never as impossible}
use Rattle.geometry.specs.Drive.{B, S}
use Rattle.iopb.specs.Ask.{task_of}
use Rattle.unit.specs.Standing.{geometry}
use Rattle.judge.specs.Plans.{plan_of}
use Rattle.request.specs.declared.Task.{Task}
use Rattle.demands.specs.Footprint.{HostData, InReport, ReadsHost, RunReads, RunWrites, WritesHost, asked_of, named_drive, names, report_of, verdict_of}
use Rattle.demands.specs.Footprint.HostRead.{moved as taken}
use Rattle.demands.specs.Footprint.HostWritten.{report}
use Rattle.demands.specs.Visits.{Passes, Visit, block_of}
use Rattle.demands.proofs.Fits.{drives_geometry}
use Rattle.demands.proofs.Reports.{FormatTold, format_told}
use Rattle.demands.proofs.Written.{sectors_come}
use Rattle.independence.proofs.Carried.{Alone, alone, no_list, no_uib, no_way, v}
use Rattle.independence.proofs.OneBlock.{by_block}
use Rattle.independence.proofs.Tiny.{track}
use Rattle.board.specs.World.{World}

module _
    (w : World) (passes : Passes 0 1 w) (buffer : ℕ) (task : task_of w.host (block_of (v w 0 passes)) ≡ Task.Format (track buffer))
    (size : B (geometry (named_drive (v w 0 passes)).unit) ≡ 64)
    (judged : verdict_of (v w 0 passes) ≡ Ok (plan_of (named_drive (v w 0 passes)).unit (Task.Format (track buffer))))
  where
    abbrev b : Visit
    b = v w 0 passes

    -- Every sector gets the same 64 bytes.
    data_lies : (x : ℕ) → HostData (asked_of b) (named_drive b) false x → Among buffer 64 x
    data_lies x d =
        let lies : buffer + d.byte % 64 ≡ x = rw (judged, size) at d.here in
        omega arith

    not_stored : (x : ℕ) → HostData (asked_of b) (named_drive b) true x → ⊥
    not_stored x d = no_way (sym (rw judged at d.goes))

    pub format_alone : Alone 0 w (names b) ((0, 28) ∷ (buffer, 64) ∷ []) ((2, 2) ∷ (7, 3) ∷ [])
    format_alone =
        alone w 0 passes ((buffer, 64) ∷ []) ((7, 3) ∷ [])
        (λ x j. ⊎_elim (λ uib. absurd (no_uib _ _ _ x (λ s is. impossible (cc (task, is))) uib)) (λ list. absurd (no_list _ x (λ m is. impossible (cc (task, is))) list)) j)
        (λ x d. inl (data_lies x d))
        (λ x among. inl (subst (λ (verd : Result Plan Refusal). InReport 0 (report_of verd) x) judged among))
        (λ x d. absurd (not_stored x d))

    pub format_comes : FormatTold b
    format_comes = format_told b passes.place.inside ((track buffer, task), (_, judged))

    pub format_wrote : (x : ℕ) → Among 7 3 x → RunWrites 0 1 w x
    format_wrote x among = by_block 0 _ passes (λ v. WritesHost v x) (report (rw judged among))

    -- It reads its data, to the last byte.
    pub format_took : (k : ℕ) → k < 64 → k < S (geometry (named_drive b).unit) * 64 → RunReads 0 1 w (buffer + k)
    format_took k less moved =
        by_block 0 _ passes (λ v. ReadsHost v (buffer + k))
        (taken
        (record {
          goes = rw judged;
          byte = k;
          moved = rw (sectors_come b, format_comes.counted, drives_geometry (asked_of b), size) moved;
          here = rw (judged, size) (omega arith);
        }))
