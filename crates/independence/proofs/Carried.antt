-- What a chain of a pair names, reads and writes, as ranges of bytes; and what its transfers come to.
-- All of it is told by the verdict on its one block, and whether two chains are apart is arithmetic on their ranges.
use Rattle.geometry.specs.declared.Geometry.{Geometry}
use Rattle.std.proofs.Common.{Err, Ok, Option, Result}
use Prim.Native.Nat.{ℕ, ◌+◌, ◌*◌, ◌%◌, ◌≤◌, ◌<◌}
use mathlib.Core.Bool.{Bool, true, false, cond, not}
use mathlib.Core.List.{List, [], ◌∷◌}
use mathlib.Core.Logic.{◌⊎◌, inl, inr, ⊎_elim}
use mathlib.Core.Path.{◌≡◌, refl, sym, ap, subst, ◌∙◌}
use native.Mathlib.Omega.{arith}
use lib.ListN.{get_or, length}
use Rattle.board.specs.declared.chain.Outcome.{Outcome}
use Rattle.wire.specs.Among.{Among}
use Rattle.wire.specs.Memory.{InMemory}
use Rattle.wire.proofs.Promises.{never as impossible}
use Rattle.answers.specs.Numbers.{BlockAnswer, refusal_number}
use Rattle.answers.specs.declared.Refusal.{Refusal}
use Rattle.answers.specs.declared.RunAnswer.{RunAnswer}
use Rattle.geometry.specs.Drive.{B}
use Rattle.iopb.specs.Ask.{task_of}
use Rattle.judge.specs.declared.Moving.{Moving}
use Rattle.judge.specs.declared.Plan.{Plan}
use Rattle.judge.specs.declared.Report.{Report}
use Rattle.judge.specs.Plans.{carrying, job_of}
use Rattle.judge.specs.Given.{Asked}
use Rattle.judge.specs.Reads.{InList, InUib}
use Rattle.transfer.specs.Progress.{progress}
use Rattle.block.specs.Block.{transfer_of}
use Rattle.board.specs.Ends.{end_of}
use Rattle.board.specs.Chain.{ran}
use Rattle.request.specs.declared.Buffer.{Buffer}
use Rattle.request.specs.declared.Move.{Move}
use Rattle.request.specs.declared.Task.{Task}
use Rattle.demands.specs.Footprint.{HostData, InReport, ReadsHost, RunNames, RunReads, RunWrites, WritesHost, asked_of, comes, moving_of, named_drive, names, report_of, transfer_by, verdict_of}
use Rattle.demands.specs.Visits.{Passes, Visit, block_of, effect_of}
use Rattle.demands.proofs.Fits.{drives_geometry}
use Rattle.demands.proofs.BlockLaws.{refusal_moves_nothing}
use Rattle.demands.proofs.Written.{effect_is, sectors_come}
use Rattle.independence.specs.Chains.{Both, Chain, First, HostReads, HostWrites, Names, Second, run_of, world_for}
use Rattle.independence.specs.Demand3.{EitherWay, Independent, NoUnitInCommon, NoByteReadByOther, NoByteWrittenByBoth}
use Rattle.unit.specs.declared.UnitNumber.{UnitNumber}
use Rattle.unit.specs.declared.UnitNumber.TheVariants.{Zero, One}
use Rattle.independence.specs.TwoChains.{come, drive_on, drive_with}
use Rattle.independence.proofs.Demand3.{second_same}
use Rattle.independence.proofs.OneBlock.{RangesApart, In, done, failed, no_data, no_words, none_in_both, of_block, reads_in, writes_in}
use Rattle.independence.proofs.Tiny.{carried_on, move_passes, move_of, read_of_one, read_stopped, unit, write_of_one}
use Rattle.board.specs.World.{World}

pub passes_at :
    (w : World) (at : ℕ) → length w.events ≡ 512 → at % 2 ≡ 0 → at + 28 ≤ length w.host → Passes at 1 w
passes_at w at events even inside =
    record { events = omega (arith, events); least = omega arith; most = omega arith; place = record { even = even; inside = inside } }

-- ---- a pair

-- What names, reads and writes comes to: one unit, and the ranges that the bytes lie in.
pub record Lies (names : UnitNumber → Type 0) (reads writes : ℕ → Type 0) (unit : UnitNumber) (rs ws : List (ℕ × ℕ)) : Type 0 where
  pub names_it : (n : UnitNumber) → names n → unit ≡ n
  pub reads_there : (x : ℕ) → reads x → In rs x
  pub writes_there : (x : ℕ) → writes x → In ws x

-- That of a chain, as demand 3 has it; and that of a run of one block. In a pair the one is the other by computation, so that each pair has its own
-- say on what demand 3 counts.
abbrev pub LiesOf : Chain → World → UnitNumber → List (ℕ × ℕ) → List (ℕ × ℕ) → Type 0
LiesOf k w = Lies (Names k w) (HostReads k w) (HostWrites k w)

abbrev pub Alone : ℕ → World → UnitNumber → List (ℕ × ℕ) → List (ℕ × ℕ) → Type 0
Alone at w = Lies (RunNames at 1 w) (RunReads at 1 w) (RunWrites at 1 w)

-- What is counted as read or written of a run of one block on some world lies where it lies on that world.
module _ (at x : ℕ) (w : World) {unit : UnitNumber} {rs ws : List (ℕ × ℕ)} where
  pub reading : RunReads at 1 w x → Passes at 1 w → (Passes at 1 w → Alone at w unit rs ws) → In rs x
  reading r passes there = (there passes).reads_there x r

  pub writing : RunWrites at 1 w x → Passes at 1 w → (Passes at 1 w → Alone at w unit rs ws) → In ws x
  writing r passes there = (there passes).writes_there x r

-- Two chains are apart where their units and their ranges are.
module _
    (k l : Chain) (s : Both) {m n : UnitNumber} {rs ws qs vs : List (ℕ × ℕ)}
    (f : LiesOf k (world_for First k.controller s) m rs ws) (g : LiesOf l (world_for Second l.controller s) n qs vs) where
  pub no_unit : (m ≡ n → ⊥) → NoUnitInCommon k l s
  no_unit differ u a b = differ (f.names_it u a ∙ sym (g.names_it u b))

  pub none_twice : RangesApart ws vs → NoByteWrittenByBoth k l s
  none_twice apart same x a b = none_in_both ws vs x apart (f.writes_there x a) (g.writes_there x b)

  pub none_read : RangesApart ws qs → RangesApart vs rs → NoByteReadByOther k l s
  none_read forth back same x = (
    λ w r. none_in_both ws qs x forth (f.writes_there x w) (g.reads_there x r),
    λ w r. none_in_both vs rs x back (g.writes_there x w) (f.reads_there x r),
  )

  pub met : (m ≡ n → ⊥) → RangesApart ws vs → RangesApart ws qs → RangesApart vs rs → Independent k l s
  met differ twice forth back = record { units = no_unit differ; written = none_twice twice; read = none_read forth back }

unit_number : UnitNumber → ℕ
unit_number Zero = 0
unit_number One = 1

pub differ : Zero ≡ One → ⊥
unfolding unit_number
differ same = omega (arith, ap unit_number same)

pub no_way : true ≡ false → ⊥
no_way same = omega (arith, ap (λ b. cond {A = ℕ} b 1 0) same)

module _ (w : World) (at : ℕ) (passes : Passes at 1 w) where
  abbrev pub v : Visit
  v = record { at = at; index = 0; world = w }

  module _ (rs ws : List (ℕ × ℕ)) where
    pub alone :
        ((x : ℕ) → InUib (asked_of v) (block_of v).address 18 x ⊎ InList (asked_of v) x → In rs x) →
        ((x : ℕ) → HostData (asked_of v) (named_drive v) false x → In rs x) →
        ((x : ℕ) → InReport v.at (report_of (verdict_of v)) x → In ws x) →
        ((x : ℕ) → HostData (asked_of v) (named_drive v) true x → In ws x) →
        Alone at w (names v) ((at, 28) ∷ rs) ((at + 2, 2) ∷ ws)
    alone judged from reported to =
        record {
          names_it = λ n. of_block at _ passes (λ v. names v ≡ n);
          reads_there = λ x r. reads_in v rs x (judged x) (from x) (of_block at _ passes (λ v. ReadsHost v x) r);
          writes_there = λ x w. writes_in v ws x (reported x) (to x) (of_block at _ passes (λ v. WritesHost v x) w);
        }

  -- Of a verdict that moves nothing.
  pub still :
      (verd : Result Plan Refusal) → verdict_of v ≡ verd → moving_of verd ≡ Moving.Nothing → (way : Bool) (x : ℕ) →
      HostData (asked_of v) (named_drive v) way x → ⊥
  still verd is moves way x here = no_data v x way (ap moving_of is ∙ moves) here

  pub silent :
      (verd : Result Plan Refusal) → verdict_of v ≡ verd → report_of verd ≡ Report.Nothing → (x : ℕ) →
      InReport v.at (report_of (verdict_of v)) x → ⊥
  silent verd is says x among = no_words v x (ap report_of is ∙ says) among

-- Only an initialize has a UIB that is read, and only a transfer a list.
pub no_uib : (a : Asked) (at bytes x : ℕ) → ((s : Option Geometry) → a.task ≡ Task.Initialize s → ⊥) → InUib a at bytes x → ⊥
no_uib a at bytes x other uib = other uib.shape uib.asks

pub no_list_of_a_piece : (a : Asked) (m : Move) (at x : ℕ) → a.task ≡ Task.Move m → m.buffer ≡ Buffer.Piece at → InList a x → ⊥
no_list_of_a_piece a m at x asks piece list = impossible (cc (list.asks, list.buffer))

pub no_list : (a : Asked) (x : ℕ) → ((m : Move) → a.task ≡ Task.Move m → ⊥) → InList a x → ⊥
no_list a x other list = other list.move list.asks

-- A block that moves nothing and reports nothing, and is neither an initialize nor a transfer, reads its 28 bytes and writes its word 1.
pub idle :
    (w : World) (at : ℕ) (passes : Passes at 1 w) (verd : Result Plan Refusal) → verdict_of (v w at passes) ≡ verd →
    moving_of verd ≡ Moving.Nothing → report_of verd ≡ Report.Nothing →
    ((s' : Option Geometry) → (asked_of (v w at passes)).task ≡ Task.Initialize s' → ⊥) → ((m : Move) → (asked_of (v w at passes)).task ≡ Task.Move m → ⊥) →
    Alone at w (names (v w at passes)) ((at, 28) ∷ []) ((at + 2, 2) ∷ [])
idle w at passes verd is moves says no-initialize no_move =
    alone w at passes [] []
    (λ x j. ⊎_elim (λ uib. no_uib _ _ _ x no-initialize uib) (λ list. no_list _ x no_move list) j)
    (still w at passes verd is moves false) (silent w at passes verd is says)
    (still w at passes verd is moves true)

-- An initialize whose UIB is read reads that too.
pub initialized :
    (w : World) (at : ℕ) (passes : Passes at 1 w) (verd : Result Plan Refusal) → verdict_of (v w at passes) ≡ verd →
    moving_of verd ≡ Moving.Nothing → report_of verd ≡ Report.Nothing → (uib : ℕ) → (block_of (v w at passes)).address ≡ uib →
    ((m : Move) → (asked_of (v w at passes)).task ≡ Task.Move m → ⊥) →
    Alone at w (names (v w at passes)) ((at, 28) ∷ (uib, 18) ∷ []) ((at + 2, 2) ∷ [])
initialized w at passes verd is moves says uib here no_move =
    alone w at passes ((uib, 18) ∷ []) []
    (λ x j. ⊎_elim (λ read. inl (rw here at read.among)) (λ list. absurd (no_list _ x no_move list)) j)
    (λ x d. absurd (still w at passes verd is moves false x d)) (silent w at passes verd is says)
    (still w at passes verd is moves true)

-- A block that is accepted and moves nothing ends 80 and moves no sectors.
pub comes_still :
    (v : Visit) (p : Plan) → verdict_of v ≡ Ok p → p.moving ≡ Moving.Nothing → ((effect_of v).sectors ≡ 0) × ((effect_of v).answer ≡ Ok tt)
unfolding progress
comes_still v p is moves = (
  ap (λ e. e.sectors) (effect_is v) ∙ rw (is, moves),
  ap (λ e. e.answer) (effect_is v) ∙ rw (is, moves),
)

-- What a chain comes to that moves nothing: one that is done, and one that is refused.
module _ (w : World) (at : ℕ) (passes : Passes at 1 w) where
  pub comes_done :
      (block_of (v w at passes)).options.link ≡ false → (p : Plan) → verdict_of (v w at passes) ≡ Ok p → p.moving ≡ Moving.Nothing →
      end_of (ran at 1 w) ≡ come RunAnswer.Done 0 0
  comes_done unlinked p is moves =
      let e = comes_still (v w at passes) p is moves in
      ap end_of (done at w passes unlinked 0 e.1 e.0)

  pub comes_refused : (r : Refusal) → verdict_of (v w at passes) ≡ Err r → end_of (ran at 1 w) ≡ come RunAnswer.BlockFailed (refusal_number r) 0
  comes_refused r is =
      let e = refusal_moves_nothing (v w at passes) r is in
      ap end_of (failed at w passes r 0 e.1 e.0)

-- The orders differ where the second fails otherwise after the first than it does alone.
pub fails_otherwise :
    (k l : Chain) (s then : Both) (after_it alone-it : Outcome) → (run_of First k).left s ≡ then → (run_of Second l).out then ≡ after_it →
    (run_of Second l).out s ≡ alone-it → (after_it.failed ≡ alone-it.failed → ⊥) → EitherWay k l s → ⊥
fails_otherwise k l s then after_it alone-it left comes comes-alone differs e =
    differs (ap (λ t. t.failed) (sym comes ∙ ap (run_of Second l).out (sym left) ∙ second_same k l s e ∙ comes-alone))

-- ---- a transfer of the pairs

abbrev pub carries : Bool → ℕ → ℕ → Result Plan Refusal
carries to_host count buffer = Ok (carrying (job_of (move_of to_host 0 count buffer) 0))

-- The bytes of a transfer that goes one way or the other, in the ranges of that way.
abbrev pub going : Bool → ℕ × ℕ → List (ℕ × ℕ)
going true r = r ∷ []
going false r = []

-- What a transfer of so many sectors from the first on comes to.
pub record Carried (w : World) (at : ℕ) (to_host : Bool) (buffer count n : ℕ) (a : BlockAnswer) : Type 0 where
  pub verdict : verdict_of (record { at = at; index = 0; world = w }) ≡ carries to_host count buffer
  pub sectors : (effect_of (record { at = at; index = 0; world = w })).sectors ≡ n
  pub answer : (effect_of (record { at = at; index = 0; world = w })).answer ≡ a
  pub unit_is : (named_drive (record { at = at; index = 0; world = w })).unit ≡ unit 0
  pub footprint :
      Alone at w (names (record { at = at; index = 0; world = w })) ((at, 28) ∷ going (not to_host) (buffer, n * 64))
      ((at + 2, 2) ∷ going to_host (buffer, n * 64))

module _
    (w : World) (at : ℕ) (passes : Passes at 1 w) (image : List ℕ) (long : length image ≡ 130)
    (same : named_drive (v w at passes) ≡ drive_on image) (to_host : Bool) (buffer count : ℕ)
    (task : task_of w.host (block_of (v w at passes)) ≡ Task.Move (move_of to_host 0 count buffer))
    (some : 0 < count) (fits : count ≤ 2) (held : InMemory w.host buffer (count * 64))
  where
    abbrev b : Visit
    b = v w at passes

    judged_so : verdict_of b ≡ carries to_host count buffer
    judged_so = rw (task, same, long) (move_passes w.controller w.host 0 (omega arith) to_host 0 count buffer some (omega arith) held)

    judged_alone : (x : ℕ) → InUib (asked_of b) (block_of b).address 18 x ⊎ InList (asked_of b) x → ⊥
    judged_alone x (inl uib) = no_uib (asked_of b) _ _ x (λ s is. impossible (cc (task, is))) uib
    judged_alone x (inr list) = no_list_of_a_piece (asked_of b) _ buffer x task refl list

    -- What the verdict says of the transfer.
    goes_so : (way : Bool) (x : ℕ) → HostData (asked_of b) (named_drive b) way x → to_host ≡ way
    goes_so way x here =
        subst (λ (verd : Result Plan Refusal). (transfer_of w.host (named_drive b).unit (moving_of verd)).to_host ≡ way) judged_so here.goes

    module _ (n : ℕ) (moved : (effect_of b).sectors ≡ n) where
      there : (way : Bool) (x : ℕ) → HostData (asked_of b) (named_drive b) way x → Among buffer (n * 64) x
      there way x here =
          let less : here.byte < n * 64 = rw (sectors_come b, moved, drives_geometry (asked_of b), same) at here.moved in
          let lies : buffer + here.byte ≡ x =
          subst (λ (verd : Result Plan Refusal). (transfer_of w.host (named_drive b).unit (moving_of verd)).host_at here.byte ≡ x) judged_so here.here in
          (omega arith, omega arith)

      ranged : (w way : Bool) (x : ℕ) → (w ≡ way → Among buffer (n * 64) x) → w ≡ way → In (going (cond way w (not w)) (buffer, n * 64)) x
      ranged true true x among is = inl (among is)
      ranged false false x among is = inl (among is)
      ranged true false x among is = absurd (no_way is)
      ranged false true x among is = absurd (no_way (sym is))

    carried :
        (n : ℕ) (a : BlockAnswer) →
        carried_on image long buffer to_host count ≡ record { sectors = n; answer = a } →
        Carried w at to_host buffer count n a
    carried n a p =
        let moved : (effect_of b).sectors ≡ n = ap (λ e. e.sectors) (effect_is b) ∙ rw (judged_so, same) (ap (λ p. p.sectors) p) in
        record {
          verdict = judged_so;
          sectors = moved;
          answer = ap (λ e. e.answer) (effect_is b) ∙ rw (judged_so, same) (ap (λ p. p.answer) p);
          unit_is = ap (λ d. d.unit) same;
          footprint =
              alone w at passes (going (not to_host) (buffer, n * 64)) (going to_host (buffer, n * 64))
              (λ x j. absurd (judged_alone x j)) (λ x d. ranged n moved to_host false x (λ same. there n moved false x d) (goes_so false x d))
              (λ x words. absurd (silent w at passes _ judged_so refl x words))
              (λ x d. ranged n moved to_host true x (λ same. there n moved true x d) (goes_so true x d));
        }

-- Byte k of a transfer of the pairs, where it was moved.
module _
    (w : World) (at : ℕ) (passes : Passes at 1 w) {to_host : Bool} {buffer count n : ℕ} {a : BlockAnswer}
    (c : Carried w at to_host buffer count n a)
  where
    pub host_byte_is : (k : ℕ) → (transfer_by (asked_of (v w at passes))).host_at k ≡ buffer + k
    host_byte_is k = rw c.verdict

    pub came : (k : ℕ) → k < n * 64 → k < (comes (asked_of (v w at passes)) (named_drive (v w at passes))).sectors * B (transfer_by (asked_of (v w at passes))).geometry
    came k less = rw (sectors_come (v w at passes), c.sectors, drives_geometry (asked_of (v w at passes)), c.unit_is) less

    pub data_at : (k : ℕ) → k < n * 64 → HostData (asked_of (v w at passes)) (named_drive (v w at passes)) to_host (buffer + k)
    data_at k less = record { goes = rw c.verdict; byte = k; moved = came k less; here = host_byte_is k }

-- The transfers of one sector, and the read of two that a mark stops.
module _ (w : World) (at : ℕ) (passes : Passes at 1 w) (buffer : ℕ) where
  abbrev Asks : Bool → ℕ → Type 0
  Asks to_host count = task_of w.host (block_of (v w at passes)) ≡ Task.Move (move_of to_host 0 count buffer)

  pub read_carried_from :
      (image : List ℕ) → named_drive (v w at passes) ≡ drive_on image → length image ≡ 130 → get_or image 128 0 ≡ 0 → Asks true 1 →
      InMemory w.host buffer 64 → Carried w at true buffer 1 1 (Ok tt)
  read_carried_from image same long good task held =
      carried w at passes image long same true buffer 1 task (omega arith) (omega arith) held 1 (Ok tt) (read_of_one image long buffer good)

module _
    (w : World) (at : ℕ) (passes : Passes at 1 w) (byte mark : ℕ)
    (same : named_drive (v w at passes) ≡ drive_with byte mark) (buffer : ℕ)
  where
    pub read_carried : Asks w at passes buffer true 1 → InMemory w.host buffer 64 → Carried w at true buffer 1 1 (Ok tt)
    read_carried = read_carried_from w at passes buffer (drive_with byte mark).image same refl refl

    pub write_carried : Asks w at passes buffer false 1 → InMemory w.host buffer 64 → Carried w at false buffer 1 1 (Ok tt)
    write_carried task held =
        carried w at passes (drive_with byte mark).image refl same false buffer 1 task (omega arith) (omega arith) held 1 (Ok tt) (write_of_one _ refl buffer)

    pub read_stopped_carried :
        mark ≡ 1 → Asks w at passes buffer true 2 → InMemory w.host buffer 128 → Carried w at true buffer 2 1 (Err Refusal.Unreadable)
    read_stopped_carried bad task held =
        carried w at passes (drive_with byte mark).image refl same true buffer 2 task (omega arith) (omega arith) held 1 _
        (read_stopped _ refl buffer refl bad)
