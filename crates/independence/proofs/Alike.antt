-- Two worlds that agree on what a block reads lead it to the same effect, the same stores, answer, sectors and record, and to read the same.
-- Its 28 bytes are the same, and so it names the same unit; the judgement reads no byte that is not alike; and of what is done only a
-- transfer through a list goes by host memory, by bytes that the judgement has read.
use Rattle.answers.specs.declared.Refusal.{Refusal}
use Rattle.judge.specs.declared.Plan.{Plan}
use Rattle.std.proofs.Common.{Err, Ok, Result}
use Prim.Native.Nat.{ℕ, ◌+◌, ◌*◌, ◌<◌}
use mathlib.Core.List.{List, ◌++◌}
use mathlib.Core.Logic.Iff
use mathlib.Core.Logic.{◌↔◌}
use mathlib.Core.Path.{◌≡◌, refl, sym, ◌∙◌, ap, fun_ext, subst, transport, transport⁻¹}
use native.Mathlib.Nat.{zero-add}
use native.Mathlib.Omega.{arith}
use lib.ListN.{get_or, length}
use Rattle.wire.specs.Among.{Among}
use Rattle.wire.proofs.Laws.{word_same}
use Rattle.request.specs.declared.Buffer.{Buffer}
use Rattle.request.specs.declared.Buffer.TheVariants.{Piece, List as Elements}
use Rattle.geometry.specs.Drive.{B}
use Rattle.iopb.specs.declared.Block.{Block}
use Rattle.iopb.specs.Ask.{task_of, unit_asked}
use Rattle.iopb.specs.Layout.{block_at, options_of}
use Rattle.memory.specs.Lists.{element_of}
use Rattle.memory.proofs.Locality.{element_same}
use Rattle.judge.specs.declared.Job.{Job}
use Rattle.judge.specs.declared.Moving.{Moving}
use Rattle.judge.specs.declared.Moving.TheVariants.{Nothing, Sectors, Track}
use Rattle.judge.specs.Given.{Asked, on}
use Rattle.judge.specs.Reads.{InList, InUib}
use Rattle.judge.specs.Verdict.{verdict}
use Rattle.judge.proofs.LetThrough.{list_let_through}
use Rattle.judge.proofs.Locality.{block_local}
use Rattle.judge.proofs.Read.{list_by_the_table, uib_by_the_table}
use Rattle.transfer.specs.Data.{Transfer, data_on, progress_on}
use Rattle.transfer.proofs.Joined.{joined_same}
use Rattle.block.specs.Block.{Drive, begun, data_byte, left_by, reported, transfer_of, travelled}
use Rattle.block.specs.Steps.{acted_on, finished, transfer_with}
use Rattle.unit.specs.Standing.{cylinder}
use Rattle.demands.specs.Footprint.{HostRead, ReadsHost, asked_of, moving_of, named_drive, names, transfer_by, verdict_of}
use Rattle.demands.specs.Footprint.HostRead.{block, its_list, its_uib, moved}
use Rattle.demands.specs.Visits.{Visit, block_of, effect_of}
use Rattle.demands.proofs.Read.{read_list, read_uib}
use Rattle.demands.proofs.Written.{effect_is}
use Rattle.independence.proofs.Lengths.{list_read_alike, uib_read_alike}
use Rattle.board.specs.World.{World, drive_of}

block_same : (h k : List ℕ) (at : ℕ) → ((x : ℕ) → Among at 28 x → get_or h x 0 ≡ get_or k x 0) → block_at h at ≡ block_at k at
block_same h k at alike =
    let byte : (j : ℕ) → j < 28 → get_or h (at + j) 0 ≡ get_or k (at + j) 0 = λ j j<. alike (at + j) (omega arith) in
    let two : (j : ℕ) → j < 27 → _ = λ j j<. word_same 2 h k (at + j) (at + j) (λ x x<. alike (at + j + x) (omega arith)) in
    let four : (j : ℕ) → j < 25 → _ = λ j j<. word_same 4 h k (at + j) (at + j) (λ x x<. alike (at + j + x) (omega arith)) in
    let first = alike at (omega arith) in
    λ i.
    record {
      command = first i;
      options = options_of (byte 1 (omega arith) i);
      cylinder = two 4 (omega arith) i;
      head = byte 6 (omega arith) i;
      sector = byte 7 (omega arith) i;
      number = four 4 (omega arith) i;
      count = two 8 (omega arith) i;
      address = four 10 (omega arith) i;
      memory_type = byte 14 (omega arith) i;
      modifier = byte 15 (omega arith) i;
      level = byte 16 (omega arith) i;
      normal_vector = byte 17 (omega arith) i;
      error_vector = byte 19 (omega arith) i;
      link = four 20 (omega arith) i;
      link_memory_type = byte 24 (omega arith) i;
      link_modifier = byte 25 (omega arith) i;
      elements = byte 27 (omega arith) i;
    }

-- What is read by one that is judged is read by another that reads what the first reads of its UIB and of its list, and makes the same
-- transfer.
read_too :
    (b : Block) (at : ℕ) (p q : Asked) (d : Drive) → p.task ≡ task_of p.host b → q.task ≡ task_of q.host b →
    ((x : ℕ) → InUib p b.address 18 x → InUib q b.address 18 x) → ((x : ℕ) → InList p x → InList q x) →
    transfer_by p ≡ transfer_by q → (x : ℕ) → HostRead b at p d x → HostRead b at q d x
read_too b at p q d asks asks-too uibs lists same x (block among) = block among
read_too b at p q d asks asks-too uibs lists same x (its_uib code passed among) =
    let it = (uib_by_the_table b q asks-too x).0 (uibs x ((uib_by_the_table b p asks x).1 (code, passed, among))) in
    its_uib it.0 it.1 it.2
read_too b at p q d asks asks-too uibs lists same x (its_list code passed some place among) =
    let it = (list_by_the_table b q asks-too x).0 (lists x ((list_by_the_table b p asks x).1 (code, passed, some, place, among))) in
    its_list it.0 it.1 it.2 it.3 it.4
read_too b at p q d asks asks-too uibs lists same x (moved m) =
    moved
    (record {
      goes = ap (λ t. t.to_host) (sym same) ∙ m.goes;
      byte = m.byte;
      moved = subst (λ t. m.byte < (progress_on d.image t).sectors * B t.geometry) same m.moved;
      here = ap (λ t. t.host_at m.byte) (sym same) ∙ m.here;
    })

module _
    (v : Visit) (k : World) (run_by : v.world.controller ≡ k.controller) (long : length v.world.host ≡ length k.host)
    (alike : (x : ℕ) → ReadsHost v x → get_or v.world.host x 0 ≡ get_or k.host x 0)
    (drive : named_drive v ≡ drive_of k (names v))
  where
    abbrev h : List ℕ
    h = v.world.host

    -- The same block, found in the other world.
    abbrev pub there : Visit
    there = record { at = v.at; index = v.index; world = k }

    pub block_alike : block_of v ≡ block_of there
    block_alike = block_same h k.host v.at (λ x among. alike x (block among))

    pub names_alike : names v ≡ names there
    names_alike = ap unit_asked block_alike

    drive_alike : named_drive v ≡ named_drive there
    drive_alike = drive ∙ ap (drive_of k) names_alike

    -- What is judged of the same block and drive in the other memory.
    abbrev judged_there : Block → Drive → Asked
    judged_there b d = on v.world.controller d.unit (length d.image) (task_of k.host b) k.host

    verdict_there : verdict_of v ≡ verdict (judged_there (block_of v) (named_drive v))
    verdict_there =
        block_local v.world.controller (named_drive v).unit (length (named_drive v).image) h k.host long (block_of v) (λ x read. alike x (read_uib v x read))
        (λ x read. alike x (read_list v x read))

    verdict_alike : verdict_of v ≡ verdict_of there
    verdict_alike =
        verdict_there ∙ (λ i. verdict (on (run_by i) (drive_alike i).unit (length (drive_alike i).image) (task_of k.host (block_alike i)) k.host))

    -- The transfer that is made: where the data of the block lies.
    abbrev made_in : List ℕ → Moving → Transfer
    made_in host m = transfer_of host (named_drive v).unit m

    data_alike : (verd : Result Plan Refusal) → verdict_of v ≡ verd → made_in h (moving_of verd) ≡ made_in k.host (moving_of verd)
    data_alike (Err r) is = refl
    data_alike (Ok p) is = by_moving p.moving refl
      where
        of_buffer_lem : (j : Job) → p.moving ≡ Sectors j → (b : Buffer) → j.buffer ≡ b → (y : ℕ) → data_byte h b y ≡ data_byte k.host b y
        of_buffer_lem j moves (Piece at) here y = refl
        of_buffer_lem j moves (Elements at n) here y =
            let same : (i : ℕ) → i < n → element_of h at i ≡ element_of k.host at i =
            element_same h k.host at n (λ x among. alike x (read_list v x (list_let_through (asked_of v) p j at n x is moves here among))) in
            joined_same (λ i. (element_of h at i).bytes) (λ i. (element_of k.host at i).bytes) (λ i. (element_of h at i).address)
            (λ i. (element_of k.host at i).address) n 0 y
            (λ t less. rw zero-add (ap (λ e. e.bytes) (same t less), ap (λ e. e.address) (same t less)))

        by_moving : (m : Moving) → p.moving ≡ m → made_in h m ≡ made_in k.host m
        by_moving Nothing moves = refl
        by_moving (Track spot at) moves = refl
        by_moving (Sectors j) moves = ap (transfer_with (named_drive v).unit (Sectors j)) (fun_ext (of_buffer_lem j moves j.buffer refl))

    -- So what is done is the same.
    performed_alike :
        (verd : Result Plan Refusal) → verdict_of v ≡ verd → acted_on h (named_drive v) v.at verd ≡ acted_on k.host (named_drive v) v.at verd
    performed_alike (Err r) is = refl
    performed_alike (Ok p) is =
        let d = named_drive v in
        ap
        (λ (t : Transfer).
        let q = progress_on d.image t in
        let unit = left_by d.unit q.sectors p.leaving in
        record {
          stores = begun v.at ++ data_on d.image t ++ reported v.at p.report;
          unit = unit;
          answer = q.answer;
          sectors = q.sectors;
          travel = travelled (cylinder d.unit) p.leaving (cylinder unit);
        })
        (data_alike (Ok p) is)

    pub effect_alike : effect_of v ≡ effect_of there
    effect_alike =
        effect_is v
        ∙ ap (finished v.world.controller (block_of v) v.at v.index (verdict_of v)) (performed_alike (verdict_of v) refl)
        ∙ (λ i. finished (run_by i) (block_alike i) v.at v.index (verdict_alike i) (acted_on k.host (drive_alike i) v.at (verdict_alike i)))
        ∙ sym (effect_is there)

    -- It reads the same bytes there.
    transfer_there : transfer_by (asked_of v) ≡ transfer_by (judged_there (block_of v) (named_drive v))
    transfer_there =
        data_alike (verdict_of v) refl ∙ ap (λ verd. made_in k.host (moving_of verd)) verdict_there

    pub reads_alike : (x : ℕ) → ReadsHost v x ↔ ReadsHost there x
    reads_alike x =
        let c = v.world.controller in
        let b = block_of v in
        let d = named_drive v in
        let moved-along : HostRead b v.at (judged_there b d) d x ≡ ReadsHost there x =
        λ i.
        HostRead (block_alike i) v.at
        (on (run_by i) (drive_alike i).unit (length (drive_alike i).image) (task_of k.host (block_alike i)) k.host) (drive_alike i) x in
        Iff.trans (
          read_too b v.at (asked_of v) (judged_there b d) d refl refl (uib_read_alike c h k.host long d.unit (length d.image) b)
              (list_read_alike c h k.host long d.unit (length d.image) b) transfer_there x,
          read_too b v.at (judged_there b d) (asked_of v) d refl refl (uib_read_alike c k.host h (sym long) d.unit (length d.image) b)
              (list_read_alike c k.host h (sym long) d.unit (length d.image) b) (sym transfer_there) x,
        )
        (transport moved-along, transport⁻¹ moved-along)
