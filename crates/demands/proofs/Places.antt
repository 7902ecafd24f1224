-- Which bytes of the image a block touches: only those that a sector which it names reaches, so none of a bad track's (02, K5), and none of another
-- sector's but where the two meet, one by a bad track's name and the other by its spare's (02, K7). Each sector of its transfer stands where an
-- address that it names lands, and the rest is unit's law.
use Rattle.std.proofs.Common.{Err, None, Ok, Option, Result, Some}
use Prim.Native.Nat.{ℕ, ◌+◌, ◌/◌, ◌≤◌, ◌<◌}
use mathlib.Core.Bool.{Bool, false}
use mathlib.Core.Logic.{by_cases, ⊎_elim}
use mathlib.Core.Path.{◌≡◌, refl, sym, ap, subst, ◌∙◌}
use native.Mathlib.Decide.{dec_le}
use native.Mathlib.Nat.{div-lt_iff_lt-mul, mod-lt, zero-add}
use native.Mathlib.Omega.{arith}
use lib.Dec.{T}
use lib.ListN.{get_or}
use Rattle.answers.specs.declared.Refusal.{Refusal}
use Rattle.answers.specs.declared.Refusal.TheVariants.{DriveHeld, SectorOutside, VolumeAbsent}
use Rattle.geometry.specs.declared.Address.{Address}
use Rattle.geometry.specs.declared.Geometry.{Geometry}
use Rattle.geometry.specs.Drive.{B, N, volume}
use Rattle.geometry.specs.Limits.{Present}
use Rattle.geometry.specs.SectorBytes.{SectorByte}
use Rattle.geometry.specs.Answers.{on_drive?}
use Rattle.geometry.specs.Sectors.{OnDrive, address, address_of, first_byte, place_of}
use Rattle.geometry.specs.SectorBytes.SectorByte.{data_at}
use Rattle.geometry.proofs.Laws.{address_on_drive}
use Rattle.spares.specs.declared.Track.{Track as OfADrive}
use Rattle.unit.specs.Landing.{landed, spot_of}
use Rattle.unit.specs.Standing.{CountsAsInitialized, UnitRecord, geometry}
use Rattle.unit.proofs.Apart.{bad_never_reached, in_one_place_exactly, no_two_in_one_place, number_lands, track_lands}
use Rattle.wire.specs.Among.{Among}
use Rattle.wire.proofs.Promises.{never}
use Rattle.judge.specs.declared.Plan.{Plan}
use Rattle.judge.specs.Plans.{number_there, plan_of}
use Rattle.judge.specs.Fits.{MovingFits}
use Rattle.judge.specs.Given.{Asked, on}
use Rattle.judge.specs.Verdict.{verdict}
use Rattle.judge.proofs.LetThrough.{own_plan, plan_fits}
use Rattle.judge.proofs.Tasks.{format_16, move_14, move_on, own_unless_held, start_nowhere}
use Rattle.request.specs.declared.Move.{Move}
use Rattle.request.specs.declared.Task.{Task}
use Rattle.request.specs.declared.Track.{Track}
use Rattle.transfer.specs.Progress.{stops_at}
use Rattle.transfer.proofs.Progress.{progress_most}
use Rattle.transfer.proofs.Wholes.{some_bytes}
use Rattle.block.specs.Block.{Drive, transfer_of}
use Rattle.demands.specs.Footprint.{DiskData, asked_of, comes, moving_of, named_drive, names, transfer_by}
use Rattle.demands.specs.Tables.{NamesSector, ReachedByCommands, Touches}
use Rattle.demands.specs.Tables.NamesSector.{by_number, on_its_track}
use Rattle.demands.specs.Visits.{Visit, world_left}
use Rattle.demands.proofs.Fits.{drives_geometry}
use Rattle.demands.proofs.Keeps.{block_keeps_image}
use Rattle.demands.proofs.Tables.{reached_counts}
use Rattle.demands.proofs.Written.{image_written_exactly}
use Rattle.board.specs.World.{drive_of}
use Rattle.judge.specs.Steps.{by_its_own, asks_holder, begins_at}
use Rattle.unit.specs.Bytes.{Bad, Meets, NoTwoInOnePlace, Reaches, TrackByte}

-- A place where an address that a block names lands, on a unit that counts as initialized.
record Lands (a : Asked) (place : ℕ) : Type 0 where
  pub counts : CountsAsInitialized a.unit
  pub address : Address
  pub named : NamesSector a address
  pub on : OnDrive (geometry a.unit) address
  pub here : place ≡ place_of (geometry a.unit) (landed a.unit address)

module _ (a : Asked) where
  abbrev u : UnitRecord
  u = a.unit

  abbrev g : Geometry
  g = geometry u

  -- ---- of a block that is let through

  module _ (p : Plan) (accepted : verdict a ≡ Ok p) (counts : CountsAsInitialized u) where
    -- Its task is not one that would be refused.
    not_so : (r : Refusal) → verdict a ≡ Err r → ⊥
    not_so r so = never (cc (accepted, so))

    not_refused :
        (t : Task) (r : Refusal) → a.task ≡ t → T (asks_holder t) → by_its_own (on a.controller u a.image t a.host) ≡ Err r → ⊥
    not_refused t r is asks refused =
        ⊎_elim (λ held. not_so DriveHeld (as_task ∙ held)) (λ own. not_so r (as_task ∙ own ∙ refused))
        (own_unless_held a.controller u a.image a.host t asks)
      where
        as_task : verdict a ≡ verdict (on a.controller u a.image t a.host)
        as_task = ap (λ (t : Task). verdict (on a.controller u a.image t a.host)) is

    -- A format is one of a track of the drive,
    format_on_drive : (k : Track) → a.task ≡ Task.Format k → OnDrive g (address k.cylinder k.head 0)
    format_on_drive k is =
        by_cases (on_drive? g (address k.cylinder k.head 0)) (λ on. on)
        (λ off. absurd (not_refused (Task.Format k) SectorOutside is tt (format_16 a.controller u a.image a.host k counts off)))

    -- and a read or a write begins at a number.
    begins_at_lem : (m : Move) → a.task ≡ Task.Move m → 0 < m.count → (n : ℕ) × (begins_at u m.target ≡ Some n)
    unfolding Present
    begins_at_lem m is some = by_number_found (begins_at u m.target) refl
      where
        refuted : (r : Refusal) → by_its_own (on a.controller u a.image (Task.Move m) a.host) ≡ Err r → ⊥
        refuted r = not_refused (Task.Move m) r is tt

        by_number_found : (x : Option ℕ) → begins_at u m.target ≡ x → (n : ℕ) × (begins_at u m.target ≡ Some n)
        by_number_found (Some n) at = (n, at)
        by_number_found None at =
            by_cases (dec_le 1 (N (volume g m.target.volume)))
            (λ present.
            absurd
            (refuted SectorOutside
            (move_on a.controller u a.image a.host m counts present (λ none. omega arith) ∙ start_nowhere a.controller u a.image a.host m at)))
            (λ absent. absurd (refuted VolumeAbsent (move_14 a.controller u a.image a.host m counts absent)))

  -- ---- where its sectors stand

  -- Each sector of a block's transfer stands where an address that it names lands.
  sector_lands : (j : ℕ) → j < (transfer_by a).count → Lands a ((transfer_by a).place j)
  sector_lands j less = by_verdict (verdict a) refl less
    where
      by_task :
          (p : Plan) → verdict a ≡ Ok p → (t : Task) → a.task ≡ t → MovingFits u a.image a.host (plan_of u t).moving →
          j < (transfer_of a.host u (plan_of u t).moving).count → Lands a ((transfer_of a.host u (plan_of u t).moving).place j)
      by_task p so (Task.Move m) is fits less =
          let v = m.target.volume in
          let begins = begins_at_lem p so fits.counts m is fits.span.some in
          let n = begins.0 in
          let same : number_there (begins_at u m.target) ≡ n = ap number_there begins.1 in
          record {
            counts = fits.counts;
            address = address_of g v (n + j);
            named = by_number m is n begins.1 j less;
            on = address_on_drive g v (n + j) (omega (arith, fits.span.inside, same));
            here = ap (λ (n : ℕ). (spot_of u v (n + j)).place) same ∙ number_lands u v (n + j);
          }
      by_task p so (Task.Format k) is fits less =
          let first = format_on_drive p so fits.counts k is in
          record {
            counts = fits.counts;
            address = address k.cylinder k.head j;
            named = on_its_track k is j less;
            on = record { cylinder = first.cylinder; head = first.head; sector = less };
            here = track_lands u k.cylinder k.head j;
          }
      by_task p so Task.Unknown is fits less = absurd (omega arith)
      by_task p so Task.Handshake is fits less = absurd (omega arith)
      by_task p so (Task.Initialize None) is fits less = absurd (omega arith)
      by_task p so (Task.Initialize (Some g)) is fits less = absurd (omega arith)
      by_task p so Task.Restore is fits less = absurd (omega arith)
      by_task p so (Task.Seek t) is fits less = absurd (omega arith)
      by_task p so (Task.Map k) is fits less = absurd (omega arith)

      by_verdict :
          (v : Result Plan Refusal) → verdict a ≡ v → j < (transfer_of a.host u (moving_of v)).count →
          Lands a ((transfer_of a.host u (moving_of v)).place j)
      by_verdict (Err r) is less = absurd (omega arith)
      by_verdict (Ok p) is less =
          let own-one = own_plan a p is in
          subst (λ (p : Plan). Lands a ((transfer_of a.host u p.moving).place j)) (sym own-one)
          (by_task p is a.task refl (subst (λ (p : Plan). MovingFits u a.image a.host p.moving) own-one (plan_fits a p is).moving)
          (subst (λ (p : Plan). j < (transfer_of a.host u p.moving).count) own-one less))

  -- ---- which bytes it touches

  -- A byte of the image that its data is read from or written to is one of them.
  pub data_is_touched : (d : Drive) (way : Bool) (x : ℕ) → DiskData a d way x → Touches a x
  data_is_touched d way x moved =
      let t = transfer_by a in
      let shape = t.geometry in
      let byte = moved.byte in
      let some = some_bytes (comes a d).sectors (B shape) byte moved.moved in
      let most : (comes a d).sectors ≤ t.count =
      rw zero-add at (progress_most (λ j. stops_at d.image shape t.heeds (t.place j)) 0 t.count) in
      let among : Among (first_byte shape (t.place (byte / B shape))) (B shape) x = omega (arith, moved.here, mod-lt byte some) in
      record {
        sector = byte / B shape;
        less = omega (arith, (div-lt_iff_lt-mul some).1 moved.moved);
        byte = subst (λ (g : Geometry). SectorByte g (t.place (byte / B shape)) x) (drives_geometry a) (data_at among);
      }

  module _ (x : ℕ) (touched : Touches a x) where
    stands : Lands a ((transfer_by a).place touched.sector)
    stands = sector_lands touched.sector touched.less

    reaches : Reaches u stands.address x
    reaches = subst (λ (p : ℕ). SectorByte g p x) stands.here touched.byte

    -- Each is reached by an address that the block names.
    pub touched_is_named : (b : Address) × (NamesSector a b × (OnDrive g b × Reaches u b x))
    touched_is_named = (stands.address, (stands.named, (stands.on, reaches)))

    -- So whatever address of the drive reaches it too meets one of those (02, K7).
    pub touched_meets : (c : Address) → OnDrive g c → Reaches u c x → (b : Address) × (NamesSector a b × Meets u b c)
    touched_meets c on-c there =
        let b = stands.address in
        (b, (stands.named, (in_one_place_exactly u stands.counts b c stands.on on-c).0 (x, (reaches, there))))

    -- "Every later command that lands on a bad track works on its spare": none is a bad track's.
    pub no_bad_track_touched : (k : OfADrive) → Bad u k → TrackByte g k x → ⊥
    no_bad_track_touched k bad there = bad_never_reached u stands.counts stands.address stands.on k bad x reaches there

-- A block leaves every byte that an address reaches which meets none that it names: what it writes is of its own sectors.
pub others_keep_their_bytes :
    (v : Visit) (c : Address) → OnDrive (geometry (named_drive v).unit) c →
    ((b : Address) → NamesSector (asked_of v) b → Meets (named_drive v).unit b c → ⊥) → (x : ℕ) → Reaches (named_drive v).unit c x →
    get_or (drive_of (world_left v) (names v)).image x 0 ≡ get_or (named_drive v).image x 0
others_keep_their_bytes v c on none x there =
    block_keeps_image v (names v) x
    (λ (same, target).
    let written = (image_written_exactly v x).1 target in
    let meets = touched_meets (asked_of v) x (data_is_touched (asked_of v) (named_drive v) false x written) c on there in
    none meets.0 meets.1.0 meets.1.1)

-- ---- no two sectors in one place

-- "for any geometry and any table reached by the commands, two different physical addresses of the drive, neither on a track serving as spare, never
-- reach the same image bytes".
pub no_two_sectors_in_one_place : (u : UnitRecord) → ReachedByCommands u → NoTwoInOnePlace u
no_two_sectors_in_one_place u reached = no_two_in_one_place u (reached_counts u reached)
