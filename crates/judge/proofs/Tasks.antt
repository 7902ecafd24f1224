-- The verdict on each kind of task, case by case, from what is known of its checks.
-- Those that are not given are passed over, and the first that is refuses the task.
use Rattle.std.proofs.Common.{Err, None, Ok, Option, Some}
use Prim.Native.Nat.{ℕ, ◌+◌, ◌*◌, ◌<◌, ◌≤◌}
use mathlib.Core.Bool.{Bool, true, false, ◌&&◌}
use mathlib.Core.List.{List}
use mathlib.Core.Logic.{◌⊎◌, inl, inr}
use mathlib.Core.Path.{◌≡◌, refl, sym, subst, ◌∙◌}
use native.Mathlib.Omega.{arith}
use lib.Dec.{T}
use Rattle.geometry.specs.Sectors.{Covers}
use Rattle.answers.specs.declared.Refusal.{Refusal}
use Rattle.geometry.specs.declared.Geometry.{Geometry}
use Rattle.geometry.specs.Drive.{B, need, volume, volume_sectors}
use Rattle.geometry.specs.Limits.{Present, Within}
use Rattle.request.specs.declared.Buffer.{Buffer}
use Rattle.request.specs.declared.Move.{Move}
use Rattle.request.specs.declared.Pair.{Pair}
use Rattle.request.specs.declared.Target.{Target}
use Rattle.request.specs.declared.Task.{Task}
use Rattle.request.specs.declared.Track.{Track}
use Rattle.spares.specs.Table.{Free}
use Rattle.unit.specs.declared.Controller.{Controller}
use Rattle.unit.specs.Holding.{held_by_other}
use Rattle.unit.specs.Landing.{spot_of}
use Rattle.unit.specs.Standing.{CountsAsInitialized, UnitRecord, geometry, holder, pairs, table}
use Rattle.memory.specs.declared.ListFault.{ListFault}
use Rattle.memory.specs.declared.ListFault.TheVariants.{Bad, RangeBad}
use Rattle.memory.specs.Lists.{ListGood, Ranges}
use Rattle.memory.specs.Scan.{Listing, refusal_of}
use Rattle.wire.specs.Memory.{InMemory}
use Rattle.judge.specs.declared.Leaving.{Leaving}
use Rattle.judge.specs.declared.Moving.{Moving}
use Rattle.judge.specs.declared.Report.{Report}
use Rattle.judge.specs.Plans.{carrying, job_of, only, plan, plan_of}
use Rattle.judge.specs.Given.{Asked, HasTrack, HasTracks, bad_number, on, spare_number}
use Rattle.judge.specs.Verdict.{verdict}
use Rattle.judge.proofs.EachTask.{on_its_own, stopped_by_holder}
use Rattle.judge.proofs.First.{done, pass, skip, stop}
use Rattle.judge.specs.Steps.{by_its_own, from_address, from_buffer, from_data, from_image, from_sectors, from_table, asks_holder, of_unit, begins_at}
use Rattle.judge.specs.Passed.{NoneGiven}

not_held : (asks held : Bool) → T asks → asks && held ≡ false → held ≡ false
not_held true held asks is = is
not_held false held asks is = absurd asks

asked_and_held : (asks held : Bool) → asks && held ≡ true → T asks × (held ≡ true)
asked_and_held true held is = (tt, is)
asked_and_held false held is = absurd (subst T (sym is) tt)

module _ (c : Controller) (u : UnitRecord) (image : ℕ) (host : List ℕ) where
  abbrev g : Geometry
  g = geometry u

  pub own : (t : Task) → T (asks_holder t) → held_by_other c (holder u) ≡ false → verdict (on c u image t host) ≡ by_its_own (on c u image t host)
  own t asks free = on_its_own (on c u image t host) asks (λ held. subst T free held)

  -- Where the other does, every task that is asked is refused.
  pub held_24 : (t : Task) → T (asks_holder t) → held_by_other c (holder u) ≡ true → verdict (on c u image t host) ≡ Err Refusal.DriveHeld
  held_24 t asks held = stopped_by_holder (on c u image t host) asks (subst T (sym held) tt)

  -- So a task that asks it is refused by 24, or judged by its own checks.
  pub own_unless_held :
      (t : Task) → T (asks_holder t) →
      (verdict (on c u image t host) ≡ Err Refusal.DriveHeld) ⊎ (verdict (on c u image t host) ≡ by_its_own (on c u image t host))
  own_unless_held t asks = by_holder (held_by_other c (holder u)) refl
    where
      by_holder :
          (held : Bool) → held_by_other c (holder u) ≡ held →
          (verdict (on c u image t host) ≡ Err Refusal.DriveHeld) ⊎ (verdict (on c u image t host) ≡ by_its_own (on c u image t host))
      by_holder true held = inl (held_24 t asks held)
      by_holder false free = inr (own t asks free)

  -- The same by what the code asks at once.
  pub refused_as_held :
      (t : Task) → asks_holder t && held_by_other c (holder u) ≡ true → verdict (on c u image t host) ≡ Err Refusal.DriveHeld
  refused_as_held t is = let so = asked_and_held (asks_holder t) (held_by_other c (holder u)) is in held_24 t so.0 so.1

  pub own_if_asked :
      (t : Task) → T (asks_holder t) → asks_holder t && held_by_other c (holder u) ≡ false → verdict (on c u image t host) ≡ by_its_own (on c u image t host)
  own_if_asked t asks is = own t asks (not_held (asks_holder t) (held_by_other c (holder u)) asks is)

  pub unknown : verdict (on c u image Task.Unknown host) ≡ Err Refusal.CommandUnknown
  unfolding verdict
  unknown = stop _ _ _ tt

  pub handshake : verdict (on c u image Task.Handshake host) ≡ Ok (plan Moving.Nothing Report.Identity Leaving.AsItWas)
  unfolding verdict
  handshake = done _

  -- ---- 87

  pub shape_misplaced : by_its_own (on c u image (Task.Initialize None) host) ≡ Err Refusal.UibMisplaced
  unfolding by_its_own
  shape_misplaced = stop _ _ _ tt

  module _ (x : Geometry) where
    pub shape_outside : (Within x → ⊥) → by_its_own (on c u image (Task.Initialize (Some x)) host) ≡ Err Refusal.UibOutsideLimits
    unfolding by_its_own
    shape_outside out = stop _ _ _ out

    pub shape_given : Within x → by_its_own (on c u image (Task.Initialize (Some x)) host) ≡ Ok (only (Leaving.Fresh x))
    unfolding by_its_own
    shape_given within = skip _ _ _ (λ n. n within) ∙ done _

  -- ---- 89

  pub restore_refused : (CountsAsInitialized u → ⊥) → by_its_own (on c u image Task.Restore host) ≡ Err Refusal.NotInitialized
  unfolding by_its_own
  restore_refused not_it = stop _ _ _ not_it

  pub restore_done : CountsAsInitialized u → by_its_own (on c u image Task.Restore host) ≡ Ok (only (Leaving.HeadsAt 0))
  unfolding by_its_own
  restore_done counts = skip _ _ _ (λ n. n counts) ∙ done _

  -- ---- 8A

  module _ (t : Target) where
    abbrev seek : Asked
    seek = on c u image (Task.Seek t) host

    abbrev at : Option ℕ
    at = begins_at u t

    pub seek_11 : (CountsAsInitialized u → ⊥) → by_its_own seek ≡ Err Refusal.NotInitialized
    unfolding by_its_own
    seek_11 not_it = stop _ _ _ not_it

    module _ (counts : CountsAsInitialized u) where
      pub seek_14 : (Present (volume g t.volume) → ⊥) → by_its_own seek ≡ Err Refusal.VolumeAbsent
      unfolding by_its_own
      seek_14 absent = skip _ _ _ (λ n. n counts) ∙ stop _ _ _ absent

      pub seek_on : Present (volume g t.volume) → by_its_own seek ≡ from_address seek t
      unfolding by_its_own from_address
      seek_on present = skip _ _ _ (λ n. n counts) ∙ skip _ _ _ (λ n. n present)

    pub address_16 : (Covers (geometry u) t.volume at 1 → ⊥) → from_address seek t ≡ Err Refusal.SectorOutside
    unfolding from_address
    address_16 out = stop _ _ _ out

    pub address_nowhere : at ≡ None → from_address seek t ≡ Err Refusal.SectorOutside
    address_nowhere is = address_16 (λ covers. rw is at covers)

    module _ (n : ℕ) (is : at ≡ Some n) where
      pub address_past : volume_sectors g t.volume ≤ n → from_address seek t ≡ Err Refusal.SectorOutside
      address_past past = address_16 (λ covers. let c : Covers (geometry u) t.volume (Some n) 1 = rw is at covers in omega arith)

      pub address_done :
          Covers (geometry u) t.volume (Some n) 1 →
          from_address seek t ≡ Ok (only (Leaving.HeadsAt (spot_of u t.volume n).cylinder))
      unfolding from_address
      address_done inside = skip _ _ _ (λ x. x (rw is inside)) ∙ done _ ∙ rw is

  -- ---- 8C

  module _ (k : Track) where
    abbrev format : Asked
    format = on c u image (Task.Format k) host

    pub format_11 : (CountsAsInitialized u → ⊥) → by_its_own format ≡ Err Refusal.NotInitialized
    unfolding by_its_own
    format_11 not_it = stop _ _ _ not_it

    module _ (counts : CountsAsInitialized u) where
      pub format_16 : (HasTrack u k.cylinder k.head → ⊥) → by_its_own format ≡ Err Refusal.SectorOutside
      unfolding by_its_own
      format_16 out = skip _ _ _ (λ n. n counts) ∙ stop _ _ _ out

      module _ (has : HasTrack u k.cylinder k.head) where
        pub format_17 : image < need g → by_its_own format ≡ Err Refusal.ImageShort
        unfolding by_its_own
        format_17 short = skip _ _ _ (λ n. n counts) ∙ skip _ _ _ (λ n. n has) ∙ stop _ _ _ short

        pub format_on : need g ≤ image → by_its_own format ≡ from_data format k
        unfolding by_its_own from_data
        format_on long = skip _ _ _ (λ n. n counts) ∙ skip _ _ _ (λ n. n has) ∙ skip _ _ _ (λ n. omega arith)

    pub data_19 : (InMemory host k.buffer (B g) → ⊥) → from_data format k ≡ Err Refusal.DataMisplaced
    unfolding from_data
    data_19 out = stop _ _ _ out

    pub data_done : InMemory host k.buffer (B g) → from_data format k ≡ Ok (plan_of u (Task.Format k))
    unfolding from_data
    data_done held = skip _ _ _ (λ n. n held) ∙ done _

  -- ---- 85

  module _ (k : Pair) where
    abbrev maps : Asked
    maps = on c u image (Task.Map k) host

    pub map_11 : (CountsAsInitialized u → ⊥) → by_its_own maps ≡ Err Refusal.NotInitialized
    unfolding by_its_own
    map_11 not_it = stop _ _ _ not_it

    module _ (counts : CountsAsInitialized u) where
      pub map_16 : (HasTracks u k → ⊥) → by_its_own maps ≡ Err Refusal.SectorOutside
      unfolding by_its_own
      map_16 out = skip _ _ _ (λ n. n counts) ∙ stop _ _ _ out

      pub map_on : HasTracks u k → by_its_own maps ≡ from_table maps k
      unfolding by_its_own from_table
      map_on has = skip _ _ _ (λ n. n counts) ∙ skip _ _ _ (λ n. n has)

    abbrev Untaken : Type 0
    Untaken = Free (pairs u) (table u) (bad_number k) (spare_number k)

    pub table_22 : (Untaken → ⊥) → from_table maps k ≡ Err Refusal.TracksTaken
    unfolding from_table
    table_22 taken = stop _ _ _ taken

    module _ (free : Untaken) where
      pub table_23 : 32 ≤ pairs u → from_table maps k ≡ Err Refusal.TableFull
      unfolding from_table
      table_23 full = skip _ _ _ (λ n. n free) ∙ stop _ _ _ full

      pub table_done : pairs u < 32 → from_table maps k ≡ Ok (only (Leaving.Mapped (bad_number k) (spare_number k)))
      unfolding from_table
      table_done room = skip _ _ _ (λ n. n free) ∙ skip _ _ _ (λ n. omega arith) ∙ done _

  -- ---- 81 82 A1 A2

  module _ (m : Move) where
    abbrev moves : Asked
    moves = on c u image (Task.Move m) host

    abbrev bytes : ℕ
    bytes = m.count * B g

    abbrev begins : Option ℕ
    begins = begins_at u m.target

    pub move_11 : (CountsAsInitialized u → ⊥) → by_its_own moves ≡ Err Refusal.NotInitialized
    unfolding by_its_own
    move_11 not_it = stop _ _ _ not_it

    module _ (counts : CountsAsInitialized u) where
      pub move_14 : (Present (volume g m.target.volume) → ⊥) → by_its_own moves ≡ Err Refusal.VolumeAbsent
      unfolding by_its_own
      move_14 absent = skip _ _ _ (λ n. n counts) ∙ stop _ _ _ absent

      module _ (present : Present (volume g m.target.volume)) where
        pub move_15 : m.count ≡ 0 → by_its_own moves ≡ Err Refusal.CountZero
        unfolding by_its_own
        move_15 none = skip _ _ _ (λ n. n counts) ∙ skip _ _ _ (λ n. n present) ∙ stop _ _ _ none

        pub move_on : (m.count ≡ 0 → ⊥) → by_its_own moves ≡ from_sectors moves m
        unfolding by_its_own from_sectors NoneGiven
        move_on some = pass (of_unit moves m) _ _ (λ n. n counts, (λ n. n present, (some, tt)))

    pub span_16 : (Covers (geometry u) m.target.volume begins m.count → ⊥) → from_sectors moves m ≡ Err Refusal.SectorOutside
    unfolding from_sectors
    span_16 out = stop _ _ _ out

    pub start_nowhere : begins ≡ None → from_sectors moves m ≡ Err Refusal.SectorOutside
    start_nowhere is = span_16 (λ covers. rw is at covers)

    module _ (n : ℕ) (is : begins ≡ Some n) where
      pub span_first : volume_sectors g m.target.volume ≤ n → from_sectors moves m ≡ Err Refusal.SectorOutside
      span_first past =
          span_16
          (λ covers. let c : Covers (geometry u) m.target.volume (Some n) m.count = rw is at covers in omega arith)

      pub span_last :
          0 < m.count → volume_sectors g m.target.volume < n + m.count →
          from_sectors moves m ≡ Err Refusal.SectorOutside
      span_last some past =
          span_16
          (λ covers. let c : Covers (geometry u) m.target.volume (Some n) m.count = rw is at covers in omega arith)

      pub span_covers :
          0 < m.count → n + m.count ≤ volume_sectors g m.target.volume → Covers (geometry u) m.target.volume begins m.count
      span_covers some fits = let c : Covers (geometry u) m.target.volume (Some n) m.count = omega arith in rw is c

    pub image_17 : image < need g → from_image moves m ≡ Err Refusal.ImageShort
    unfolding from_image
    image_17 short = stop _ _ _ short

    pub image_on : need g ≤ image → from_image moves m ≡ from_buffer moves m
    unfolding from_image from_buffer
    image_on long = skip _ _ _ (λ n. omega arith)

    module _ (covers : Covers (geometry u) m.target.volume begins m.count) where
      pub span_inside : from_sectors moves m ≡ from_image moves m
      unfolding from_sectors from_image
      span_inside = skip _ _ _ (λ n. n covers)

      pub span_17 : image < need g → from_sectors moves m ≡ Err Refusal.ImageShort
      span_17 short = span_inside ∙ image_17 short

      pub span_on : need g ≤ image → from_sectors moves m ≡ from_buffer moves m
      span_on long = span_inside ∙ image_on long

    -- A buffer in one piece, and one that is a list.
    module _ (at : ℕ) (is : m.buffer ≡ Buffer.Piece at) where
      pub piece_19 : (InMemory host at bytes → ⊥) → from_buffer moves m ≡ Err Refusal.DataMisplaced
      unfolding from_buffer
      piece_19 out = rw is (stop _ _ _ out)

      pub piece_done :
          (n : ℕ) → begins ≡ Some n → InMemory host at bytes → from_buffer moves m ≡ Ok (carrying (job_of m n))
      unfolding from_buffer
      piece_done n starts held = rw (is, starts) (skip _ _ _ (λ n. n held) ∙ done _)

    module _ (at k : ℕ) (is : m.buffer ≡ Buffer.List at k) where
      pub list_18 : (ListGood host at k bytes → ⊥) → from_buffer moves m ≡ Err Refusal.ListBad
      unfolding from_buffer
      list_18 bad = rw is (stop _ _ _ bad)

      module _ (good : ListGood host at k bytes) where
        pub list_19 : (Ranges host at k → ⊥) → from_buffer moves m ≡ Err Refusal.DataMisplaced
        unfolding from_buffer
        list_19 out = rw is (skip _ _ _ (λ n. n good) ∙ stop _ _ _ out)

        pub list_done :
            (n : ℕ) → begins ≡ Some n → Ranges host at k → from_buffer moves m ≡ Ok (carrying (job_of m n))
        unfolding from_buffer
        list_done n starts held = rw (is, starts) (skip _ _ _ (λ n. n good) ∙ skip _ _ _ (λ n. n held) ∙ done _)

      pub list_refused : (fault : ListFault) → Listing host at k bytes (Err fault) → from_buffer moves m ≡ Err (refusal_of fault)
      list_refused Bad bad = list_18 bad
      list_refused RangeBad found = list_19 found.0 found.1
