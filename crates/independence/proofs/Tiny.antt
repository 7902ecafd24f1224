-- The two-sector drives of the pairs: its numbers, which of its requests pass, and what becomes of each of its sectors.
-- The geometry's shut definitions are opened by their equations, and what is left is arithmetic on numerals.
use Rattle.std.proofs.Common.{Err, Ok}
use Prim.Native.Nat.{ℕ, ◌+◌, ◌*◌, ◌/◌, ◌≤◌, ◌<◌}
use mathlib.Core.Bool.{Bool, true, false, not}
use mathlib.Core.List.{List}
use mathlib.Core.Path.{◌≡◌, refl, ap, ◌∙◌}
use native.Mathlib.Omega.{arith}
use lib.Dec.{eqb}
use lib.ListN.{get_or, length}
use Rattle.wire.specs.Memory.{InMemory}
use Rattle.answers.specs.declared.Refusal.{Refusal}
use Rattle.block.specs.Steps.{transfer_with}
use Rattle.geometry.specs.declared.Geometry.{Geometry}
use Rattle.geometry.specs.declared.VolumeNumber.{VolumeNumber}
use Rattle.geometry.specs.declared.VolumeNumber.TheVariants.{Zero, One}
use Rattle.geometry.specs.Drive.{N, drive_heads, marks_at, need, start, volume, volume_sectors}
use Rattle.geometry.specs.Drive.Inside.{drive_heads_is, drive_sectors_is, marks_at_is, need_is, volume_sectors_is}
use Rattle.geometry.specs.Limits.{Has, Present, SizesWithin}
use Rattle.geometry.specs.Sectors.{first_byte}
use Rattle.geometry.specs.Sectors.Inside.{address_of_is, first_byte_is, mark_byte_is, place_of_is}
use Rattle.geometry.proofs.Ends.{end_absent, end_present}
use Rattle.judge.specs.declared.Moving.{Moving}
use Rattle.judge.specs.Given.{on}
use Rattle.judge.specs.Plans.{carrying, job_of, plan_of}
use Rattle.judge.specs.Verdict.{verdict}
use Rattle.judge.proofs.Tasks.{data_done, format_on, list_18, move_on, own, piece_done, span_covers, span_on}
use Rattle.request.specs.declared.Buffer.{Buffer}
use Rattle.request.specs.declared.Move.{Move}
use Rattle.request.specs.declared.Start.{Start}
use Rattle.request.specs.declared.Target.{Target}
use Rattle.request.specs.declared.Task.{Task}
use Rattle.request.specs.declared.Track.{Track}
use Rattle.transfer.specs.Data.{data_on, progress_on}
use Rattle.transfer.specs.Progress.{Progress, progress, stops_at}
use Rattle.transfer.specs.Stores.{Store, copy_of, host_byte, image_byte, up_to}
use Rattle.transfer.proofs.Stores.{up_to_same}
use Rattle.spares.proofs.Laws.{empty_is_good}
use Rattle.unit.proofs.Laws.{no_pairs_lands_there}
use Rattle.unit.specs.declared.Controller.{Controller}
use Rattle.unit.specs.declared.Controller.TheVariants.{First, Second}
use Rattle.unit.specs.Holding.{held_by_other}
use Rattle.unit.specs.Landing.{spot_of, track_of}
use Rattle.unit.specs.Landing.Behind.{spot_at_is, spot_of_is, track_of_is}
use Rattle.unit.specs.Standing.{CountsAsInitialized, UnitRecord, fresh, holder, moved_to, no_tracks}
use Rattle.independence.specs.TwoChains.{shaped, tiny}
use Rattle.judge.specs.Steps.{from_buffer}

-- A drive of two sectors, on two tracks or on one.
module _ (cylinders sectors : ℕ) (sizes : SizesWithin (shaped cylinders sectors)) where
  abbrev g : Geometry
  g = shaped cylinders sectors

  counts_of : (c : ℕ) → c < cylinders → CountsAsInitialized (moved_to (fresh g) c)
  unfolding Has Present
  counts_of c less =
      record {
        said = refl;
        within =
            record {
              sizes = sizes;
              volumes =
                  record {
                    one_head = omega arith;
                    ends = λ v. elim v as (λ (w : VolumeNumber). Present (volume g w) → start (volume g w) + N (volume g w) ≤ 64) [ Zero ↦ λ p. omega arith | One ↦ λ p. omega arith ];
                    apart = λ p. absurd (omega arith);
                  };
            };
        cylinder = less;
        good = empty_is_good g no_tracks refl;
      }

  heads_of : drive_heads g ≡ 1
  unfolding Present
  heads_of = omega (arith, drive_heads_is g, end_present (volume g Zero) (omega arith), end_absent (volume g One) refl)

  need_of : cylinders * sectors ≡ 2 → need g ≡ 130
  need_of two = rw (need_is, marks_at_is, drive_sectors_is, heads_of) (omega arith)

-- The one on two tracks, with its heads on a cylinder.
abbrev pub unit : ℕ → UnitRecord
unit cylinder = moved_to (fresh tiny) cylinder

pub counts : (c : ℕ) → c < 2 → CountsAsInitialized (unit c)
counts = counts_of 2 1 (omega arith)

pub present : Present (volume tiny Zero)
present = (counts 0 (omega arith)).within.volumes.one_head

heads_1 : drive_heads tiny ≡ 1
heads_1 = heads_of 2 1 (omega arith)

sectors_2 : volume_sectors tiny Zero ≡ 2
sectors_2 = volume_sectors_is tiny Zero

marks_128 : marks_at tiny ≡ 128
marks_128 = omega (arith, marks_at_is tiny, drive_sectors_is tiny, heads_1)

need_130 : need tiny ≡ 130
need_130 = need_of 2 1 (omega arith) refl

-- Sector n stands at place n.
pub place_is : (c n : ℕ) → (spot_of (unit c) Zero n).place ≡ n
place_is c n = rw (spot_of_is, no_pairs_lands_there (unit c) refl, spot_at_is, place_of_is, address_of_is, heads_1) (omega arith)

pub cylinder_0 : (spot_of (unit 0) Zero 0).cylinder ≡ 0
cylinder_0 = rw (spot_of_is, no_pairs_lands_there (unit 0) refl, spot_at_is, address_of_is)

pub starts_at : (place : ℕ) → first_byte tiny place ≡ place * 64
starts_at place = first_byte_is tiny place

-- ---- what passes

abbrev target : ℕ → Target
target n = record { volume = Zero; start = Start.Logical n }

abbrev pub move_by : Bool → ℕ → ℕ → Buffer → Move
move_by to_host n count buffer =
    record { to_host = to_host; past_marks = false; target = target n; count = count; buffer = buffer }

abbrev pub move_of : Bool → ℕ → ℕ → ℕ → Move
move_of to_host n count at = move_by to_host n count (Buffer.Piece at)

-- Nobody holds it, so no controller is refused for that.
nobody : (k : Controller) (g : Geometry) → held_by_other k (holder (fresh g)) ≡ false
nobody First g = refl
nobody Second g = refl

pub free : (k : Controller) (c : ℕ) → held_by_other k (holder (unit c)) ≡ false
free k c = nobody k tiny

module _ (k : Controller) (host : List ℕ) (c : ℕ) (heads : c < 2) where
  -- A transfer of sectors that the drive has is judged by its buffer.
  by_its_buffer :
      (to_host : Bool) (n count : ℕ) (b : Buffer) → 0 < count → n + count ≤ 2 →
      let a = on k (unit c) 130 (Task.Move (move_by to_host n count b)) host in verdict a ≡ from_buffer a (move_by to_host n count b)
  by_its_buffer to_host n count b some fits =
      let m = move_by to_host n count b in
      own k (unit c) 130 host _ tt (free k c) ∙
      move_on k (unit c) 130 host m (counts c heads) present (λ none. omega arith) ∙
      span_on k (unit c) 130 host m (span_covers k (unit c) 130 host m n refl some (omega (arith, sectors_2))) (omega (arith, need_130))

  pub move_passes :
      (to_host : Bool) (n count at : ℕ) → 0 < count → n + count ≤ 2 → InMemory host at (count * 64) →
      verdict (on k (unit c) 130 (Task.Move (move_of to_host n count at)) host) ≡
      Ok (carrying (job_of (move_of to_host n count at) n))
  move_passes to_host n count at some fits held =
      by_its_buffer to_host n count (Buffer.Piece at) some fits ∙ piece_done k (unit c) 130 host (move_of to_host n count at) at refl n refl held

  pub long_list_refused :
      (to_host : Bool) (n count at elements : ℕ) → 0 < count → n + count ≤ 2 → 64 < elements →
      verdict (on k (unit c) 130 (Task.Move (move_by to_host n count (Buffer.List at elements))) host) ≡ Err Refusal.ListBad
  long_list_refused to_host n count at elements some fits over =
      let b = Buffer.List at elements in
      by_its_buffer to_host n count b some fits ∙
      list_18 k (unit c) 130 host (move_by to_host n count b) at elements refl (λ good. omega (arith, good.most))

-- A format of the first track, with its data at an address.
abbrev pub track : ℕ → Track
track buffer = record { cylinder = 0; head = 0; buffer = buffer }

-- No track of it is bad, so the heads end on the cylinder named.
pub heads_there : (track_of (unit 0) 0 0).cylinder ≡ 0
heads_there = rw (track_of_is, no_pairs_lands_there (unit 0) refl, spot_at_is)

pub format_passes :
    (k : Controller) (host : List ℕ) (cylinders sectors buffer : ℕ) → SizesWithin (shaped cylinders sectors) → cylinders * sectors ≡ 2 →
    InMemory host buffer 64 →
    let u = fresh (shaped cylinders sectors) in
    verdict (on k u 130 (Task.Format (track buffer)) host) ≡ Ok (plan_of u (Task.Format (track buffer)))
format_passes k host cylinders sectors buffer sizes two held =
    let u = fresh (shaped cylinders sectors) in
    own k u 130 host _ tt (nobody k (shaped cylinders sectors)) ∙
    format_on k u 130 host (track buffer) (counts_of cylinders sectors sizes 0 (omega (arith, sizes.cylinders)))
    (record {
      cylinder = omega (arith, sizes.cylinders);
      head = omega (arith, heads_of cylinders sectors sizes);
      sector = omega (arith, sizes.sectors);
    })
    (omega (arith, need_of cylinders sectors sizes two)) ∙ data_done k u 130 host (track buffer) held

-- ---- what stops a transfer

module _ (image : List ℕ) (place : ℕ) where
  pub unheeded : stops_at image tiny false place ≡ false
  unfolding stops_at
  unheeded = refl

  pub heeded : stops_at image tiny true place ≡ not (eqb (get_or image (128 + place) 0) 0)
  unfolding stops_at
  heeded = ap (λ x. not (eqb (get_or image x 0) 0)) (mark_byte_is tiny place ∙ rw marks_128)

-- The bytes of the first sector, stored from an address on.
abbrev pub copies : ℕ → List Store
copies at = up_to 64 (λ k. record { to = host_byte (at + k); value = copy_of (image_byte k) })

-- How far the transfers of the pairs come, all of them from the first sector on. Where their bytes lie in host memory does not matter.
module _ (image : List ℕ) (long : length image ≡ 130) (at : ℕ) where
  abbrev pub carried_on : Bool → ℕ → Progress
  carried_on to_host count = progress_on image (transfer_with (unit 0) (Moving.Sectors (job_of (move_of to_host 0 count at) 0)) (λ k. k))

  pub write_of_one : carried_on false 1 ≡ record { sectors = 1; answer = Ok tt }
  unfolding progress
  write_of_one = rw (place_is 0 0, unheeded image 0)

  module _ (good : get_or image 128 0 ≡ 0) where
    pub read_of_one : carried_on true 1 ≡ record { sectors = 1; answer = Ok tt }
    unfolding progress
    read_of_one = rw (place_is 0 0, heeded image 0, good)

    -- Its bytes are stored one after the other.
    pub read_stores : data_on image (transfer_with (unit 0) (Moving.Sectors (job_of (move_of true 0 1 at) 0)) (λ k. at + k)) ≡ copies at
    unfolding data_on
    read_stores =
        rw read_of_one
        (up_to_same 64 _ _ (λ i less. ap (λ (x : ℕ). record { to = host_byte (at + i); value = copy_of (image_byte x) }) (rw (place_is 0 (0 + i / 64), starts_at (0 + i / 64)) (omega arith))))

    pub read_stopped :
        get_or image 129 0 ≡ 1 → carried_on true 2 ≡ record { sectors = 1; answer = Err Refusal.Unreadable }
    unfolding progress
    read_stopped bad =
        rw (place_is 0 0, place_is 0 1, heeded image 0, heeded image 1, good, bad)
