-- What a transfer leaves, for each byte: those of the sectors that come are there, and everything else is as it was.
-- Its stores are copies from cells of which none is a target, so the last store to a cell leaves what its source held before.
use Prim.Native.Nat.{ℕ, suc, ◌+◌, ◌-◌, ◌*◌, ◌/◌, ◌%◌, ◌<◌, ◌≤◌}
use mathlib.Core.Bool.{Bool, true, false}
use mathlib.Core.List.{List}
use mathlib.Core.Path.{◌≡◌, refl, sym, ap, ◌∙◌}
use native.Mathlib.Nat.{div-add-mod', div-lt_iff_lt-mul, mod-lt, zero-add}
use native.Mathlib.Omega.{arith}
use lib.ListN.{get_or, length}
use lib.Seq.{get_or-set_same}
use Rattle.geometry.specs.declared.Geometry.{Geometry}
use Rattle.geometry.specs.declared.VolumeNumber.{VolumeNumber}
use Rattle.geometry.specs.Drive.{B, S, drive_sectors, need, volume_sectors}
use Rattle.geometry.specs.Sectors.{first_byte}
use Rattle.geometry.proofs.Laws.{bytes_differ, sector_in_image}
use Rattle.unit.specs.declared.Spot.{Spot}
use Rattle.unit.specs.Standing.{UnitRecord, geometry}
use Rattle.transfer.specs.Data.{Transfer, data_on, disk_byte, formatting, move, moving, progress_on}
use Rattle.transfer.specs.Runs.{whole, place_from}
use Rattle.transfer.specs.Progress.{Progress, stops_at}
use Rattle.transfer.specs.Stores.{Buffers, ByteAt, Store, after, copy_of, event_byte, byte_in, host_byte, image_byte, up_to, with}
use Rattle.transfer.proofs.Marks.{moving_on_drive}
use Rattle.transfer.proofs.Progress.{progress_most}
use Rattle.transfer.proofs.Stays.{events_stay, host_stays, image_stays, lengths_stay, stored_of_up_to, unstored_stays}
use Rattle.transfer.proofs.Stops.{whole_unheeding}
use Rattle.transfer.proofs.Stores.{after_add, after_more}
use Rattle.transfer.proofs.Wholes.{bytes_held, some_bytes}
use Rattle.transfer.specs.Targets.{Stored}

-- ---- copies in a row

-- A cell that its buffer has.
abbrev InBuffer : Buffers → ByteAt → Type 0
InBuffer m (host_byte x) = x < length m.host
InBuffer m (image_byte x) = x < length m.image
InBuffer m (event_byte x) = x < length m.events

-- It has it after any stores, and a store to it leaves there what was stored.
in_buffer_stays : (ss : List Store) (m : Buffers) (c : ByteAt) → InBuffer m c → InBuffer (after ss m) c
in_buffer_stays ss m (host_byte x) h = omega (arith, lengths_stay ss m)
in_buffer_stays ss m (image_byte x) h = omega (arith, lengths_stay ss m)
in_buffer_stays ss m (event_byte x) h = omega (arith, lengths_stay ss m)

target_holds : (m : Buffers) (c : ByteAt) (n : ℕ) → InBuffer m c → byte_in (with m c n) c ≡ n
target_holds m (host_byte x) n h = get_or-set_same m.host x n 0 h
target_holds m (image_byte x) n h = get_or-set_same m.image x n 0 h
target_holds m (event_byte x) n h = get_or-set_same m.events x n 0 h

-- Copies of which no source is a target.
module _ (m : Buffers) (n : ℕ) (from to : ℕ → ByteAt) (apart : (i k : ℕ) → to i ≡ from k → ⊥) where
  abbrev copy : ℕ → Store
  copy k = record { to = to k; value = copy_of (from k) }

  -- After the first i of them, a cell that is the target of none is as it was.
  others_stay : (i : ℕ) (c : ByteAt) → ((k : ℕ) → k < i → to k ≡ c → ⊥) → byte_in (after (up_to i copy) m) c ≡ byte_in m c
  others_stay i c none =
      unstored_stays (up_to i copy) m c (λ there. let k = stored_of_up_to i copy c there in none k.0 k.1.0 k.1.1)

  -- After all n, the target of a copy holds what its source held before, where no later copy has the same target.
  last_holds :
      (k : ℕ) → k < n → ((i : ℕ) → k < i → i < n → to i ≡ to k → ⊥) → InBuffer m (to k) →
      byte_in (after (up_to n copy) m) (to k) ≡ byte_in m (from k)
  last_holds k less last inside =
      let rest : n ≡ suc k + (n - suc k) = omega arith in
      let later : ℕ → Store = λ i. copy (suc k + i) in
      ap (λ (j : ℕ). byte_in (after (up_to j copy) m) (to k)) rest
      ∙ ap (λ (b : Buffers). byte_in b (to k)) (after_add (suc k) (n - suc k) copy m)
      ∙ unstored_stays (up_to (n - suc k) later) (after (up_to (suc k) copy) m) (to k)
      (λ there.
      let i = stored_of_up_to (n - suc k) later (to k) there in
      last (suc k + i.0) (omega arith) (omega (arith, i.1.0)) i.1.1)
      ∙ ap (λ (b : Buffers). byte_in b (to k)) (after_more k copy m)
      ∙ target_holds (after (up_to k copy) m) (to k) (byte_in (after (up_to k copy) m) (from k)) (in_buffer_stays (up_to k copy) m (to k) inside)
      ∙ others_stay k (from k) (λ i h. apart i k)

-- Cells of two buffers are never the same, and those of one are the same only at one index.
host_no_image : (x y : ℕ) → host_byte x ≡ image_byte y → ⊥
host_no_image x y same = let z : ◌≡◌ {A = ℕ} 0 1 = cc in omega arith

host_no_event : (x y : ℕ) → host_byte x ≡ event_byte y → ⊥
host_no_event x y same = let z : ◌≡◌ {A = ℕ} 0 1 = cc in omega arith

image_no_event : (x y : ℕ) → image_byte x ≡ event_byte y → ⊥
image_no_event x y same = let z : ◌≡◌ {A = ℕ} 0 1 = cc in omega arith

same_host : (x y : ℕ) → host_byte x ≡ host_byte y → x ≡ y
same_host x y same = cc

same_image : (x y : ℕ) → image_byte x ≡ image_byte y → x ≡ y
same_image x y same = cc

-- ---- a transfer's bytes

-- How many bytes come: those of the sectors that are moved.
abbrev pub carried : Buffers → Transfer → ℕ
carried m t = (progress_on m.image t).sectors * B t.geometry

-- The buffers after the transfer.
abbrev pub afterwards : Buffers → Transfer → Buffers
afterwards m t = after (data_on m.image t) m

-- The index in the image of byte k.
abbrev pub on_disk : Transfer → ℕ → ℕ
on_disk t k = disk_byte t.geometry t.place k

-- Sectors at different places have different bytes on the disk.
disk_bytes_differ :
    (g : Geometry) (place : ℕ → ℕ) (n : ℕ) → ((i j : ℕ) → i < n → j < n → place i ≡ place j → i ≡ j) →
    (i k : ℕ) → i < n * B g → k < n * B g → disk_byte g place i ≡ disk_byte g place k → i ≡ k
disk_bytes_differ g place n differ i k i< k< same =
    let some = some_bytes n (B g) i i< in
    let there : place (i / B g) ≡ place (k / B g) =
    bytes_differ g (place (i / B g)) (place (k / B g)) (i % B g) (k % B g) (mod-lt i some) (mod-lt k some) same in
    let sector : i / B g ≡ k / B g =
    differ (i / B g) (k / B g) ((div-lt_iff_lt-mul some).1 i<) ((div-lt_iff_lt-mul some).1 k<) there in
    omega (
      arith,
      ap (λ (p : ℕ). first_byte g p) there,
      ap (λ (j : ℕ). j * B g) sector,
      div-add-mod' i (B g),
      div-add-mod' k (B g),
    )

module _ (m : Buffers) (t : Transfer) where
  -- Which way a transfer goes says what its stores are.
  one_way :
      (to_host : Bool) → t.to_host ≡ to_host →
      data_on m.image t ≡ up_to (carried m t) (λ k. move to_host (on_disk t k) (t.host_at k))
  unfolding data_on
  one_way to_host is = ap (λ (b : Bool). up_to (carried m t) (λ k. move b (on_disk t k) (t.host_at k))) is

  abbrev host : ℕ → ByteAt
  host k = host_byte (t.host_at k)

  abbrev disk : ℕ → ByteAt
  disk k = image_byte (on_disk t k)

  -- A transfer to the host.
  module _ (reads : t.to_host ≡ true) where
    apart : (i k : ℕ) → host i ≡ disk k → ⊥
    apart i k = host_no_image (t.host_at i) (on_disk t k)

    target : (c : ByteAt) → Stored (data_on m.image t) c → (k : ℕ) × ((k < carried m t) × (host k ≡ c))
    target c there = stored_of_up_to (carried m t) (copy m (carried m t) disk host apart) c (rw (one_way true reads) at there)

    -- Every host byte that is not one of those that come is as it was: nothing of the rest is there.
    pub host_rest_stays :
        (x : ℕ) → ((k : ℕ) → k < carried m t → t.host_at k ≡ x → ⊥) → get_or (afterwards m t).host x 0 ≡ get_or m.host x 0
    host_rest_stays x none =
        unstored_stays (data_on m.image t) m (host_byte x)
        (λ there. let k = target (host_byte x) there in none k.0 k.1.0 (same_host _ _ k.1.1))

    -- Of the bytes that come, each is in the host, at its place in memory, where no later one takes that place.
    pub host_has_byte :
        (k : ℕ) → k < carried m t → t.host_at k < length m.host →
        ((i : ℕ) → k < i → i < carried m t → t.host_at i ≡ t.host_at k → ⊥) →
        get_or (afterwards m t).host (t.host_at k) 0 ≡ get_or m.image (on_disk t k) 0
    host_has_byte k less inside last =
        rw (one_way true reads)
        (last_holds m (carried m t) disk host apart k less (λ i later i< same. last i later i< (same_host _ _ same)) inside)

    -- So all of them are, where their places in memory are all different: the host has the disk's bytes for the sectors moved.
    pub host_has_bytes :
        ((i k : ℕ) → i < carried m t → k < carried m t → t.host_at i ≡ t.host_at k → i ≡ k) →
        (k : ℕ) → k < carried m t → t.host_at k < length m.host →
        get_or (afterwards m t).host (t.host_at k) 0 ≡ get_or m.image (on_disk t k) 0
    host_has_bytes differ k less inside =
        host_has_byte k less inside (λ i later i< same. omega (arith, differ i k i< less same))

    -- The image is as it was, and so is the event buffer.
    pub reads_keep_image : (afterwards m t).image ≡ m.image
    reads_keep_image =
        image_stays (data_on m.image t) m
        (λ x there. let k = target (image_byte x) there in host_no_image _ _ k.1.1)

    pub reads_keep_events : (afterwards m t).events ≡ m.events
    reads_keep_events =
        events_stay (data_on m.image t) m
        (λ x there. let k = target (event_byte x) there in host_no_event _ _ k.1.1)

  -- Every byte that comes lies in the image, where every sector does.
  pub carried_in_image :
      ((j : ℕ) → j < t.count → first_byte t.geometry (t.place j) + B t.geometry ≤ length m.image) →
      (k : ℕ) → k < carried m t → on_disk t k < length m.image
  carried_in_image there =
      let most = rw zero-add at (progress_most (λ i. stops_at m.image t.geometry t.heeds (t.place i)) 0 t.count) in
      bytes_held t.geometry t.place (progress_on m.image t).sectors (length m.image) (λ j j<. there j (omega arith))

  -- A transfer from the host.
  module _ (writes : t.to_host ≡ false) where
    apart_again : (i k : ℕ) → disk i ≡ host k → ⊥
    apart_again i k same = host_no_image (t.host_at k) (on_disk t i) (sym same)

    disk_target : (c : ByteAt) → Stored (data_on m.image t) c → (k : ℕ) × ((k < carried m t) × (disk k ≡ c))
    disk_target c there =
        stored_of_up_to (carried m t) (copy m (carried m t) host disk apart_again) c (rw (one_way false writes) at there)

    -- Every image byte that is not one of those that come is as it was.
    pub image_rest_stays :
        (x : ℕ) → ((k : ℕ) → k < carried m t → on_disk t k ≡ x → ⊥) → get_or (afterwards m t).image x 0 ≡ get_or m.image x 0
    image_rest_stays x none =
        unstored_stays (data_on m.image t) m (image_byte x)
        (λ there. let k = disk_target (image_byte x) there in none k.0 k.1.0 (same_image _ _ k.1.1))

    -- Of the bytes that come, each is in the image, at its place there, where no later one takes that place.
    pub image_has_byte :
        ((j : ℕ) → j < t.count → first_byte t.geometry (t.place j) + B t.geometry ≤ length m.image) →
        (k : ℕ) → k < carried m t → ((i : ℕ) → k < i → i < carried m t → on_disk t i ≡ on_disk t k → ⊥) →
        get_or (afterwards m t).image (on_disk t k) 0 ≡ get_or m.host (t.host_at k) 0
    image_has_byte there k less last =
        rw (one_way false writes)
        (last_holds m (carried m t) host disk apart_again k less (λ i later i< same. last i later i< (same_image _ _ same))
        (carried_in_image there k less))

    -- So all of them are, where the sectors moved stand at different places: the image has the host's bytes for them.
    pub image_has_bytes :
        ((j : ℕ) → j < t.count → first_byte t.geometry (t.place j) + B t.geometry ≤ length m.image) →
        ((i j : ℕ) → i < (progress_on m.image t).sectors → j < (progress_on m.image t).sectors → t.place i ≡ t.place j → i ≡ j) →
        (k : ℕ) → k < carried m t → get_or (afterwards m t).image (on_disk t k) 0 ≡ get_or m.host (t.host_at k) 0
    image_has_bytes there differ k less =
        image_has_byte there k less
        (λ i later i< same.
        omega (arith, disk_bytes_differ t.geometry t.place (progress_on m.image t).sectors differ i k i< less same))

    -- Host memory is as it was, and so is the event buffer.
    pub writes_keep_host : (afterwards m t).host ≡ m.host
    writes_keep_host =
        host_stays (data_on m.image t) m
        (λ x there. let k = disk_target (host_byte x) there in host_no_image _ _ (sym k.1.1))

    pub writes_keep_events : (afterwards m t).events ≡ m.events
    writes_keep_events =
        events_stay (data_on m.image t) m
        (λ x there. let k = disk_target (event_byte x) there in image_no_event _ _ k.1.1)

    -- A write that does not heed the marks comes whole, so that the image has the host's bytes in each of its sectors.
    pub image_has_all :
        t.heeds ≡ false →
        ((j : ℕ) → j < t.count → first_byte t.geometry (t.place j) + B t.geometry ≤ length m.image) →
        ((i j : ℕ) → i < t.count → j < t.count → t.place i ≡ t.place j → i ≡ j) →
        (k : ℕ) → k < t.count * B t.geometry → get_or (afterwards m t).image (on_disk t k) 0 ≡ get_or m.host (t.host_at k) 0
    image_has_all ignores there differ k less =
        let all : (progress_on m.image t).sectors ≡ t.count = ap (λ (p : Progress). p.sectors) (whole_unheeding m.image t ignores) in
        image_has_bytes there (λ i j i< j< same. differ i j (rw all at i<) (rw all at j<) same) k (rw all less)

-- ---- the two ways to write

-- "82 and A2 ignore marks" (01, One run)
pub writes_ignore_marks :
    (u : UnitRecord) (past_marks : Bool) (v : VolumeNumber) (first count : ℕ) (host_at : ℕ → ℕ) →
    (moving u false past_marks v first count host_at).heeds ≡ false
writes_ignore_marks u past_marks v first count host_at = refl

-- Sectors of a volume, written, come whole; where no two of them stand in one place the image has the host's bytes in each.
pub moving_writes_all :
    (m : Buffers) (u : UnitRecord) (past_marks : Bool) (v : VolumeNumber) (first count : ℕ) (host_at : ℕ → ℕ) →
    first + count ≤ volume_sectors (geometry u) v → need (geometry u) ≤ length m.image →
    ((i j : ℕ) → i < count → j < count → place_from u v first i ≡ place_from u v first j → i ≡ j) →
    let t = moving u false past_marks v first count host_at in
    (progress_on m.image t ≡ whole count) ×
    ((k : ℕ) → k < count * B (geometry u) → get_or (afterwards m t).image (on_disk t k) 0 ≡ get_or m.host (host_at k) 0)
moving_writes_all m u past_marks v first count host_at inside long differ =
    let t = moving u false past_marks v first count host_at in
    let ignores = writes_ignore_marks u past_marks v first count host_at in (
      whole_unheeding m.image t ignores,
      image_has_all m t refl ignores
          (λ j j<. (sector_in_image (geometry u) (length m.image) (t.place j) long (moving_on_drive u false past_marks v first count host_at inside j j<)).0)
          differ,
    )

-- A track, formatted, counts its S sectors, and each of them has the bytes from that address of host memory on.
pub formatting_writes_all :
    (m : Buffers) (u : UnitRecord) (spot : Spot) (at : ℕ) →
    spot.place + S (geometry u) ≤ drive_sectors (geometry u) → need (geometry u) ≤ length m.image →
    let t = formatting u spot at in
    (progress_on m.image t ≡ whole (S (geometry u))) ×
    ((k : ℕ) → k < S (geometry u) * B (geometry u) → get_or (afterwards m t).image (on_disk t k) 0 ≡ get_or m.host (at + k % B (geometry u)) 0)
formatting_writes_all m u spot at inside long =
    let t = formatting u spot at in (
      whole_unheeding m.image t refl,
      image_has_all m t refl refl
          (λ j j<. (sector_in_image (geometry u) (length m.image) (spot.place + j) long (omega arith)).0) (λ i j i< j< same. omega arith),
    )
