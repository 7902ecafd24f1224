-- Where sectors stand, as the crates above may know it: laws over the whole drive first, and the volumes' as corollaries.
-- Each is a law of Counting, met through the equations of Inside; nothing here depends on what B is.
use Prim.Native.Nat.{ℕ, ◌+◌, ◌-◌, ◌*◌, ◌/◌, ◌%◌, ◌≤◌, ◌<◌}
use mathlib.Core.Logic.{by_cases, if_neg, if_pos, ite}
use mathlib.Core.Path.{◌≡◌, refl, sym, ap, ◌∙◌}
use native.Mathlib.Decide.{dec_lt}
use native.Mathlib.Nat.{add-mul, add-sub_cancel_left, mul-le-mul, mul-le-mul_left, mul-le-mul_right}
use native.Mathlib.Omega.{arith}
use lib.Arith.{digits_div}
use Rattle.geometry.specs.declared.Address.{Address}
use Rattle.geometry.specs.declared.Geometry.{Geometry}
use Rattle.geometry.specs.declared.VolumeNumber.{VolumeNumber}
use Rattle.geometry.specs.declared.VolumeNumber.TheVariants.{Zero, One}
use Rattle.geometry.specs.Default.{table11}
use Rattle.geometry.specs.Drive.{B, C, N, S, goes_by_head, drive_heads, drive_sectors, marks_at, need, start, volume, volume_sectors}
use Rattle.geometry.specs.Drive.Inside.{drive_sectors_is, marks_at_is, need_is, volume_sectors_is}
use Rattle.geometry.specs.Limits.{Has, Present, VolumesWithin, Within}
use Rattle.geometry.specs.Following.{next, InVolume}
use Rattle.geometry.specs.Orders.{ordered}
use Rattle.geometry.specs.SectorBytes.{SectorByte}
use Rattle.geometry.specs.Sectors.{OnDrive, address, address_of, first_byte, mark_byte, number_of, place_of, tracks_each}
use Rattle.geometry.specs.SectorBytes.SectorByte.{data_at, mark_at}
use Rattle.geometry.specs.Sectors.Inside.{address_of_is, first_byte_is, mark_byte_is, number_of_is, place_of_is}
use Rattle.geometry.proofs.Counting.{Digits, counted_back, counted_below, counted_once, cylinder_back, digits_of, head_back, sector_back}
use Rattle.geometry.proofs.Ends.{end_present, end_reached, heads_of_within, heads_reached}
use Rattle.geometry.proofs.Orders.{ordered_back, ordered_below, ordered_bounded, ordered_product}

-- ---- over the whole drive

module _ (g : Geometry) where
  -- A sector of the drive has a place inside the drive.
  pub place_inside : (a : Address) → OnDrive g a → place_of g a < drive_sectors g
  place_inside a on =
      rw (place_of_is, drive_sectors_is)
      (counted_below (drive_heads g) (S g) (C g) a.cylinder a.head a.sector on.cylinder on.head on.sector)

  -- Two different addresses have two different places.
  pub places_differ : (a b : Address) → OnDrive g a → OnDrive g b → place_of g a ≡ place_of g b → a ≡ b
  places_differ a b on-a on-b same =
      let d =
      counted_once (drive_heads g) (S g) a.cylinder a.head a.sector b.cylinder b.head b.sector
      on-a.head on-a.sector on-b.head on-b.sector
      (sym (place_of_is g a) ∙ same ∙ place_of_is g b) in
      λ i. address (d.0 i) (d.1.0 i) (d.1.1 i)

  -- The bytes of a place inside the drive lie before the marks.
  pub bytes_inside : (p : ℕ) → p < drive_sectors g → first_byte g p + B g ≤ marks_at g
  bytes_inside p inside = rw (first_byte_is, marks_at_is) (omega (arith, mul-le-mul_right (B g) inside))

  -- Its mark lies among the marks, inside what the image needs.
  pub mark_inside : (p : ℕ) → p < drive_sectors g → (marks_at g ≤ mark_byte g p) × (mark_byte g p < need g)
  mark_inside p inside = rw (mark_byte_is, need_is) (omega arith)

  -- So both lie inside an image that is long enough.
  pub sector_in_image :
      (length p : ℕ) → need g ≤ length → p < drive_sectors g → (first_byte g p + B g ≤ length) × (mark_byte g p < length)
  sector_in_image length p long inside = omega (arith, bytes_inside p inside, mark_inside p inside, need_is g)

  -- The rest of a track is consecutive in the image.
  pub track_consecutive : (c h s k : ℕ) → place_of g (address c h (s + k)) ≡ place_of g (address c h s) + k
  track_consecutive c h s k = omega (arith, place_of_is g (address c h (s + k)), place_of_is g (address c h s))

  -- Places in a row have their bytes in a row, and their marks.
  pub bytes_consecutive : (p k : ℕ) → first_byte g (p + k) ≡ first_byte g p + k * B g
  bytes_consecutive p k = rw (first_byte_is, first_byte_is) (add-mul p k (B g))

  pub marks_consecutive : (p k : ℕ) → mark_byte g (p + k) ≡ mark_byte g p + k
  marks_consecutive p k = rw (mark_byte_is, mark_byte_is) (omega arith)

  -- Two places whose sectors share a byte are one place.
  pub bytes_differ : (p q i j : ℕ) → i < B g → j < B g → first_byte g p + i ≡ first_byte g q + j → p ≡ q
  bytes_differ p q i j i< j< same =
      sym (digits_div p i<) ∙ ap (λ (n : ℕ). n / B g) (rw (first_byte_is, first_byte_is) at same) ∙ digits_div q j<

  -- The same with their marks: two places of the drive that have a byte in common are one place.
  pub sectors_apart : (p q x : ℕ) → p < drive_sectors g → q < drive_sectors g → SectorByte g p x → SectorByte g q x → p ≡ q
  sectors_apart p q x p-in q-in (data_at here) (data_at there) =
      bytes_differ p q (x - first_byte g p) (x - first_byte g q) (omega arith) (omega arith) (omega arith)
  sectors_apart p q x p-in q-in (data_at here) (mark_at there) = absurd (omega (arith, bytes_inside p p-in, mark_inside q q-in))
  sectors_apart p q x p-in q-in (mark_at here) (data_at there) = absurd (omega (arith, bytes_inside q q-in, mark_inside p p-in))
  sectors_apart p q x p-in q-in (mark_at here) (mark_at there) = omega (arith, mark_byte_is g p, mark_byte_is g q)

-- ---- the volumes

module _ (g : Geometry) (v : VolumeNumber) where
  abbrev Nv : ℕ
  Nv = N (volume g v)

  -- The radices: how often the slower of cylinder and head goes on, and the quicker.
  abbrev pub most : ℕ
  most = (ordered (goes_by_head g) (C g, Nv)).0

  abbrev each : ℕ
  each = tracks_each g v

  all_counted : volume_sectors g v ≡ most * each * S g
  all_counted = volume_sectors_is g v ∙ ap (λ (x : ℕ). x * S g) (sym (ordered_product (goes_by_head g) (C g, Nv)))

  -- The address of a sector on the track that slower and quicker name.
  abbrev counted : ℕ × ℕ → ℕ → Address
  counted steps s = address (ordered (goes_by_head g) steps).0 (start (volume g v) + (ordered (goes_by_head g) steps).1) s

  leads_to : (m a b s : ℕ) → b < each → s < S g → m ≡ (a * each + b) * S g + s → address_of g v m ≡ counted (a, b) s
  leads_to m a b s b< s< is =
      rw (is, address_of_is, cylinder_back each (S g) a b s b< s<, head_back each (S g) a b s b< s<, sector_back each (S g) a b s s<)

  module _ (c h s : ℕ) (in-it : InVolume g v c h s) where
    abbrev steps : ℕ × ℕ
    steps = ordered (goes_by_head g) (c, h)

    below : (steps.0 < most) × (steps.1 < each)
    below = ordered_below (goes_by_head g) (c, h) (C g, Nv) in-it.cylinder in-it.head

    -- The number that a physical address has leads back to that address,
    pub number_leads_back : address_of g v (number_of g v c h s) ≡ address c (start (volume g v) + h) s
    number_leads_back =
        leads_to (number_of g v c h s) steps.0 steps.1 s below.1 in-it.sector (number_of_is g v c h s)
        ∙ ap (λ (p : ℕ × ℕ). address p.0 (start (volume g v) + p.1) s) (ordered_back (goes_by_head g) (c, h))

    -- and is one of the volume's.
    pub number_inside : number_of g v c h s < volume_sectors g v
    number_inside =
        rw (number_of_is, all_counted) (counted_below each (S g) most steps.0 steps.1 s below.0 below.1 in-it.sector)

  module _ (n : ℕ) (inside : n < volume_sectors g v) where
    abbrev slow : ℕ
    slow = n / (S g * each)

    abbrev quick : ℕ
    quick = n / S g % each

    abbrev sec : ℕ
    sec = n % S g

    pub digits : Digits each (S g) most n
    digits = digits_of each (S g) most n (rw all_counted at inside)

    -- The number is counted by m of the slower, where the volume has fewer cylinders than m and fewer heads.
    pub number_below : (m : ℕ) → C g < m → Nv < m → n < m * each * S g
    number_below m cylinders heads =
        let few = ordered_bounded (goes_by_head g) (C g, Nv) m cylinders heads in
        let less : most ≤ m = omega arith in
        omega (arith, rw all_counted at inside, mul-le-mul_right (S g) (mul-le-mul_right each less))

    -- Cylinder and head, counted in the volume, are what the volume has.
    abbrev its_track : ℕ × ℕ
    its_track = ordered (goes_by_head g) (slow, quick)

    pub in_volume : (its_track.0 < C g) × (its_track.1 < Nv)
    in_volume =
        rw (ordered_back (goes_by_head g) (C g, Nv)) at
        (ordered_below (goes_by_head g) (slow, quick) (ordered (goes_by_head g) (C g, Nv)) digits.cylinder digits.head)

    number_of_digits : number_of g v its_track.0 its_track.1 sec ≡ n
    number_of_digits =
        number_of_is g v its_track.0 its_track.1 sec
        ∙ ap (λ (p : ℕ × ℕ). (p.0 * each + p.1) * S g + sec) (ordered_back (goes_by_head g) (slow, quick))
        ∙ counted_back each (S g) n

    -- A number of a volume leads to an address on the drive.
    pub address_on_drive : OnDrive g (address_of g v n)
    address_on_drive =
        rw address_of_is (omega (arith, digits, in_volume, end_present (volume g v) (omega (arith, in_volume)), end_reached g v))

    -- It is one of the volume's: its head is one of the volume's heads.
    pub address_in_volume : Has (volume g v) (address_of g v n).head
    unfolding Has
    address_in_volume = rw address_of_is (omega (arith, in_volume))

    -- The address that a number leads to has that number.
    pub address_leads_back :
        number_of g v (address_of g v n).cylinder ((address_of g v n).head - start (volume g v)) (address_of g v n).sector ≡ n
    address_leads_back = rw (address_of_is, add-sub_cancel_left) number_of_digits

    -- After a track's last sector the quicker of cylinder and head goes on, and after the last of these the slower.
    next_track :
        (sec + 1 < S g → ⊥) →
        address_of g v (n + 1) ≡ counted (ite (dec_lt (quick + 1) each) (slow, quick + 1) (slow + 1, 0)) 0
    next_track at-end =
        let more = dec_lt (quick + 1) each in
        by_cases more
        (λ q<.
        leads_to (n + 1) slow (quick + 1) 0 q< digits.sectors (omega (arith, digits, counted_back each (S g) n))
        ∙ ap (λ (p : ℕ × ℕ). counted p 0) (sym (if_pos more q< _ _)))
        (λ at_last.
        let full : quick + 1 ≡ each = omega (arith, digits) in
        leads_to (n + 1) (slow + 1) 0 0 digits.heads digits.sectors
        (omega (arith, digits, counted_back each (S g) n, ap (λ (x : ℕ). x * S g) full))
        ∙ ap (λ (p : ℕ × ℕ). counted p 0) (sym (if_neg more at_last _ _)))

    -- Consecutive numbers go in the drive's order.
    pub numbers_consecutive : address_of g v (n + 1) ≡ next g v (address_of g v n)
    unfolding next
    numbers_consecutive =
        let on-track = dec_lt (sec + 1) (S g) in
        rw (address_of_is g v n, add-sub_cancel_left, ordered_back (goes_by_head g) (slow, quick))
        (by_cases on-track
        (λ s<.
        leads_to (n + 1) slow quick (sec + 1) digits.head s< (omega (arith, counted_back each (S g) n))
        ∙ sym (if_pos on-track s< _ _))
        (λ at-end. next_track at-end ∙ sym (if_neg on-track at-end _ _)))

    -- The rest of a track is consecutive in the volume.
    pub track_numbers :
        (k : ℕ) → (address_of g v n).sector + k < S g →
        address_of g v (n + k) ≡
        address (address_of g v n).cylinder (address_of g v n).head ((address_of g v n).sector + k)
    track_numbers k rest =
        let back = counted_back each (S g) n in
        rw (address_of_is g v n)
        (leads_to (n + k) slow quick (sec + k) digits.head (rw address_of_is at rest) (omega arith))

    pub track_inside : (k : ℕ) → (address_of g v n).sector + k < S g → n + k < volume_sectors g v
    track_inside k rest =
        let more : sec + k < S g = rw address_of_is at rest in
        let is : n + k ≡ (slow * each + quick) * S g + (sec + k) = omega (arith, counted_back each (S g) n) in
        rw (is, all_counted) (counted_below each (S g) most slow quick (sec + k) digits.cylinder digits.head more)

    pub track_places :
        (k : ℕ) → (address_of g v n).sector + k < S g → place_of g (address_of g v (n + k)) ≡ place_of g (address_of g v n) + k
    track_places k rest = rw (track_numbers k rest) (track_consecutive g _ _ _ k)

  -- Two different numbers of a volume have two different places.
  pub numbers_differ :
      (n m : ℕ) → n < volume_sectors g v → m < volume_sectors g v →
      place_of g (address_of g v n) ≡ place_of g (address_of g v m) → n ≡ m
  numbers_differ n m n-in m-in same =
      let a = places_differ g _ _ (address_on_drive n n-in) (address_on_drive m m-in) same in
      sym (address_leads_back n n-in)
      ∙ ap (λ (x : Address). number_of g v x.cylinder (x.head - start (volume g v)) x.sector) a
      ∙ address_leads_back m m-in

  -- A volume has no more sectors than the drive.
  pub volume_in_drive : volume_sectors g v ≤ drive_sectors g
  volume_in_drive =
      rw (volume_sectors_is, drive_sectors_is)
      (mul-le-mul_right (S g) (mul-le-mul_left (C g) (heads_reached g v)))

-- Sectors of two volumes have different places.
pub volumes_differ :
    (g : Geometry) → VolumesWithin g → (n m : ℕ) → n < volume_sectors g Zero → m < volume_sectors g One →
    place_of g (address_of g Zero n) ≡ place_of g (address_of g One m) → ⊥
unfolding Has Present
volumes_differ g w n m n-in m-in same =
    let a = places_differ g _ _ (address_on_drive g Zero n n-in) (address_on_drive g One m m-in) same in
    let in0 = address_in_volume g Zero n n-in in
    let in1 = rw (← a) at (address_in_volume g One m m-in) in
    w.apart (omega arith) (address_of g Zero n).head in0 in1

-- So sectors of volumes that have one place are one: the same number of the same volume.
pub sectors_of_volumes_differ :
    (g : Geometry) → VolumesWithin g → (v w : VolumeNumber) (n m : ℕ) → n < volume_sectors g v → m < volume_sectors g w →
    place_of g (address_of g v n) ≡ place_of g (address_of g w m) → (v ≡ w) × (n ≡ m)
sectors_of_volumes_differ g within Zero Zero n m n-in m-in same = (refl, numbers_differ g Zero n m n-in m-in same)
sectors_of_volumes_differ g within One One n m n-in m-in same = (refl, numbers_differ g One n m n-in m-in same)
sectors_of_volumes_differ g within Zero One n m n-in m-in same = absurd (volumes_differ g within n m n-in m-in same)
sectors_of_volumes_differ g within One Zero n m n-in m-in same = absurd (volumes_differ g within m n m-in n-in (sym same))

-- ---- at the limits

-- An image needs at most 273,871,011,840 bytes.
pub need_at_most : (g : Geometry) → Within g → need g ≤ 273871011840
need_at_most g w =
    let tracks = mul-le-mul w.sizes.cylinders.1 (heads_of_within g w.volumes) in
    let both : B g + 1 ≤ 4097 = omega (arith, w.sizes.bytes) in
    let all : drive_sectors g * (B g + 1) ≤ 4096 * 64 * 255 * 4097 =
    rw drive_sectors_is (mul-le-mul (mul-le-mul tracks w.sizes.sectors.1) both) in
    omega (arith, need_is g, marks_at_is g, all)

-- The default is inside the limits.
pub default_within : Within table11
unfolding Has Present
default_within =
    record {
      sizes = omega arith;
      volumes =
          record {
            one_head = omega arith;
            ends = λ v. elim v as (λ (w : VolumeNumber). Present (volume table11 w) → start (volume table11 w) + N (volume table11 w) ≤ 64) [ Zero ↦ λ p. omega arith | One ↦ λ p. omega arith ];
            apart = λ p. omega arith;
          };
    }
