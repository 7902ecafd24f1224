-- A track filled sector by sector: each sector more is one copy of the same bytes.
-- Byte k of the track takes byte k mod B of the sector, and the track's bytes are in a row.
use Prim.Native.Nat.{ℕ, ◌+◌, ◌-◌, ◌*◌, ◌%◌, ◌≤◌, ◌<◌}
use mathlib.Core.Bool.{false}
use mathlib.Core.List.{List}
use mathlib.Core.Logic.{if_neg, if_pos}
use mathlib.Core.Path.{◌≡◌, refl, sym, ap, ◌∙◌}
use native.Mathlib.Nat.{add_assoc, add-mul, one-mul, zero-add, zero-mul}
use native.Mathlib.Omega.{arith}
use lib.Arith.{digits_mod}
use lib.ListN.{length}
use Rattle.wire.specs.Copy.{copied}
use Rattle.geometry.specs.declared.Geometry.{Geometry}
use Rattle.geometry.specs.Drive.{B, S, drive_sectors, need}
use Rattle.geometry.specs.Sectors.{first_byte}
use Rattle.geometry.proofs.Laws.{bytes_consecutive, sector_in_image}
use Rattle.transfer.specs.declared.Moved.{Moved}
use Rattle.unit.specs.declared.Spot.{Spot}
use Rattle.unit.specs.Standing.{UnitRecord, geometry}
use Rattle.transfer.specs.Data.{data_on, formatting, move, progress_on}
use Rattle.transfer.specs.Progress.{Progress, stops_at}
use Rattle.transfer.specs.Runs.{fill_store, in_a_row, lent, reached}
use Rattle.transfer.specs.Stores.{Buffers, Store, after, up_to}
use Rattle.transfer.specs.Whole.{TrackFits, made, misfit, track_fits?, track_result}
use Rattle.transfer.proofs.Cursors.{row_of_bytes}
use Rattle.transfer.proofs.Progress.{progress_most}
use Rattle.transfer.proofs.Wholes.{some_bytes}
use Rattle.transfer.proofs.Stores.{after_add, run_is_copy, up_to_same}

module _ (host image₀ : List ℕ) (first at bytes : ℕ) (memory : at + bytes ≤ length host) where
  abbrev store : ℕ → Store
  store = fill_store first at bytes

  next_sector : (i : ℕ) → (i + 1) * bytes ≡ i * bytes + bytes
  next_sector i = add-mul i 1 bytes ∙ ap (λ (x : ℕ). i * bytes + x) (one-mul bytes)

  same : (i j : ℕ) → j < bytes → move false (first + i * bytes + j) (at + j) ≡ store (i * bytes + j)
  same i j less = λ t. move false (add_assoc first (i * bytes) j t) (at + sym (digits_mod i less) t)

  pub fill_more :
      (i : ℕ) (image : List ℕ) → first + i * bytes + bytes ≤ length image →
      lent host image ≡ after (up_to (i * bytes) store) (lent host image₀) →
      lent host (copied host at image (first + i * bytes) bytes) ≡ after (up_to ((i + 1) * bytes) store) (lent host image₀)
  fill_more i image fits so_far =
      sym (run_is_copy bytes false (lent host image) (first + i * bytes) at fits memory)
      ∙ ap (λ (ss : List Store). after ss (lent host image)) (up_to_same bytes _ _ (λ j h. same i j h))
      ∙ ap (λ (m : Buffers). after (up_to bytes (λ j. store (i * bytes + j))) m) so_far
      ∙ sym (after_add (i * bytes) bytes store (lent host image₀))
      ∙ ap (λ (n : ℕ). after (up_to n store) (lent host image₀)) (sym (next_sector i))

-- ---- the whole track

module _ (image : List ℕ) (u : UnitRecord) (spot : Spot) (at : ℕ) where
  abbrev come : Progress
  come = progress_on image (formatting u spot at)

  -- The sectors that come have their bytes in the image, since it is long enough for the drive, which has the track.
  pub track_room :
      spot.place + S (geometry u) ≤ drive_sectors (geometry u) → need (geometry u) ≤ length image →
      0 < come.sectors → first_byte (geometry u) spot.place + come.sectors * B (geometry u) ≤ length image
  track_room inside long some =
      let last : ℕ = come.sectors - 1 in
      let most = rw zero-add at (progress_most (λ j. stops_at image (geometry u) false (spot.place + j)) 0 (S (geometry u))) in
      let there = sector_in_image (geometry u) (length image) (spot.place + last) long (omega arith) in
      let all : come.sectors ≡ last + 1 = omega arith in
      omega (
        arith,
        there.0,
        bytes_consecutive (geometry u) spot.place last,
        ap (λ (x : ℕ). x * B (geometry u)) all,
        add-mul last 1 (B (geometry u)),
        one-mul (B (geometry u)),
      )

  -- Their stores are those of sectors in a row.
  pub track_stores :
      data_on image (formatting u spot at) ≡
      up_to (come.sectors * B (geometry u)) (fill_store (first_byte (geometry u) spot.place) at (B (geometry u)))
  unfolding data_on
  track_stores =
      up_to_same (come.sectors * B (geometry u)) _ _
      (λ k k<.
      ap (λ (d : ℕ). move false d (at + k % B (geometry u)))
      (rw (zero-mul, zero-add) at
      (row_of_bytes (geometry u) (λ j. spot.place + j) 0 spot.place come.sectors (some_bytes come.sectors (B (geometry u)) k k<)
      (λ j j<. rw zero-add refl) k k<)))

  -- What is known of a track that was scanned: where its bytes begin, how many a sector has, and how far it comes.
  pub record Known (first bytes : ℕ) (m : Moved) : Type 0 where
    pub begins : first ≡ first_byte (geometry u) spot.place
    pub each : bytes ≡ B (geometry u)
    pub comes : m ≡ reached come

  pub known :
      (g : Geometry) (first bytes sectors : ℕ) (m : Moved) → g ≡ geometry u →
      first ≡ first_byte g spot.place → bytes ≡ B g → sectors ≡ S g → m ≡ reached (in_a_row image g false spot.place sectors) →
      Known first bytes m
  known g first bytes sectors m g-is begins each all comes =
      record { begins = rw g-is at begins; each = rw g-is at each; comes = rw (all, g-is) at comes }

  -- So they may be filled, and filling them is the track's data.
  pub fill_fits :
      (long first bytes : ℕ) (m : Moved) → Known first bytes m → TrackFits (geometry u) spot at long (length image) →
      (at + bytes ≤ long) × (0 < m.sectors → first + m.sectors * bytes ≤ length image)
  fill_fits long first bytes m k fits = rw (k.begins, k.each, k.comes) (fits.memory, track_room fits.inside fits.held)

  pub filled :
      (before after_fill : Buffers) (first bytes : ℕ) (m : Moved) → Known first bytes m →
      after_fill ≡ after (up_to (m.sectors * bytes) (fill_store first at bytes)) before →
      after_fill ≡ after (data_on image (formatting u spot at)) before
  filled before after_fill first bytes m k stored = rw track_stores (rw (k.begins, k.each, k.comes) at stored)

  module _ (long : ℕ) where
    pub track_fit :
        TrackFits (geometry u) spot at long (length image) →
        track_result long image u spot at ≡ made image (formatting u spot at)
    unfolding track_result
    track_fit fit = if_pos (track_fits? (geometry u) spot at long (length image)) fit _ _

    pub track_unfit : (TrackFits (geometry u) spot at long (length image) → ⊥) → track_result long image u spot at ≡ misfit
    unfolding track_result
    track_unfit unfit = if_neg (track_fits? (geometry u) spot at long (length image)) unfit _ _
