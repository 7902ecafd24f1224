-- Places in a row have their bytes in a row, so a run of sectors is one run of bytes, and a cursor on it stands right.
-- A byte's number is taken apart into its sector and its place in that sector.
use Prim.Native.Nat.{ℕ, ◌+◌, ◌*◌, ◌/◌, ◌%◌, ◌≤◌, ◌<◌}
use mathlib.Core.Path.{◌≡◌, ap, ◌∙◌}
use native.Mathlib.Nat.{add_assoc, add_comm, add-mul, add-mul-div_right, add-mul-mod_self_right, div-add-mod', div-lt_iff_lt-mul, mul-pos}
use native.Mathlib.Omega.{arith}
use Rattle.geometry.specs.declared.Geometry.{Geometry}
use Rattle.geometry.specs.Drive.{B, volume_sectors}
use Rattle.geometry.specs.Sectors.{first_byte}
use Rattle.geometry.proofs.Laws.{bytes_consecutive}
use Rattle.unit.specs.declared.Span.{Span}
use Rattle.unit.specs.Standing.{UnitRecord, geometry}
use Rattle.transfer.specs.declared.carry.Cursor.{Cursor}
use Rattle.transfer.specs.declared.reach.Run.{Run}
use Rattle.transfer.specs.Data.{disk_byte}
use Rattle.transfer.specs.Runs.{Ready, RunAt, behind, place_from}
use Rattle.transfer.proofs.Tracks.{run_places}

-- n sectors from the j-th on stand in a row from place p on: byte i from there is byte i from the first byte of p.
pub row_of_bytes :
    (g : Geometry) (place : ℕ → ℕ) (j p n : ℕ) → 0 < B g → ((k : ℕ) → k < n → place (j + k) ≡ p + k) →
    (i : ℕ) → i < n * B g → disk_byte g place (j * B g + i) ≡ first_byte g p + i
row_of_bytes g place j p n some row i less =
    let sector : (j * B g + i) / B g ≡ j + i / B g =
    ap (λ (x : ℕ). x / B g) (add_comm (j * B g) i) ∙ add-mul-div_right i j some ∙ add_comm (i / B g) j in
    let byte : (j * B g + i) % B g ≡ i % B g =
    ap (λ (x : ℕ). x % B g) (add_comm (j * B g) i) ∙ add-mul-mod_self_right i j (B g) in
    rw (sector, byte, row (i / B g) ((div-lt_iff_lt-mul some).1 less), bytes_consecutive g p (i / B g))
    (omega (arith, div-add-mod' i (B g)))

-- A run's own cursor: its bytes, counted from the sector at which it begins.
abbrev pub cursor_on : UnitRecord → ℕ → Run → Cursor
cursor_on u next r =
    record {
      at = first_byte (geometry u) r.place;
      left = r.sectors * B (geometry u);
      next = next + r.sectors;
    }

module _
    (u : UnitRecord) (s : Span) (next most : ℕ) (r : Run) (inside : s.first + next < volume_sectors (geometry u) s.volume)
    (at : RunAt u s.volume (s.first + next) most r) (some : 0 < B (geometry u)) where
  pub cursor_begins : next + most ≤ s.count → Ready u s (next * B (geometry u)) (cursor_on u next r)
  cursor_begins asked =
      let split = add-mul next r.sectors (B (geometry u)) in
      let here : behind u (cursor_on u next r) ≡ next * B (geometry u) = omega (arith, split) in
      record {
        on =
            record {
              stands =
                  record {
                    whole = omega (arith, split);
                    run = λ i h.
                        rw here
                        (row_of_bytes (geometry u) (place_from u s.volume s.first) next r.place r.sectors some
                        (λ k k<. rw (place_from, ← add_assoc s.first next k) (run_places u s.volume (s.first + next) most r inside at k k<))
                        i h);
                  };
              here = here;
              most = omega (arith, at.asked);
            };
        some = mul-pos at.some some;
      }
