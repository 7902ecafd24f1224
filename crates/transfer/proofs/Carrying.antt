-- Carrying bytes run by run: a cursor that stands right stands right n bytes on, and a run copied is n stores more.
-- What a span's sectors have in the image bounds every run of them.
use Prim.Native.Nat.{ℕ, ◌+◌, ◌-◌, ◌*◌, ◌≤◌, ◌<◌}
use mathlib.Core.Bool.{Bool}
use mathlib.Core.List.{List}
use mathlib.Core.Logic.{by_cases}
use mathlib.Core.Path.{◌≡◌, refl, sym, ap, ◌∙◌}
use native.Mathlib.Decide.{dec_lt}
use native.Mathlib.Nat.{add_assoc, add-zero, mul-le-mul_right, mul-zero}
use native.Mathlib.Omega.{arith}
use lib.ListN.{length}
use Rattle.geometry.specs.Drive.{B}
use Rattle.unit.specs.declared.Span.{Span}
use Rattle.unit.specs.Standing.{UnitRecord, geometry}
use Rattle.transfer.specs.declared.carry.Cursor.{Cursor}
use Rattle.transfer.specs.Data.{move}
use Rattle.transfer.specs.Runs.{Carried, InImage, On, Ready, advanced, behind, disk_from, stretch}
use Rattle.transfer.specs.Stores.{Buffers, Store, after, up_to}
use Rattle.transfer.proofs.Stores.{after_add, copied_run, run_is_copy, up_to_same}

module _ (u : UnitRecord) (s : Span) where
  -- A cursor stands where it stands.
  pub on_here : (k : ℕ) (c : Cursor) → On u s k c → On u s (behind u c) c
  on_here k c on = record { stands = on.stands; here = refl; most = on.most }

  -- With a run used up and bytes still to come there is a next sector, and sectors have bytes.
  pub next_sector :
      (c : Cursor) → c.left ≤ 0 → behind u c < s.count * B (geometry u) → (c.next < s.count) × (0 < B (geometry u))
  next_sector c used less =
      let whole : c.next * B (geometry u) < s.count * B (geometry u) = omega arith in (
        by_cases (dec_lt c.next s.count) (λ h. h)
            (λ out. absurd (omega (arith, mul-le-mul_right {m = s.count} {n = c.next} (B (geometry u)) (omega arith)))),
        by_cases (dec_lt 0 (B (geometry u))) (λ h. h)
            (λ out.
            let none : B (geometry u) ≡ 0 = omega arith in
            absurd (omega (arith, ap (λ (x : ℕ). s.count * x) none, mul-zero s.count))),
      )

  -- A cursor n bytes on.
  pub cursor_on_lem : (k n : ℕ) (c : Cursor) → On u s k c → n ≤ c.left → On u s (k + n) (advanced c n)
  cursor_on_lem k n c on most =
      let there : behind u (advanced c n) ≡ behind u c + n = omega (arith, on.stands.whole) in
      record {
        stands =
            record {
              whole = omega (arith, on.stands.whole);
              run = λ i h.
                  rw (there, add_assoc (behind u c) n i, add_assoc c.at n i) (on.stands.run (n + i) (omega arith));
            };
        here = there ∙ ap (λ (x : ℕ). x + n) on.here;
        most = on.most;
      }

  -- A run of the span lies in the image.
  pub run_held :
      (long k n : ℕ) (c : Cursor) → InImage u s long → Ready u s k c → n ≤ c.left → 0 < n → c.at + n ≤ long
  run_held long k n c held ready most some =
      let on = ready.on in
      let last : behind u c + (n - 1) < s.count * B (geometry u) =
      omega (arith, on.stands.whole, mul-le-mul_right (B (geometry u)) on.most) in
      let byte = held (behind u c + (n - 1)) last in
      omega (arith, byte, on.stands.run (n - 1) (omega arith))

  module _ (to_host : Bool) (k at : ℕ) (m : Buffers) where
    pub carry_none : (c : Cursor) → On u s k c → Carried u s to_host k at 0 m m c
    unfolding after up_to
    carry_none c on = record { on = rw add-zero on; moved = refl }

    pub carry_more :
        (done n : ℕ) (m' : Buffers) (c r : Cursor) → Carried u s to_host k at done m m' c → Ready u s (k + done) r →
        n ≤ r.left → r.at + n ≤ length m'.image → at + done + n ≤ length m'.host →
        Carried u s to_host k at (done + n) m (copied_run to_host m' r.at (at + done) n) (advanced r n)
    carry_more done n m' c r so_far ready most image host =
        let disk : ℕ → ℕ = disk_from u s.volume s.first in
        let same : (i : ℕ) → i < n → move to_host (r.at + i) (at + done + i) ≡ move to_host (disk (k + (done + i))) (at + (done + i)) =
        λ i h.
        let byte : disk (k + (done + i)) ≡ r.at + i =
        ap disk (sym (add_assoc k done i) ∙ ap (λ (x : ℕ). x + i) (sym ready.on.here))
        ∙ ready.on.stands.run i (omega arith) in
        λ j. move to_host (sym byte j) (add_assoc at done i j) in
        record {
          on = rw (← add_assoc k done n) (cursor_on_lem (k + done) n r ready.on most);
          moved =
              sym (run_is_copy n to_host m' r.at (at + done) image host)
              ∙ ap (λ (x : Buffers). after (up_to n (λ i. move to_host (r.at + i) (at + done + i))) x) so_far.moved
              ∙ ap (λ (ss : List Store). after ss (after (stretch to_host disk k at done) m)) (up_to_same n _ _ (λ i h. same i h))
              ∙ sym (after_add done n (λ i. move to_host (disk (k + i)) (at + i)) m);
        }
