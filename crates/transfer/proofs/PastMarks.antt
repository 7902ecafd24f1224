-- Bytes after the marks are not read: two images that hold the same sectors and marks lead a transfer to the same, and stores that reach no byte after
-- the marks leave such images.
-- A transfer on its drive looks at marks and at bytes of sectors alone, all of which lie below what the geometry needs.
use Prim.Native.Nat.{ℕ, zero, suc, ◌+◌, ◌*◌, ◌<◌}
use mathlib.Core.Bool.{Bool, true, false, not, ◌&&◌}
use mathlib.Core.List.{List, [], ◌∷◌, ◌++◌}
use mathlib.Core.Logic.{by_cases}
use mathlib.Core.Path.{◌≡◌, refl, sym, ap, ◌∙◌}
use native.Mathlib.Decide.{ℕ_discrete}
use native.Mathlib.Nat.{zero-add}
use native.Mathlib.Omega.{arith}
use lib.Dec.{eqb}
use lib.ListN.{get_or, length-set, set}
use lib.Seq.{get_or-set_other, get_or-set_same}
use Rattle.geometry.specs.declared.Geometry.{Geometry}
use Rattle.geometry.specs.Drive.{B, need}
use Rattle.geometry.specs.Sectors.{mark_byte}
use Rattle.geometry.proofs.Laws.{mark_inside, sector_in_image}
use Rattle.transfer.specs.Data.{Transfer, data_on, move, move_at, progress_on}
use Rattle.transfer.specs.Progress.{Progress, stops_at}
use Rattle.transfer.specs.SameSectors.{SameButPast, SameSectors}
use Rattle.transfer.specs.Stores.{Buffers, ByteAt, Store, Value, after, bytes_from, copy_of, event_byte, host_byte, image_byte, number, up_to, with, worth}
use Rattle.transfer.proofs.Marks.{StandsOnDrive}
use Rattle.transfer.proofs.Progress.{progress_most, progress_same}
use Rattle.transfer.proofs.Wholes.{bytes_held}

-- ---- what a transfer looks at

module _ (t : Transfer) (on : StandsOnDrive t) (image other : List ℕ) (alike : SameSectors t.geometry image other) where
  same_stop : (j : ℕ) → j < t.count → stops_at image t.geometry t.heeds (t.place j) ≡ stops_at other t.geometry t.heeds (t.place j)
  unfolding stops_at
  same_stop j j< =
      ap (λ (mark : ℕ). t.heeds && not (eqb mark 0))
      (alike.same (mark_byte t.geometry (t.place j)) (mark_inside t.geometry (t.place j) (on j j<)).1)

  pub comes_alike : progress_on image t ≡ progress_on other t
  comes_alike =
      progress_same _ _ 0 t.count (λ j j<. rw zero-add (same_stop j j<))

  pub data_alike : data_on image t ≡ data_on other t
  unfolding data_on
  data_alike = ap (λ (p : Progress). up_to (p.sectors * B t.geometry) (move_at t)) comes_alike

-- ---- stores that reach no byte of the image from an index on

abbrev CellBelow : ℕ → ByteAt → Type 0
CellBelow n (host_byte x) = Unit {0}
CellBelow n (image_byte x) = x < n
CellBelow n (event_byte x) = Unit {0}

abbrev ValueBelow : ℕ → Value → Type 0
ValueBelow n (number k) = Unit {0}
ValueBelow n (copy_of c) = CellBelow n c

abbrev pub Below : ℕ → List Store → Type 0
Below n [] = Unit {0}
Below n (s ∷ ss) = (CellBelow n s.to × ValueBelow n s.value) × Below n ss

pub below_both : (n : ℕ) (xs ys : List Store) → Below n xs → Below n ys → Below n (xs ++ ys)
below_both n [] ys first second = second
below_both n (x ∷ xs) ys first second = (first.0, below_both n xs ys first.1 second)

-- Numbers stored in host memory or in the event buffer.
pub host_below : (n at : ℕ) (ns : List ℕ) → Below n (bytes_from host_byte at ns)
unfolding bytes_from
host_below n at [] = tt
host_below n at (x ∷ xs) = ((tt, tt), host_below n (at + 1) xs)

pub events_below : (n at : ℕ) (ns : List ℕ) → Below n (bytes_from event_byte at ns)
unfolding bytes_from
events_below n at [] = tt
events_below n at (x ∷ xs) = ((tt, tt), events_below n (at + 1) xs)

-- The data of a transfer on its drive.
moved_below : (n : ℕ) (to_host : Bool) (disk host : ℕ) → disk < n → Below n (move to_host disk host ∷ [])
moved_below n true disk host less = ((tt, less), tt)
moved_below n false disk host less = ((less, tt), tt)

up_to_below : (n k : ℕ) (s : ℕ → Store) → ((i : ℕ) → i < k → Below n (s i ∷ [])) → Below n (up_to k s)
unfolding up_to
up_to_below n zero s each = tt
up_to_below n (suc k) s each = below_both n (up_to k s) (s k ∷ []) (up_to_below n k s (λ i i<. each i (omega arith))) (each k (omega arith))

pub data_below : (image : List ℕ) (t : Transfer) → StandsOnDrive t → Below (need t.geometry) (data_on image t)
unfolding data_on
data_below image t on =
    let most = rw zero-add at (progress_most (λ j. stops_at image t.geometry t.heeds (t.place j)) 0 t.count) in
    up_to_below (need t.geometry) _ (move_at t)
    (λ k k<.
    moved_below _ t.to_host _ _
    (bytes_held t.geometry t.place (progress_on image t).sectors (need t.geometry)
    (λ j j<. (sector_in_image t.geometry (need t.geometry) (t.place j) (omega arith) (on j (omega arith))).0) k k<))

-- ---- what they leave

module _ (g : Geometry) where
  same_worth : (m n : Buffers) → SameButPast g m n → (v : Value) → ValueBelow (need g) v → worth m v ≡ worth n v
  same_worth m n alike (number k) below = refl
  same_worth m n alike (copy_of (host_byte x)) below = ap (λ (h : List ℕ). get_or h x 0) alike.host
  same_worth m n alike (copy_of (image_byte x)) below = alike.image.same x below
  same_worth m n alike (copy_of (event_byte x)) below = ap (λ (e : List ℕ). get_or e x 0) alike.events

  same_set : (image other : List ℕ) (x n : ℕ) → x < need g → SameSectors g image other → SameSectors g (set image x n) (set other x n)
  same_set image other x n below alike =
      record {
        long = omega (arith, alike.long, length-set image x n);
        other_long = omega (arith, alike.other_long, length-set other x n);
        same = λ y y<.
            by_cases (ℕ_discrete y x)
            (λ here.
            rw here
            (get_or-set_same image x n 0 (omega (arith, alike.long)) ∙ sym (get_or-set_same other x n 0 (omega (arith, alike.other_long)))))
            (λ elsewhere. get_or-set_other image x y n 0 elsewhere ∙ alike.same y y< ∙ sym (get_or-set_other other x y n 0 elsewhere));
      }

  same_with : (m n : Buffers) → SameButPast g m n → (c : ByteAt) (k : ℕ) → CellBelow (need g) c → SameButPast g (with m c k) (with n c k)
  same_with m n alike (host_byte x) k below =
      record { host = ap (λ (h : List ℕ). set h x k) alike.host; events = alike.events; image = alike.image }
  same_with m n alike (image_byte x) k below =
      record { host = alike.host; events = alike.events; image = same_set m.image n.image x k below alike.image }
  same_with m n alike (event_byte x) k below =
      record { host = alike.host; events = ap (λ (e : List ℕ). set e x k) alike.events; image = alike.image }

  pub leave_alike : (ss : List Store) (m n : Buffers) → Below (need g) ss → SameButPast g m n → SameButPast g (after ss m) (after ss n)
  unfolding after
  leave_alike [] m n below alike = alike
  leave_alike (s ∷ ss) m n below alike =
      let one : SameButPast g (with m s.to (worth m s.value)) (with n s.to (worth n s.value)) =
      rw (same_worth m n alike s.value below.0.1) (same_with m n alike s.to (worth n s.value) below.0.0) in
      leave_alike ss _ _ below.1 one
