-- What stores leave as it was, and what they leave of bytes stored in a row: laws of any list of stores, on any buffers.
-- Each goes along the list; of one store a cell is its target, which then holds what was stored, or another, which is as it was.
use Prim.Native.Nat.{ℕ, zero, suc, ◌+◌, ◌<◌}
use mathlib.Core.List.{List, [], ◌∷◌, ◌++◌}
use mathlib.Core.Logic.{◌⊎◌, inl, inr, by_cases, ⊎_elim}
use mathlib.Core.Path.{◌≡◌, refl, sym, ap, ◌∙◌}
use native.Mathlib.Decide.{ℕ_discrete}
use native.Mathlib.Numerals.{add-one}
use native.Mathlib.Omega.{arith}
use lib.ListN.{length, length-set}
use lib.Seq.{ext_get_or, get_or-set_other, sets}
use Rattle.wire.specs.Among.{Among}
use Rattle.transfer.specs.Stores.{Buffers, ByteAt, Store, after, bytes_from, event_byte, byte_in, host_byte, image_byte, up_to, with, worth}
use Rattle.transfer.specs.Targets.{Stored}

-- ---- bytes in a row

-- Numbers stored in host memory one after the other, from an index on, stand there in their order; nothing else is changed.
pub host_bytes_stored :
    (ns : List ℕ) (at : ℕ) (m : Buffers) →
    after (bytes_from host_byte at ns) m ≡ record { host = sets m.host at ns; image = m.image; events = m.events }
unfolding after bytes_from
host_bytes_stored [] at m = refl
host_bytes_stored (n ∷ ns) at m = rw add-one (host_bytes_stored ns (suc at) (with m (host_byte at) n))

-- The like in the event buffer.
pub event_bytes_stored :
    (ns : List ℕ) (at : ℕ) (m : Buffers) →
    after (bytes_from event_byte at ns) m ≡ record { host = m.host; image = m.image; events = sets m.events at ns }
unfolding after bytes_from
event_bytes_stored [] at m = refl
event_bytes_stored (n ∷ ns) at m = rw add-one (event_bytes_stored ns (suc at) (with m (event_byte at) n))

-- ---- what stays

-- Stores change no buffer's length.
pub lengths_stay :
    (ss : List Store) (m : Buffers) →
    (length (after ss m).host ≡ length m.host) ×
    ((length (after ss m).image ≡ length m.image) × (length (after ss m).events ≡ length m.events))
unfolding after
lengths_stay [] m = (refl, (refl, refl))
lengths_stay (s ∷ ss) m = by_cell s.to (lengths_stay ss (with m s.to (worth m s.value)))
  where
    n : ℕ
    n = worth m s.value

    by_cell :
        (c : ByteAt) →
        (length (after ss (with m c n)).host ≡ length (with m c n).host) ×
        ((length (after ss (with m c n)).image ≡ length (with m c n).image) ×
        (length (after ss (with m c n)).events ≡ length (with m c n).events)) →
        (length (after ss (with m c n)).host ≡ length m.host) ×
        ((length (after ss (with m c n)).image ≡ length m.image) ×
        (length (after ss (with m c n)).events ≡ length m.events))
    by_cell (host_byte x) rest = (rest.0 ∙ length-set m.host x n, rest.1)
    by_cell (image_byte x) rest = (rest.0, (rest.1.0 ∙ length-set m.image x n, rest.1.1))
    by_cell (event_byte x) rest = (rest.0, (rest.1.0, rest.1.1 ∙ length-set m.events x n))

-- A store leaves every other cell as it was.
pub other_stays : (m : Buffers) (c d : ByteAt) (n : ℕ) → (c ≡ d → ⊥) → byte_in (with m c n) d ≡ byte_in m d
other_stays m (host_byte x) (host_byte y) n apart = get_or-set_other m.host x y n 0 (λ same. apart (ap host_byte (sym same)))
other_stays m (host_byte x) (image_byte y) n apart = refl
other_stays m (host_byte x) (event_byte y) n apart = refl
other_stays m (image_byte x) (host_byte y) n apart = refl
other_stays m (image_byte x) (image_byte y) n apart = get_or-set_other m.image x y n 0 (λ same. apart (ap image_byte (sym same)))
other_stays m (image_byte x) (event_byte y) n apart = refl
other_stays m (event_byte x) (host_byte y) n apart = refl
other_stays m (event_byte x) (image_byte y) n apart = refl
other_stays m (event_byte x) (event_byte y) n apart = get_or-set_other m.events x y n 0 (λ same. apart (ap event_byte (sym same)))

-- A cell that no store of a list has as its target is as it was.
pub unstored_stays : (ss : List Store) (m : Buffers) (c : ByteAt) → (Stored ss c → ⊥) → byte_in (after ss m) c ≡ byte_in m c
unfolding after Stored
unstored_stays [] m c none = refl
unstored_stays (s ∷ ss) m c none =
    unstored_stays ss (with m s.to (worth m s.value)) c (λ later. none (inr later))
    ∙ other_stays m s.to c (worth m s.value) (λ here. none (inl here))

-- A buffer of which no byte is a target is as it was.
pub host_stays : (ss : List Store) (m : Buffers) → ((x : ℕ) → Stored ss (host_byte x) → ⊥) → (after ss m).host ≡ m.host
host_stays ss m none =
    ext_get_or 0 (after ss m).host m.host (lengths_stay ss m).0 (λ x h. unstored_stays ss m (host_byte x) (none x))

pub image_stays : (ss : List Store) (m : Buffers) → ((x : ℕ) → Stored ss (image_byte x) → ⊥) → (after ss m).image ≡ m.image
image_stays ss m none =
    ext_get_or 0 (after ss m).image m.image (lengths_stay ss m).1.0 (λ x h. unstored_stays ss m (image_byte x) (none x))

pub events_stay : (ss : List Store) (m : Buffers) → ((x : ℕ) → Stored ss (event_byte x) → ⊥) → (after ss m).events ≡ m.events
events_stay ss m none =
    ext_get_or 0 (after ss m).events m.events (lengths_stay ss m).1.1 (λ x h. unstored_stays ss m (event_byte x) (none x))

-- ---- what is a target

-- A target of two lists in a row is one of the first or one of the second, and the other way round.
pub stored_of_append : (xs ys : List Store) (c : ByteAt) → Stored (xs ++ ys) c → Stored xs c ⊎ Stored ys c
unfolding Stored
stored_of_append [] ys c there = inr there
stored_of_append (x ∷ xs) ys c (inl here) = inl (inl here)
stored_of_append (x ∷ xs) ys c (inr there) = ⊎_elim (λ l. inl (inr l)) (λ r. inr r) (stored_of_append xs ys c there)

pub append_stored : (xs ys : List Store) (c : ByteAt) → Stored xs c ⊎ Stored ys c → Stored (xs ++ ys) c
unfolding Stored
append_stored [] ys c (inl none) = absurd none
append_stored [] ys c (inr there) = there
append_stored (x ∷ xs) ys c (inl (inl here)) = inl here
append_stored (x ∷ xs) ys c (inl (inr there)) = inr (append_stored xs ys c (inl there))
append_stored (x ∷ xs) ys c (inr there) = inr (append_stored xs ys c (inr there))

-- A target of the stores 0 to n - 1 of a sequence is that of one of them, and the other way round.
pub stored_of_up_to :
    (n : ℕ) (s : ℕ → Store) (c : ByteAt) → Stored (up_to n s) c → (k : ℕ) × ((k < n) × ((s k).to ≡ c))
unfolding Stored up_to
stored_of_up_to zero s c none = absurd none
stored_of_up_to (suc n) s c there =
    ⊎_elim (λ before. let k = stored_of_up_to n s c before in (k.0, (omega (arith, k.1.0), k.1.1)))
    (λ last. ⊎_elim (λ here. (n, (omega arith, here))) (λ none. absurd none) last)
    (stored_of_append (up_to n s) (s n ∷ []) c there)

pub up_to_stored :
    (n : ℕ) (s : ℕ → Store) (c : ByteAt) → (k : ℕ) × ((k < n) × ((s k).to ≡ c)) → Stored (up_to n s) c
unfolding Stored up_to
up_to_stored zero s c k = absurd (omega (arith, k.1.0))
up_to_stored (suc n) s c k =
    append_stored (up_to n s) (s n ∷ []) c
    (by_cases (ℕ_discrete k.0 n) (λ last. inr (inl (rw last at k.1.1)))
    (λ before. inl (up_to_stored n s c (k.0, (omega (arith, before, k.1.0), k.1.1)))))

-- A target of bytes stored from an index on is one of as many bytes from there, and the other way round.
pub stored_of_bytes :
    (cell : ℕ → ByteAt) (at : ℕ) (ns : List ℕ) (c : ByteAt) →
    Stored (bytes_from cell at ns) c → (x : ℕ) × (Among at (length ns) x × (c ≡ cell x))
unfolding Stored bytes_from
stored_of_bytes cell at [] c none = absurd none
stored_of_bytes cell at (n ∷ ns) c (inl here) = (at, ((omega arith, omega arith), sym here))
stored_of_bytes cell at (n ∷ ns) c (inr there) =
    let x = stored_of_bytes cell (at + 1) ns c there in
    (x.0, ((omega (arith, x.1.0), omega (arith, x.1.0)), x.1.1))

pub bytes_stored :
    (cell : ℕ → ByteAt) (at : ℕ) (ns : List ℕ) (c : ByteAt) →
    (x : ℕ) × (Among at (length ns) x × (c ≡ cell x)) → Stored (bytes_from cell at ns) c
unfolding Stored bytes_from
bytes_stored cell at [] c x = absurd (omega (arith, x.1.0))
bytes_stored cell at (n ∷ ns) c x =
    by_cases (ℕ_discrete at x.0) (λ here. inl (ap cell here ∙ sym x.1.1))
    (λ on. inr (bytes_stored cell (at + 1) ns c (x.0, ((omega (arith, on, x.1.0), omega (arith, x.1.0)), x.1.1))))
