-- What two reads in a row take of known bytes, the second into the buffer after what the first read.
use Rattle.std.proofs.Common.{◌≡◌, ℕ, ◌+◌, ◌≤◌, List, ◌++◌, length, take, ap, ◌∙◌, append_assoc, drop_at, le_refl, length-take-le}
use Rattle.std.proofs.lemmas.Slice.{take-put_mid_below}
use Rattle.std.specs.Io.KnownBytes.{Consumes}
use Rattle.std.specs.Prelude.{Option, None, Some}
use borrow.Rule.Slice.PartMut.{put_mid, post_of}
use lib.Seq.{take-add, take-append-le}

consumes_both :
    (old mid new : Option (List ℕ)) (first second : List ℕ) →
    Consumes old mid first → Consumes mid new second → Consumes old new (first ++ second)
consumes_both None mid new first second c d = tt
consumes_both (Some xs) None new first second c d = absurd c
consumes_both (Some xs) (Some ys) None first second c d = absurd d
consumes_both (Some xs) (Some ys) (Some zs) first second c d = rw (c, d, append_assoc)

-- The buffer's front after a read into what lies after it.
pub part_after :
    (at room n : ℕ) (buffer part : List ℕ) → at ≤ length buffer → n ≤ length part →
    take (at + n) (put_mid at room buffer part) ≡ take at buffer ++ take n part
part_after at room n buffer part within fits =
    let after = post_of at room buffer in
    let front : take at (put_mid at room buffer part) ≡ take at buffer = take-put_mid_below at room buffer part at (le_refl at) within in
    let rest = ap (take n) (drop_at (take at buffer) (part ++ after) at (length-take-le at buffer within)) ∙ take-append-le n part after fits in
    take-add at n (put_mid at room buffer part) ∙ (λ i. front i ++ rest i)

-- Both.
pub reads_on :
    (old mid new : Option (List ℕ)) (at room n : ℕ) (buffer part : List ℕ) → at ≤ length buffer → n ≤ length part →
    Consumes old mid (take at buffer) → Consumes mid new (take n part) →
    Consumes old new (take (at + n) (put_mid at room buffer part))
reads_on old mid new at room n buffer part within fits c d =
    rw (part_after at room n buffer part within fits) (consumes_both old mid new (take at buffer) (take n part) c d)
