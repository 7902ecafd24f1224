-- Each promise of this crate leaves one result, read off the contracts as the source states them.
-- Of a list's three cases no two can hold, and an element and the pieces are equations.
use mathlib.Core.Path.{◌≡◌, ◌∙◌, refl, sym}
use Prim.Native.Nat.{ℕ}
use mathlib.Core.List.{List}
use Rattle.wire.specs.Promise.{OneResult}
use Rattle.std.proofs.Common.{Result, Ok, Err}
use Rattle.memory.specs.declared.ListFault.{ListFault}
use Rattle.memory.specs.declared.ListFault.TheVariants.{Bad, RangeBad}
use Rattle.memory.specs.Scan.{Listing}
use Rattle.memory.proofs.copy_out.Reads as copy-out
use Rattle.memory.proofs.Element.read.Reads as element-read
use Rattle.memory.proofs.list.Reads as list

listing_once :
    (host : List ℕ) (at n bytes : ℕ) (x y : Result (Unit {0}) ListFault) → Listing host at n bytes x → Listing host at n bytes y → x ≡ y
listing_once host at n bytes (Err Bad) (Err Bad) p q = refl
listing_once host at n bytes (Err Bad) (Err RangeBad) p q = absurd (p q.0)
listing_once host at n bytes (Err Bad) (Ok _) p q = absurd (p q.0)
listing_once host at n bytes (Err RangeBad) (Err Bad) p q = absurd (q p.0)
listing_once host at n bytes (Err RangeBad) (Err RangeBad) p q = refl
listing_once host at n bytes (Err RangeBad) (Ok _) p q = absurd (p.1 q.1)
listing_once host at n bytes (Ok _) (Err Bad) p q = absurd (q p.0)
listing_once host at n bytes (Ok _) (Err RangeBad) p q = absurd (q.1 p.1)
listing_once host at n bytes (Ok _) (Ok _) p q = refl

list_once : OneResult list.Post
list_once κ a x y e f p q = listing_once _ _ _ _ x y p q

copy_out_once : OneResult copy-out.Post
copy_out_once κ a x y e f p q = p ∙ sym q

element_read_once : OneResult element-read.Post
element_read_once κ a x y e f p q = p ∙ sym q
