-- Each promise of this crate leaves one outcome, read off the contracts as the source states them.
-- Each is an equation with a definition, or an answer about a statement, which is true in one case and false in the other.
use mathlib.Core.Path.{◌∙◌, sym}
use Rattle.wire.specs.Promise.{OneOutcome, OneResult}
use Rattle.wire.proofs.Promises.{says_once}
use Rattle.spares.proofs.add.Reads as add
use Rattle.spares.proofs.are_free.Reads as are-free
use Rattle.spares.proofs.in_room.Reads as in-room
use Rattle.spares.proofs.is_good.Reads as is-good
use Rattle.spares.proofs.is_in.Reads as is-in
use Rattle.spares.proofs.is_on_drive.Reads as is-on-drive
use Rattle.spares.proofs.number.Reads as number
use Rattle.spares.proofs.one_more.Reads as one_more
use Rattle.spares.proofs.serving.Reads as serving
use Rattle.spares.proofs.stands_for.Reads as stands-for

add_once : OneOutcome add.Post (λ κ x e. e.0.now)
add_once κ a x y e f p q = p ∙ sym q

are_free_once : OneResult are-free.Post
are_free_once κ a x y e f p q = says_once x y _ p q

in_room_once : OneResult in-room.Post
in_room_once κ a x y e f p q = p ∙ sym q

is_good_once : OneResult is-good.Post
is_good_once κ a x y e f p q = says_once x y _ p q

is_in_once : OneResult is-in.Post
is_in_once κ a x y e f p q = says_once x y _ p q

is_on_drive_once : OneResult is-on-drive.Post
is_on_drive_once κ a x y e f p q = says_once x y _ p q

number_once : OneResult number.Post
number_once κ a x y e f p q = p ∙ sym q

one_more_once : OneResult one_more.Post
one_more_once κ a x y e f p q = p ∙ sym q

serving_once : OneResult serving.Post
serving_once κ a x y e f p q = p ∙ sym q

stands_for_once : OneResult stands-for.Post
stands_for_once κ a x y e f p q = p ∙ sym q
