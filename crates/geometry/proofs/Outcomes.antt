-- Each promise of this crate leaves one result, read off the contracts as the source states them.
-- Each is an equation with a definition, or an answer about a statement, which is true in one case and false in the other.
use mathlib.Core.Path.{◌∙◌, sym}
use Rattle.wire.specs.Promise.{OneResult}
use Rattle.wire.proofs.Promises.{says_once}
use Rattle.geometry.proofs.Geometry.address.Reads as address
use Rattle.geometry.proofs.Geometry.by_head.Reads as by-head
use Rattle.geometry.proofs.Geometry.bytes_a_sector.Reads as bytes-a-sector
use Rattle.geometry.proofs.Geometry.cylinders.Reads as cylinders
use Rattle.geometry.proofs.Geometry.default.Reads as default
use Rattle.geometry.proofs.Geometry.drive_sectors.Reads as drive-sectors
use Rattle.geometry.proofs.Geometry.heads.Reads as heads
use Rattle.geometry.proofs.Geometry.is_within.Reads as is_Within
use Rattle.geometry.proofs.Geometry.marks_at.Reads as marks-at
use Rattle.geometry.proofs.Geometry.need.Reads as need
use Rattle.geometry.proofs.Geometry.new.Reads as new
use Rattle.geometry.proofs.Geometry.number.Reads as number
use Rattle.geometry.proofs.Geometry.place.Reads as place
use Rattle.geometry.proofs.Geometry.same.Reads as same
use Rattle.geometry.proofs.Geometry.sector.Reads as sector
use Rattle.geometry.proofs.Geometry.sectors_a_track.Reads as sectors-a-track
use Rattle.geometry.proofs.Geometry.volume.Reads as volume
use Rattle.geometry.proofs.Geometry.volume_sectors.Reads as volume-sectors
use Rattle.geometry.proofs.Geometry.with_increment.Reads as with-increment
use Rattle.geometry.proofs.Volume.heads.Reads as volume-heads
use Rattle.geometry.proofs.Volume.is_present.Reads as volume-is-present
use Rattle.geometry.proofs.Volume.new.Reads as volume-new
use Rattle.geometry.proofs.Volume.same.Reads as volume-same
use Rattle.geometry.proofs.Volume.start_head.Reads as volume-start-head

address_once : OneResult address.Post
address_once κ a x y e f p q = p ∙ sym q

by_head_once : OneResult by-head.Post
by_head_once κ a x y e f p q = p ∙ sym q

bytes_a_sector_once : OneResult bytes-a-sector.Post
bytes_a_sector_once κ a x y e f p q = p ∙ sym q

cylinders_once : OneResult cylinders.Post
cylinders_once κ a x y e f p q = p ∙ sym q

default_once : OneResult default.Post
default_once κ a x y e f p q = p ∙ sym q

drive_sectors_once : OneResult drive-sectors.Post
drive_sectors_once κ a x y e f p q = p.0 ∙ sym q.0

heads_once : OneResult heads.Post
heads_once κ a x y e f p q = p ∙ sym q

is_within_once : OneResult is_Within.Post
is_within_once κ a x y e f p q = says_once x y _ p q

marks_at_once : OneResult marks-at.Post
marks_at_once κ a x y e f p q = p ∙ sym q

need_once : OneResult need.Post
need_once κ a x y e f p q = p ∙ sym q

new_once : OneResult new.Post
new_once κ a x y e f p q = p ∙ sym q

number_once : OneResult number.Post
number_once κ a x y e f p q = p ∙ sym q

place_once : OneResult place.Post
place_once κ a x y e f p q = p ∙ sym q

same_once : OneResult same.Post
same_once κ a x y e f p q = says_once x y _ p q

sector_once : OneResult sector.Post
sector_once κ a x y e f p q = p ∙ sym q

sectors_a_track_once : OneResult sectors-a-track.Post
sectors_a_track_once κ a x y e f p q = p ∙ sym q

volume_once : OneResult volume.Post
volume_once κ a x y e f p q = p ∙ sym q

volume_sectors_once : OneResult volume-sectors.Post
volume_sectors_once κ a x y e f p q = p ∙ sym q

with_increment_once : OneResult with-increment.Post
with_increment_once κ a x y e f p q = p ∙ sym q

volume_heads_once : OneResult volume-heads.Post
volume_heads_once κ a x y e f p q = p ∙ sym q

volume_is_present_once : OneResult volume-is-present.Post
volume_is_present_once κ a x y e f p q = says_once x y _ p q

volume_new_once : OneResult volume-new.Post
volume_new_once κ a x y e f p q = p ∙ sym q

volume_same_once : OneResult volume-same.Post
volume_same_once κ a x y e f p q = says_once x y _ p q

volume_start_head_once : OneResult volume-start-head.Post
volume_start_head_once κ a x y e f p q = p ∙ sym q
