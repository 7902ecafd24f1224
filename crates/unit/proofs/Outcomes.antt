-- Each promise of this crate leaves one result, read off the contracts as the source states them.
-- Each is an equation with a definition, or an answer about a statement, which is true in one case and false in the other.
use mathlib.Core.Path.{◌∙◌, sym}
use Rattle.wire.specs.Promise.{OneResult}
use Rattle.wire.proofs.Promises.{says_once}
use Rattle.unit.proofs.Controller.as_holder.Reads as as-holder
use Rattle.unit.proofs.Controller.reserves.Reads as reserves
use Rattle.unit.proofs.Controller.is_kept_out.Reads as is-kept-out
use Rattle.unit.proofs.holder_number.Reads as holder-number
use Rattle.unit.proofs.holder_of.Reads as holder-of
use Rattle.unit.proofs.Record.blank.Reads as blank
use Rattle.unit.proofs.Unit.counts_as_initialized.Reads as counts-as-initialized
use Rattle.unit.proofs.Record.cylinder.Reads as cylinder
use Rattle.unit.proofs.Record.fresh.Reads as fresh
use Rattle.unit.proofs.Record.geometry.Reads as geometry
use Rattle.unit.proofs.Record.held_by.Reads as held_by
use Rattle.unit.proofs.Record.holder.Reads as holder
use Rattle.unit.proofs.Record.initialized.Reads as initialized
use Rattle.unit.proofs.Unit.land.Reads as land
use Rattle.unit.proofs.Unit.land_at.Reads as land-at
use Rattle.unit.proofs.Unit.land_track.Reads as land-track
use Rattle.unit.proofs.Record.moved_to.Reads as moved_to
use Rattle.unit.proofs.Record.new.Reads as new
use Rattle.unit.proofs.Record.number.Reads as number
use Rattle.unit.proofs.Record.numbers.Reads as numbers
use Rattle.unit.proofs.Record.of_numbers.Reads as of-numbers
use Rattle.unit.proofs.Record.one_pair_more.Reads as one-pair-more
use Rattle.unit.proofs.Record.pairs.Reads as pairs
use Rattle.unit.proofs.Record.same.Reads as same
use Rattle.unit.proofs.Unit.blank.Reads as unit-blank
use Rattle.unit.proofs.Unit.cylinder.Reads as unit-cylinder
use Rattle.unit.proofs.Unit.geometry.Reads as unit-geometry
use Rattle.unit.proofs.Unit.holder.Reads as unit-holder
use Rattle.unit.proofs.Unit.pairs.Reads as unit-pairs

blank_once : OneResult blank.Post
blank_once κ a x y e f p q = p ∙ sym q

counts_as_initialized_once : OneResult counts-as-initialized.Post
counts_as_initialized_once κ a x y e f p q = says_once x y _ p q

cylinder_once : OneResult cylinder.Post
cylinder_once κ a x y e f p q = p ∙ sym q

fresh_once : OneResult fresh.Post
fresh_once κ a x y e f p q = p ∙ sym q

geometry_once : OneResult geometry.Post
geometry_once κ a x y e f p q = p ∙ sym q

initialized_once : OneResult initialized.Post
initialized_once κ a x y e f p q = p ∙ sym q

land_once : OneResult land.Post
land_once κ a x y e f p q = p ∙ sym q

land_at_once : OneResult land-at.Post
land_at_once κ a x y e f p q = p ∙ sym q

land_track_once : OneResult land-track.Post
land_track_once κ a x y e f p q = p ∙ sym q

moved_to_once : OneResult moved_to.Post
moved_to_once κ a x y e f p q = p ∙ sym q

new_once : OneResult new.Post
new_once κ a x y e f p q = p ∙ sym q

number_once : OneResult number.Post
number_once κ a x y e f p q = p ∙ sym q

same_once : OneResult same.Post
same_once κ a x y e f p q = says_once x y _ p q

pairs_once : OneResult pairs.Post
pairs_once κ a x y e f p q = p ∙ sym q

one_pair_more_once : OneResult one-pair-more.Post
one_pair_more_once κ a x y e f p q = p ∙ sym q

as_holder_once : OneResult as-holder.Post
as_holder_once κ a x y e f p q = p ∙ sym q

reserves_once : OneResult reserves.Post
reserves_once κ a x y e f p q = p ∙ sym q

is_other_than_once : OneResult is-kept-out.Post
is_other_than_once κ a x y e f p q = p ∙ sym q

holder_number_once : OneResult holder-number.Post
holder_number_once κ a x y e f p q = p ∙ sym q

of_once : OneResult holder-of.Post
of_once κ a x y e f p q = p ∙ sym q

held_by_once : OneResult held_by.Post
held_by_once κ a x y e f p q = p ∙ sym q

holder_once : OneResult holder.Post
holder_once κ a x y e f p q = p ∙ sym q

numbers_once : OneResult numbers.Post
numbers_once κ a x y e f p q = p.0 ∙ sym q.0

of_numbers_once : OneResult of-numbers.Post
of_numbers_once κ a x y e f p q = p ∙ sym q

unit_blank_once : OneResult unit-blank.Post
unit_blank_once κ a x y e f p q = p ∙ sym q

unit_cylinder_once : OneResult unit-cylinder.Post
unit_cylinder_once κ a x y e f p q = p ∙ sym q

unit_geometry_once : OneResult unit-geometry.Post
unit_geometry_once κ a x y e f p q = p ∙ sym q

unit_holder_once : OneResult unit-holder.Post
unit_holder_once κ a x y e f p q = p ∙ sym q

unit_pairs_once : OneResult unit-pairs.Post
unit_pairs_once κ a x y e f p q = p ∙ sym q
