-- The drive has a track where its first sector has a place.
-- Which it has is of no matter.
use mathlib.Core.Path.{sym, ◌∙◌}
use Rattle.geometry.proofs.Answers.{at_placed, no_place}
use Rattle.judge.proofs.Passing.{says_some}
use Rattle.judge.proofs.has_track.Goals as goal

pub returns : goal.returns
returns c =
    let place = rw c.geometry.ensures at c.place.ensures in
    rw c.is_some.ensures
    (says_some _ _ (λ p is. (at_placed _ _ _ (sym place ∙ is)).0) (λ is. no_place _ _ (sym place ∙ is)))
