-- What a step says, by cases: without room, at the input's end, of a bad field and of a good one.
-- A decision that is known picks its side.
use Prim.Native.Nat.{ℕ, ◌+◌}
use mathlib.Core.List.{List, [], ◌∷◌}
use mathlib.Core.Logic.{if_neg, if_pos}
use mathlib.Core.Path.{◌≡◌, refl, ◌∙◌}
use native.Mathlib.Omega.{arith}
use lib.ListN.{length}
use Rattle.board.specs.declared.Units.{Units}
use Rattle.transcript.specs.declared.Next.{Next}
use Rattle.transcript.specs.declared.State.{State}
use Rattle.transcript.specs.Session.{Field, bytes_in, field?, heard, long_of, tag_of}
use Rattle.transcript.specs.Steps.{SessionLent, SessionRoom, closed, held_in, lent_of, room?, said_of, spoken, spoken_of, spoken_on, went}
use Rattle.transcript.specs.Text.{refusal_line}

-- Whether there is room does not go by the units.
pub room_with :
    {s : State} {host image0 image1 text : List ℕ} {units other : Units} →
    SessionRoom s (lent_of host image0 image1 text units) → SessionRoom s (lent_of host image0 image1 text other)
room_with r = record { host = r.host; image0 = r.image0; image1 = r.image1; text = r.text; at = r.at }

module _ (field : List ℕ) (s : State) (l : SessionLent) where
  pub no_room : (SessionRoom s l → ⊥) → spoken field s l ≡ spoken_of (said_of Next.NoRoom 0) l
  unfolding spoken
  no_room none = if_neg (room? s l) none _ _

  module _ (room : SessionRoom s l) where
    with_room : spoken field s l ≡ spoken_on field s l
    unfolding spoken
    with_room = if_pos (room? s l) room _ _

    pub at_the_end : length field ≡ 0 → spoken field s l ≡ closed [] l
    at_the_end none = with_room ∙ by_field field none
      where
        by_field : (field : List ℕ) → length field ≡ 0 → spoken_on field s l ≡ closed [] l
        by_field [] none = refl
        by_field (byte ∷ more) none = absurd (omega arith)

    pub refused : (length field ≡ 0 → ⊥) → (Field field → ⊥) → spoken field s l ≡ closed (refusal_line s.at) l
    refused some bad = with_room ∙ by_field field some bad
      where
        by_field : (field : List ℕ) → (length field ≡ 0 → ⊥) → (Field field → ⊥) → spoken_on field s l ≡ closed (refusal_line s.at) l
        by_field [] some bad = absurd (some refl)
        by_field (byte ∷ more) some bad = if_neg (field? (byte ∷ more)) bad _ _

    pub went_on :
        Field field → spoken field s l ≡ went (heard (held_in s l) (tag_of field) (bytes_in field)) (s.at + (3 + long_of field)) l
    went_on good = with_room ∙ by_field field good
      where
        by_field :
            (field : List ℕ) → Field field →
            spoken_on field s l ≡ went (heard (held_in s l) (tag_of field) (bytes_in field)) (s.at + (3 + long_of field)) l
        by_field [] good = absurd (omega (arith, good.whole))
        by_field (byte ∷ more) good = if_pos (field? (byte ∷ more)) good _ _
