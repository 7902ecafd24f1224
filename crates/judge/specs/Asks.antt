-- What each command is asked, in the order in which it is asked (01, Answer numbers; 02, K5 and K10): a list of checks for each. That the lists are the
-- paper's table is shown (Table and proofs/Table).
use Rattle.std.specs.Prelude.{ℕ, ◌*◌, ◌≤◌, ◌<◌, List, [], ◌∷◌, ◌≡◌, T, None, Some}
use Rattle.std.proofs.Math.Logic.Dec.{and as dec_and, not as dec_not}
use Rattle.std.proofs.Math.Decide.{dec_le, dec_lt, ℕ_discrete}
use Rattle.answers.specs.declared.Refusal.TheVariants.{CommandUnknown, NotInitialized, UibMisplaced, UibOutsideLimits, VolumeAbsent, CountZero, SectorOutside, ImageShort, ListBad, DataMisplaced, TracksTaken, TableFull, DriveHeld}
use Rattle.geometry.specs.declared.Geometry.{Geometry}
use Rattle.geometry.specs.declared.VolumeNumber.{VolumeNumber}
use Rattle.geometry.specs.Drive.{B, need, volume}
use Rattle.geometry.specs.Limits.{Present, Within}
use Rattle.geometry.specs.Sectors.{Covers, address}
use Rattle.geometry.proofs.Decided.{covers?, on_drive?, present?, within?}
use Rattle.memory.specs.Lists.{ListGood, Ranges}
use Rattle.memory.proofs.Decided.{list_good?, ranges?}
use Rattle.request.specs.declared.Buffer.{Buffer}
use Rattle.request.specs.declared.Buffer.TheVariants.{Piece, List as Elements}
use Rattle.request.specs.declared.Pair.{Pair}
use Rattle.request.specs.declared.Target.{Target}
use Rattle.request.specs.declared.Task.{Task}
use Rattle.request.specs.declared.Task.TheVariants.{Unknown, Move as Moves, Handshake, Initialize, Restore, Seek, Format, Map}
use Rattle.request.specs.declared.Track.{Track}
use Rattle.spares.specs.Table.{Free}
use Rattle.spares.proofs.Decided.{free?}
use Rattle.unit.specs.Holding.{held_by_other}
use Rattle.unit.specs.Standing.{CountsAsInitialized, geometry, holder, pairs, table}
use Rattle.unit.proofs.Decided.{counts?}
use Rattle.wire.proofs.Decided.{in_memory?, test?}
use Rattle.wire.specs.Memory.{InMemory}
use Rattle.judge.specs.Checks.{Check, always, check}
use Rattle.judge.specs.Given.{Asked, HasTrack, HasTracks, bad_number, spare_number, start_number}

module _ (a : Asked) where
  -- ---- the checks, each an answer with its case

  -- "A chain's block for a drive held by the other controller is refused at once" (02, K10)
  abbrev pub drive_held : Check
  drive_held =
      let held = held_by_other a.controller (holder a.unit) in
      check DriveHeld (T held) (test? held)

  -- "unit not initialized"
  abbrev pub not_initialized : Check
  not_initialized = check NotInitialized (CountsAsInitialized a.unit → ⊥) (dec_not (counts? a.unit))

  -- "UIB outside the geometry's limits"
  abbrev pub uib_outside_limits : Geometry → Check
  uib_outside_limits g = check UibOutsideLimits (Within g → ⊥) (dec_not (within? g))

  -- "volume absent"
  abbrev pub volume_absent : VolumeNumber → Check
  volume_absent v =
      check VolumeAbsent (Present (volume (geometry a.unit) v) → ⊥) (dec_not (present? (volume (geometry a.unit) v)))

  -- "count 0"
  abbrev pub count_zero : ℕ → Check
  count_zero count = check CountZero (count ≡ 0) (ℕ_discrete count 0)

  -- "first sector outside the volume, or the last; .. 8A: the one address only"
  abbrev pub sector_outside : Target → ℕ → Check
  sector_outside t count =
      let g = geometry a.unit in
      let begin = start_number g t.volume t.start in
      check SectorOutside (Covers g t.volume begin count → ⊥) (dec_not (covers? g t.volume begin count))

  -- "8C: track outside the drive"
  abbrev pub track_outside : Track → Check
  track_outside k =
      check SectorOutside (HasTrack a.unit k.cylinder k.head → ⊥)
      (dec_not (on_drive? (geometry a.unit) (address k.cylinder k.head 0)))

  -- 85: "16 (either track)" (02, K5)
  abbrev pub tracks_outside : Pair → Check
  tracks_outside k =
      let g = geometry a.unit in
      check SectorOutside (HasTracks a.unit k → ⊥)
      (dec_not
      (dec_and (on_drive? g (address k.bad_cylinder k.bad_head 0)) (on_drive? g (address k.spare_cylinder k.spare_head 0))))

  -- "image shorter than the geometry needs"
  abbrev pub image_short : Check
  image_short = check ImageShort (a.image < need (geometry a.unit)) (dec_lt a.image (need (geometry a.unit)))

  -- "list: 0 or over 64 elements, .. or the sum not count × B"
  abbrev pub list_bad : ℕ → ℕ → ℕ → Check
  list_bad at n bytes = check ListBad (ListGood a.host at n bytes → ⊥) (dec_not (list_good? a.host at n bytes))

  -- "a data address odd or its range not in host memory", of one range and of a list's
  abbrev pub data_misplaced : ℕ → ℕ → Check
  data_misplaced at bytes = check DataMisplaced (InMemory a.host at bytes → ⊥) (dec_not (in_memory? a.host at bytes))

  abbrev pub element_misplaced : ℕ → ℕ → Check
  element_misplaced at n = check DataMisplaced (Ranges a.host at n → ⊥) (dec_not (ranges? a.host at n))

  -- "the tracks are equal or either is in the table already" (02, K5)
  abbrev pub tracks_taken : Pair → Check
  tracks_taken k =
      let u = a.unit in
      check TracksTaken (Free (pairs u) (table u) (bad_number k) (spare_number k) → ⊥)
      (dec_not (free? (pairs u) (table u) (bad_number k) (spare_number k)))

  -- "32 pairs stand" (02, K5)
  abbrev pub table_full : Check
  table_full = check TableFull (32 ≤ pairs a.unit) (dec_le 32 (pairs a.unit))

  -- ---- what is asked, in order

  -- What is asked of a buffer for so many bytes, which may be a list.
  abbrev pub of_buffer : Buffer → ℕ → List Check
  of_buffer (Piece at) bytes = data_misplaced at bytes ∷ []
  of_buffer (Elements at n) bytes = list_bad at n bytes ∷ element_misplaced at n ∷ []

  -- What each command is asked. 24 is asked "directly after 10", and "not for 86" (02, K10).
  abbrev pub checks_of : Task → List Check
  -- "command not listed": what is not listed asks for nothing that is known
  checks_of Unknown = always CommandUnknown ∷ []
  checks_of (Moves m) =
      drive_held ∷ not_initialized ∷ volume_absent m.target.volume ∷ count_zero m.count ∷ sector_outside m.target m.count ∷ image_short ∷
      of_buffer m.buffer (m.count * B (geometry a.unit))
  checks_of Handshake = []
  -- "UIB address odd or UIB not wholly in host memory", which the shape of a request says (iopb, shape_at)
  checks_of (Initialize None) = drive_held ∷ always UibMisplaced ∷ []
  checks_of (Initialize (Some g)) = drive_held ∷ uib_outside_limits g ∷ []
  checks_of Restore = drive_held ∷ not_initialized ∷ []
  checks_of (Seek t) = drive_held ∷ not_initialized ∷ volume_absent t.volume ∷ sector_outside t 1 ∷ []
  checks_of (Format k) = drive_held ∷ not_initialized ∷ track_outside k ∷ image_short ∷ data_misplaced k.buffer (B (geometry a.unit)) ∷ []
  checks_of (Map k) = drive_held ∷ not_initialized ∷ tracks_outside k ∷ tracks_taken k ∷ table_full ∷ []
