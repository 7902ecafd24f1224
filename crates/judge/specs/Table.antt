-- The table of the block answers before transfer as the papers have it (01, Answer numbers; 02, K5 and K10): number, case and commands, of a block that
-- was fetched, in its own fields and in the bytes of host memory. Where a line of the paper has a case for each of several commands, it is several
-- lines here. The judge goes by lists of checks, one for each command (Asks); proofs/Table shows that a block gets the answer that stands here, and
-- no other.
use Rattle.std.specs.Prelude.{ℕ, ◌+◌, ◌-◌, ◌*◌, ◌/◌, ◌^◌, ◌≤◌, ◌<◌, Bool, true, false, cond, not, ◌||◌, List, [], ◌∷◌, ◌⊎◌, ◌≡◌, T, eqb}
use Rattle.answers.specs.declared.Refusal.{Refusal}
use Rattle.answers.specs.Numbers.{refusal_number}
use Rattle.geometry.specs.declared.Geometry.{Geometry}
use Rattle.geometry.specs.Drive.{B, need, volume, volume_sectors}
use Rattle.geometry.specs.Limits.{Present, Within}
use Rattle.geometry.specs.Following.{InVolume}
use Rattle.geometry.specs.Sectors.{OnDrive, address, number_of}
use Rattle.iopb.specs.declared.Block.{Block}
use Rattle.iopb.specs.Ask.{volume_asked}
use Rattle.iopb.specs.Layout.{uib_at}
use Rattle.memory.specs.Lists.{ListGood, Ranges}
use Rattle.spares.specs.Table.{Free}
use Rattle.spares.specs.Tracks.{track_number}
use Rattle.unit.specs.Holding.{held_by_other}
use Rattle.unit.specs.Standing.{CountsAsInitialized, geometry, holder, pairs, table}
use Rattle.wire.specs.Memory.{InMemory}
use Rattle.judge.specs.Given.{Asked}

-- A line: "No.", "Commands" and "Given when".
pub record Line : Type 1 where
  pub number : ℕ
  pub for : ℕ → Bool
  pub Given : Type 0

abbrev line : ℕ → (ℕ → Bool) → Type 0 → Line
line number for Given = record { number = number; for = for; Given = Given }

-- A command is one of some.
abbrev pub one_of : ℕ → List ℕ → Bool
one_of c [] = false
one_of c (x ∷ xs) = eqb c x || one_of c xs

abbrev these : List ℕ → ℕ → Bool
these commands c = one_of c commands

abbrev any : ℕ → Bool
any c = true

-- The commands that there are (01, What the board answers for; 02, K5).
abbrev pub listed : List ℕ
listed = 0x81 ∷ 0x82 ∷ 0x86 ∷ 0x87 ∷ 0x89 ∷ 0x8a ∷ 0x8c ∷ 0xa1 ∷ 0xa2 ∷ 0x85 ∷ []

-- A block, and what it is judged on: the controller that asks, its unit's record, the length of its image, and host memory.
module _ (b : Block) (a : Asked) where
  abbrev g : Geometry
  g = geometry a.unit

  -- "first sector outside the volume, or the last": neither is, of so many sectors from a number on.
  abbrev pub FromNumber : ℕ → ℕ → Type 0
  FromNumber first count = (first < volume_sectors g (volume_asked b)) × (first + (count - 1) < volume_sectors g (volume_asked b))

  -- The same from where the block begins: with XL at a logical number, and else at a physical address, which the volume has.
  abbrev pub FromStart : (logical : Bool) → ℕ → Type 0
  FromStart true count = FromNumber b.number count
  FromStart false count =
      InVolume g (volume_asked b) b.cylinder b.head b.sector × FromNumber (number_of g (volume_asked b) b.cylinder b.head b.sector) count

  abbrev pub SectorsThere : ℕ → Type 0
  SectorsThere count = FromStart b.options.logical count

  -- The drive has a track.
  abbrev pub TrackThere : (cylinder head : ℕ) → Type 0
  TrackThere c h = OnDrive g (address c h 0)

  -- 85 has the spare's cylinder in word 4, where others count, and its head in the upper byte of word 5, the first of an address.
  abbrev pub spare_head : ℕ
  spare_head = b.address / 2 ^ 24

  abbrev pub paper : List Line
  paper =
      -- "command not listed", for any
      line 10 any (T (not (one_of b.command listed))) ∷
      -- "drive held, directly after 10 and 31, not for 86" (02, K10)
      line 24 (these (0x81 ∷ 0x82 ∷ 0x87 ∷ 0x89 ∷ 0x8a ∷ 0x8c ∷ 0xa1 ∷ 0xa2 ∷ 0x85 ∷ [])) (T (held_by_other a.controller (holder a.unit))) ∷
      -- "unit not initialized"
      line 11 (these (0x81 ∷ 0x82 ∷ 0x89 ∷ 0x8a ∷ 0x8c ∷ 0xa1 ∷ 0xa2 ∷ 0x85 ∷ [])) (CountsAsInitialized a.unit → ⊥) ∷
      -- "UIB address odd or UIB not wholly in host memory": 18 bytes at words 5 and 6
      line 12 (these (0x87 ∷ [])) (InMemory a.host b.address 18 → ⊥) ∷
      -- "UIB outside the geometry's limits"
      line 13 (these (0x87 ∷ [])) (Within (uib_at a.host b.address) → ⊥) ∷
      -- "volume absent"
      line 14 (these (0x81 ∷ 0x82 ∷ 0x8a ∷ 0xa1 ∷ 0xa2 ∷ [])) (Present (volume g (volume_asked b)) → ⊥) ∷
      -- "count 0"
      line 15 (these (0x81 ∷ 0x82 ∷ 0xa1 ∷ 0xa2 ∷ [])) (b.count ≡ 0) ∷
      -- "first sector outside the volume, or the last"
      line 16 (these (0x81 ∷ 0x82 ∷ 0xa1 ∷ 0xa2 ∷ [])) (SectorsThere b.count → ⊥) ∷
      -- "8C: track outside the drive"
      line 16 (these (0x8c ∷ [])) (TrackThere b.cylinder b.head → ⊥) ∷
      -- "8A: the one address only"
      line 16 (these (0x8a ∷ [])) (SectorsThere 1 → ⊥) ∷
      -- 85: "either track" (02, K5)
      line 16 (these (0x85 ∷ [])) ((TrackThere b.cylinder b.head × TrackThere b.count spare_head) → ⊥) ∷
      -- "image shorter than the geometry needs"
      line 17 (these (0x81 ∷ 0x82 ∷ 0x8c ∷ 0xa1 ∷ 0xa2 ∷ [])) (a.image < need g) ∷
      -- "list: 0 or over 64 elements, .. or the sum not count × B"
      line 18 (these (0xa1 ∷ 0xa2 ∷ [])) (ListGood a.host b.address b.elements (b.count * B g) → ⊥) ∷
      -- "a data address odd or its range not in host memory": of 81 and 82, of 8C, and of each element of a list
      line 19 (these (0x81 ∷ 0x82 ∷ [])) (InMemory a.host b.address (b.count * B g) → ⊥) ∷
      line 19 (these (0x8c ∷ [])) (InMemory a.host b.address (B g) → ⊥) ∷
      line 19 (these (0xa1 ∷ 0xa2 ∷ [])) (Ranges a.host b.address b.elements → ⊥) ∷
      -- "the tracks are equal or either is in the table already" (02, K5)
      line 22 (these (0x85 ∷ []))
      (Free (pairs a.unit) (table a.unit) (track_number b.cylinder b.head) (track_number b.count spare_head) → ⊥) ∷
      -- "32 pairs stand" (02, K5)
      line 23 (these (0x85 ∷ [])) (32 ≤ pairs a.unit) ∷
      []

-- The lines before the first with a number.
abbrev pub lines_before : ℕ → List Line → List Line
lines_before n [] = []
lines_before n (l ∷ ls) = cond (eqb l.number n) [] (l ∷ lines_before n ls)

-- A line speaks to a command: it is for it, and its case is given.
abbrev pub Applies : ℕ → Line → Type 0
Applies command l = T (l.for command) × l.Given

-- "Block answers, in order": the number of the first line that applies to a command.
abbrev pub AnsweredWith : (number command : ℕ) → List Line → Type 0
AnsweredWith n c [] = ⊥
AnsweredWith n c (l ∷ ls) = (Applies c l × (l.number ≡ n)) ⊎ ((Applies c l → ⊥) × AnsweredWith n c ls)

-- No line applies.
abbrev pub Unanswered : (command : ℕ) → List Line → Type 0
Unanswered c [] = Unit {0}
Unanswered c (l ∷ ls) = (Applies c l → ⊥) × Unanswered c ls

-- An answer that refuses a block before its transfer: each of them does, but for 20, which stops a transfer. "For 10 to 19", and for 22 to 24 (02, K5 and
-- K10), "only the block's word 1 and its event entry change".
abbrev pub BeforeTransfer : Refusal → Type 0
BeforeTransfer r = refusal_number r ≡ 20 → ⊥
