-- What is said of a unit's table of bad tracks: what an 85 does (02, K5), which tables the commands reach, and which sectors a block names and which
-- bytes it touches (02, K7).
use Rattle.std.specs.Prelude.{ℕ, ◌+◌, ◌<◌, pos, ◌++◌, ◌≡◌, Some, Ok}
use Rattle.geometry.specs.declared.Address.{Address}
use Rattle.geometry.specs.declared.Geometry.{Geometry}
use Rattle.geometry.specs.Drive.{C, S}
use Rattle.geometry.specs.Limits.{Within}
use Rattle.geometry.specs.SectorBytes.{SectorByte}
use Rattle.geometry.specs.Sectors.{address, address_of}
use Rattle.request.specs.declared.Move.{Move}
use Rattle.request.specs.declared.Pair.{Pair}
use Rattle.request.specs.declared.Task.{Task}
use Rattle.request.specs.declared.Track.{Track}
use Rattle.judge.specs.declared.Leaving.TheVariants.{Mapped}
use Rattle.judge.specs.Fits.{PairFits}
use Rattle.judge.specs.Given.{Asked, bad_number, spare_number, start_number}
use Rattle.judge.specs.Verdict.{verdict}
use Rattle.unit.specs.Holding.{Holder, reserved_by}
use Rattle.unit.specs.Standing.{UnitRecord, fresh, geometry, held_by, mapped, moved_to}
use Rattle.block.specs.Block.{begun, finish}
use Rattle.demands.specs.Footprint.{leaving_of, named_drive, transfer_by}
use Rattle.demands.specs.Visits.{Visit, block_of, effect_of}

-- A block adds a pair and, the holder apart, does nothing else: "85 moves neither data nor heads". It stores its word 1, twice, and its entry with
-- travel 0, and the record is the old one with a pair more, and the holder that RV says.
pub record AddsItsPair (v : Visit) (k : Pair) : Type 0 where
  pub ended : (effect_of v).answer ≡ Ok tt
  pub sectors : (effect_of v).sectors ≡ 0
  pub stores : (effect_of v).stores ≡ begun v.at ++ finish (block_of v) v.at v.index (Ok tt) (pos 0)
  pub unit :
      (effect_of v).unit ≡
      held_by (mapped (named_drive v).unit (bad_number k) (spare_number k)) (reserved_by v.world.controller (block_of v).options.reserve)

-- An 85 that succeeds: a pair is added.
abbrev pub Maps : Asked → Type 0
Maps a = (bad : ℕ) × ((spare : ℕ) × (leaving_of (verdict a) ≡ Mapped bad spare))

-- A record with a "table reached by the commands" (02, K7): an 87 that succeeds clears the table, an 85 adds a pair that its checks let through, and
-- what moves the heads, or takes or gives up the drive, leaves the table. Every block and every run is proved to stay among these. A record that a
-- caller hands in with a good table need not be one; unit's no_two_in_one_place speaks of it too.
pub data ReachedByCommands : UnitRecord → Type 0 where
  by_87 : (g : Geometry) → Within g → ReachedByCommands (fresh g)
  by_85 : (u : UnitRecord) (bad spare : ℕ) → ReachedByCommands u → PairFits u bad spare → ReachedByCommands (mapped u bad spare)
  heads_moved : (u : UnitRecord) (c : ℕ) → ReachedByCommands u → c < C (geometry u) → ReachedByCommands (moved_to u c)
  holder_changed : (u : UnitRecord) (h : Holder) → ReachedByCommands u → ReachedByCommands (held_by u h)

-- The sectors that a block names, by their addresses: of a read or a write the numbers of its volume from where it begins on, as many as it
-- counts; of a format those of its track. Commands that move no data name none here, though 8A has an address and 85 two tracks.
pub data NamesSector (a : Asked) : Address → Type 0 where
  by_number :
      (m : Move) → a.task ≡ Task.Move m → (n : ℕ) → start_number (geometry a.unit) m.target.volume m.target.start ≡ Some n → (j : ℕ) → j < m.count →
      NamesSector a (address_of (geometry a.unit) m.target.volume (n + j))
  on_its_track :
      (k : Track) → a.task ≡ Task.Format k → (j : ℕ) → j < S (geometry a.unit) → NamesSector a (address k.cylinder k.head j)

-- A byte of the image that a block may touch: of a sector of its transfer, or that sector's mark, whether a read stops before it or not.
pub record Touches (a : Asked) (x : ℕ) : Type 0 where
  pub sector : ℕ
  pub less : sector < (transfer_by a).count
  pub byte : SectorByte (geometry a.unit) ((transfer_by a).place sector) x
