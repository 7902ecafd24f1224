-- A block is a local step on its world: it is work that goes by what it reads.
-- Alike and Sources say so, and demands says that it writes what its stores have as targets.
use Prim.Native.Nat.{ℕ}
use mathlib.Core.Bool.{Bool}
use mathlib.Core.Path.{◌≡◌, refl, ap}
use lib.ListN.{get_or}
use Rattle.answers.specs.Numbers.{BlockAnswer}
use Rattle.demands.specs.Footprint.{ReadsHost, WritesHost, names}
use Rattle.demands.specs.Visits.{Visit, block_of, effect_of}
use Rattle.demands.proofs.Written.{host_written_exactly}
use Rattle.independence.specs.Local.{AgreeOn, Local}
use Rattle.independence.specs.Worlds.{byte, disk, worlds}
use Rattle.independence.proofs.Alike.{block_alike, effect_alike, names_alike, reads_alike}
use Rattle.independence.proofs.Sources.{sources_are_read}
use Rattle.independence.proofs.Works.{GoesAlike, Work, work_local, working}
use Rattle.board.specs.World.{World}

-- What a chain goes by after a block.
pub record Next : Type 0 where
  pub answer : BlockAnswer
  pub sectors : ℕ
  pub linked : Bool
  pub link : ℕ

module _ (at i : ℕ) where
  abbrev pub visit : World → Visit
  visit w = record { at = at; index = i; world = w }

  abbrev pub block : Work Next
  block =
      record {
        names = λ w. names (visit w);
        effect = λ w. effect_of (visit w);
        out = λ w.
            let v = visit w in
            record {
              answer = (effect_of v).answer;
              sectors = (effect_of v).sectors;
              linked = (block_of v).options.link;
              link = (block_of v).link;
            };
        Reads = λ w. ReadsHost (visit w);
        Writes = λ w. WritesHost (visit w);
      }

  alike : (w u : World) → AgreeOn worlds ((working block).Reads w) w u → GoesAlike block w u
  alike w u agree =
      let v = visit w in
      let bytes : (x : ℕ) → ReadsHost v x → get_or w.host x 0 ≡ get_or u.host x 0 = λ x read. agree.cells (byte x) read in
      let drive = agree.cells (disk (names v)) refl in
      let by = ap (λ p. p.0) agree.shape in
      let long = ap (λ p. p.1) agree.shape in
      let e = effect_alike v u by long bytes drive in
      let b = block_alike v u by long bytes drive in
      record {
        names = names_alike v u by long bytes drive;
        effect = e;
        out = λ i. record { answer = (e i).answer; sectors = (e i).sectors; linked = (b i).options.link; link = (b i).link };
        reads = reads_alike v u by long bytes drive;
      }

  pub block_is_local : Local worlds (working block)
  block_is_local =
      work_local block
      (record {
        alike = alike;
        sources = λ w. sources_are_read (visit w);
        written = λ w. host_written_exactly (visit w);
      })
