-- Each promise of this crate leaves one outcome: the result, and of a lent slice every byte.
-- Each is an equation with a definition, so two outcomes are equal to the same thing.
use mathlib.Core.Path.{◌≡◌, ◌∙◌, sym}
use Rattle.wire.specs.Promise.{OneOutcome, OneResult}
use Rattle.iopb.specs.declared.Block.{Block}
use Rattle.transfer.specs.Stores.{Buffers}
use Rattle.block.specs.declared.BlockTold.{BlockTold}
use Rattle.unit.specs.Standing.{UnitRecord}
use Rattle.block.specs.Block.{Effect}
use Rattle.block.specs.Steps.{Did, three}
use Rattle.block.proofs.events.put_event.Reads as put-event
use Rattle.block.proofs.events.travel.Reads as travel
use Rattle.block.proofs.run_block.Reads as run-block

travel_once : OneResult travel.Post
travel_once κ a x y e f p q = p ∙ sym q

put_event_once : OneOutcome put-event.Post (λ κ x e. e.0.now)
put_event_once κ a x y e f p q = p ∙ sym q

-- What a caller of a block sees: what it tells, every byte of the three buffers, and the unit.
record Seen : Type 0 where
  told : BlockTold
  buffers : Buffers
  unit : UnitRecord

seen_of : BlockTold → Buffers → UnitRecord → Seen
seen_of d m u = record { told = d; buffers = m; unit = u }

did_once :
    (b : Block) (e : Effect) (m v w : Buffers) (t u : UnitRecord) (c d : BlockTold) → Did b e m v t c → Did b e m w u d → seen_of c v t ≡ seen_of d w u
unfolding seen_of
did_once b e m v w t u c d p q = λ i.
    record {
      told = (p.result ∙ sym q.result) i;
      buffers = (p.stored ∙ sym q.stored) i;
      unit = (p.unit ∙ sym q.unit) i;
    }

run_block_once :
    OneOutcome run-block.Post
    (λ κ x e. seen_of x (three e.0.now e.1.0.now e.1.1.0.now) e.1.1.1.1.0.now)
run_block_once κ a x y e f p q = did_once _ _ _ _ _ _ _ x y p q
