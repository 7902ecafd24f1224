-- Each promise of this crate leaves one outcome: the result, and of a lent slice every byte.
-- Each is an equation with a definition, so two outcomes are equal to the same thing.
use Rattle.std.proofs.Common.{None, Option, Some}
use Prim.Native.Nat.{ℕ}
use mathlib.Core.List.{List}
use mathlib.Core.Path.{◌≡◌, ◌∙◌, sym}
use Rattle.wire.specs.Promise.{OneOutcome, OneResult}
use Rattle.unit.specs.declared.Controller.TheVariants.{First}
use Rattle.iopb.specs.declared.Block.{Block}
use Rattle.iopb.specs.Layout.{block_at}
use Rattle.block.specs.Block.{Effect}
use Rattle.board.specs.declared.Units.{Units}
use Rattle.board.specs.declared.chain.Outcome.{Outcome}
use Rattle.board.specs.declared.chain.Stepped.{Stepped}
use Rattle.board.specs.Chain.{Ending}
use Rattle.board.specs.Run.{CameTo, units_of, world_of}
use Rattle.board.specs.Steps.{RanOne, SteppedTo}
use Rattle.board.specs.World.{World, effect_at, world_after}
use Rattle.board.proofs.chain.run.Reads as run
use Rattle.board.proofs.chain.run_one.Reads as run-one
use Rattle.board.proofs.inspection.inspect.Reads as inspect
use Rattle.board.proofs.inspection.part_of.Reads as part_of

part_of_once : OneResult part_of.Post
part_of_once κ a x y e f p q = p ∙ sym q

-- The part that is handed back, by its bytes and by where it lies.
inspect_once : OneOutcome {Seen = List ℕ × (ℕ × ℕ)} inspect.Post (λ κ x e. (x.now, x.ref_ptr))
inspect_once κ a x y e f p q = λ i. ((p.0 ∙ sym q.0) i, (p.1 ∙ sym q.1) i)

-- What a caller of a run sees: the result, every byte of the four buffers, and the two units.
record Seen (R : Type 0) : Type 0 where
  result : R
  host : List ℕ
  image0 : List ℕ
  image1 : List ℕ
  events : List ℕ
  units : Units

seen_of : {R : Type 0} → R → World → Seen R
seen_of r w = record { result = r; host = w.host; image0 = w.drive0.image; image1 = w.drive1.image; events = w.events; units = units_of w }

came_once : (d : Ending) (v w : World) (r s : Outcome) → CameTo d v r → CameTo d w s → seen_of r v ≡ seen_of s w
unfolding seen_of
came_once d v w r s p q = λ i. seen_of ((p.result ∙ sym q.result) i) ((p.world ∙ sym q.world) i)

run_once :
    OneOutcome run.Post
    (λ κ x e. seen_of x (world_of First e.0.now e.1.0.now e.1.1.0.now e.1.1.1.0.now e.1.1.1.1.0.now))
unfolding seen_of
run_once κ a x y e f p q = came_once _ _ _ x y p q

-- The same of a block alone, and what it tells of the world that it leaves.
told : Block → Effect → Stepped
told b e = record { answer = e.answer; sectors = e.sectors; linked = b.options.link; link = b.link }

module _ (w : World) (at i : ℕ) where
  ran_one_is :
      (v : World) (s : Stepped) → SteppedTo w at i v s →
      seen_of (Some s) v ≡ seen_of (Some (told (block_at w.host at) (effect_at at i w))) (world_after at i w)
  unfolding seen_of told
  ran_one_is v s p =
      λ t. seen_of (Some (record { answer = p.answer t; sectors = p.sectors t; linked = p.linked t; link = p.link t })) (p.world t)

  one_once :
      (r s : Option Stepped) (h i0 i1 e : List ℕ) (u : Units) (h' i0' i1' e' : List ℕ) (u' : Units) → RanOne w at i h i0 i1 e u r → RanOne w at i h' i0' i1' e' u' s →
      seen_of r (world_of w.controller h i0 i1 e u) ≡ seen_of s (world_of w.controller h' i0' i1' e' u')
  unfolding seen_of
  one_once (Some r) (Some s) h i0 i1 e u h' i0' i1' e' u' p q = ran_one_is _ r p.1 ∙ sym (ran_one_is _ s q.1)
  one_once (Some r) None h i0 i1 e u h' i0' i1' e' u' p q = absurd (q.0 p.0)
  one_once None (Some s) h i0 i1 e u h' i0' i1' e' u' p q = absurd (p.0 q.0)
  one_once None None h i0 i1 e u h' i0' i1' e' u' p q =
      let same = p.1 ∙ sym q.1 in
      λ t. seen_of None (same t)

run_one_once :
    OneOutcome run-one.Post
    (λ κ x e. seen_of x (world_of First e.0.now e.1.0.now e.1.1.0.now e.1.1.1.0.now e.1.1.1.1.0.now))
unfolding seen_of
run_one_once κ a x y e f p q = one_once _ _ _ x y _ _ _ _ _ _ _ _ _ _ p q
