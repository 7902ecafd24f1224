-- What the functions of a chain promise, between the code and the definitions of Block and Chain.
use Rattle.std.specs.Prelude.{ℕ, zero, suc, ◌+◌, ◌*◌, ◌≤◌, List, ◌≡◌, length, None, Option, Some}
use Rattle.answers.specs.declared.RunAnswer.{RunAnswer}
use Rattle.wire.specs.Memory.{InMemory}
use Rattle.iopb.specs.Layout.{block_at}
use Rattle.block.specs.Steps.{Knows}
use Rattle.unit.specs.Standing.{UnitRecord}
use Rattle.board.specs.declared.Units.{Units}
use Rattle.board.specs.declared.chain.Count.{Count}
use Rattle.board.specs.declared.chain.Outcome.{Outcome}
use Rattle.board.specs.declared.chain.Learnt.{Learnt}
use Rattle.board.specs.declared.chain.Leg.{Leg}
use Rattle.board.specs.declared.chain.Went.{Went}
use Rattle.board.specs.declared.chain.Stepped.{Stepped}
use Rattle.block.specs.declared.BlockTold.{BlockTold}
use Rattle.board.specs.Ends.{end_of}
use Rattle.board.specs.Chain.{Ending, counted, fetched}
use Rattle.board.specs.World.{World, effect_at, world_after}
use Rattle.board.specs.Run.{world_of}

-- What a block told, as its caller goes by it.
abbrev pub stepped_of : BlockTold → Stepped
stepped_of t = record { answer = t.answer; sectors = t.sectors; linked = t.linked; link = t.link }

-- A block of a chain: the world after it, and what the chain goes by.
pub record SteppedTo (w : World) (at i : ℕ) (w' : World) (s : Stepped) : Type 0 where
  pub world : w' ≡ world_after at i w
  pub answer : s.answer ≡ (effect_at at i w).answer
  pub sectors : s.sectors ≡ (effect_at at i w).sectors
  pub linked : s.linked ≡ (block_at w.host at).options.link
  pub link : s.link ≡ (block_at w.host at).link

-- What a chain has learnt of the two units is so.
abbrev pub KnowsBoth : Learnt → (u0 u1 : UnitRecord) → Type 0
KnowsBoth l u0 u1 = Knows l.zero u0 × Knows l.one u1

pub record SteppedOn (w : World) (at i : ℕ) (w' : World) (s : Went) : Type 0 where
  pub to : SteppedTo w at i w' (stepped_of s.told)
  pub knows : KnowsBoth s.learnt w'.drive0.unit w'.drive1.unit

abbrev pub nothing_learnt : Learnt
nothing_learnt = record { zero = None; one = None }

-- A chain that has come to its end: what is returned, and the world. Along the chain the records are in the world alone.
pub record EndedIn (e : Ending) (w : World) (r : Outcome) : Type 0 where
  pub result : r ≡ end_of e
  pub world : w ≡ e.world

-- How a leg of a chain ended, with the address and the knowledge that the chain goes on with.
abbrev pub leg_of : Outcome → ℕ → Learnt → Leg
leg_of e at learnt = record { end = e; at = at; learnt = learnt }

-- What was counted up to an end.
abbrev pub count_of : Outcome → Count
count_of e = record { blocks = e.blocks; sectors = e.sectors }

-- The address that a chain comes to fetch once so much of its allowance is spent, where each block so far led to the next.
unfoldable pub next_at : ℕ → Count → ℕ → World → ℕ
next_at zero t at w = at
next_at (suc left) t at w =
    next_at left (counted t (effect_at at t.blocks w).sectors) (block_at w.host at).link (world_after at t.blocks w)

-- What a leg comes to: it ends so; where its allowance is spent the chain goes on from there; what it has learnt is so; and the sectors are no more
-- than so many blocks can move.
pub record WentOn (e : Ending) (there : ℕ) (w : World) (r : Leg) : Type 0 where
  pub ended : EndedIn e w r.end
  pub next : r.end.answer ≡ RunAnswer.AllowanceSpent → r.at ≡ there
  pub knows : KnowsBoth r.learnt w.drive0.unit w.drive1.unit
  pub sectors : r.end.sectors ≤ 65535 * r.end.blocks

-- A leg of a chain ends as the chain with that allowance does.
abbrev pub WentLeg : ℕ → Count → ℕ → (w w' : World) → Leg → Type 0
WentLeg left t at w w' r = WentOn (fetched left t at w) (next_at left t at w) w' r

-- The allowance is within what the event buffer and the counts can hold.
pub record Spare (events : List ℕ) (left : ℕ) (t : Count) : Type 0 where
  pub entries : 8 * (t.blocks + left) ≤ length events
  pub blocks : t.blocks + left ≤ 64
  pub sectors : t.sectors ≤ 65535 * t.blocks

-- A block alone: where it can be fetched and has room for its entry it is run, and elsewhere nothing is done.
pub record Fetchable (w : World) (at i : ℕ) : Type 0 where
  pub place : InMemory w.host at 28
  pub entry : 8 * i + 8 ≤ length w.events

abbrev pub RanOne : World → ℕ → ℕ → (host image0 image1 events : List ℕ) → Units → Option Stepped → Type 0
RanOne w at i host image0 image1 events units (Some s) =
    Fetchable w at i × SteppedTo w at i (world_of w.controller host image0 image1 events units) s
RanOne w at i host image0 image1 events units None =
    (Fetchable w at i → ⊥) ×
    (world_of w.controller host image0 image1 events units ≡ w)
