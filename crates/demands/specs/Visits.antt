-- The blocks that a chain fetches, in their order, each with the world as it stood when it was fetched. The theorems about a run
-- speak of these: which block was the last, what all of them read and wrote.
use Rattle.std.specs.Prelude.{ℕ, zero, suc, ◌+◌, ◌-◌, ◌*◌, ◌≤◌, ◌<◌, Bool, true, false, List, [], ◌∷◌, ◌++◌, ◌≡◌, ℤ, length, Err, Ok}
use Rattle.std.proofs.Math.Logic.{ite}
use Rattle.std.proofs.Math.Logic.Dec.{and as dec_and}
use Rattle.std.proofs.Math.Decide.{dec_le, map_dec}
use Rattle.answers.specs.Numbers.{BlockAnswer}
use Rattle.answers.specs.declared.Refusal.{Refusal}
use Rattle.answers.specs.declared.RunAnswer.{RunAnswer}
use Rattle.answers.specs.declared.RunAnswer.TheVariants.{Done, EventsShort, AllowanceBad, FirstBad, BlockFailed, LinkBad, AllowanceSpent}
use Rattle.answers.specs.RunNumbers.{block_number}
use Rattle.iopb.specs.declared.Block.{Block}
use Rattle.iopb.specs.Layout.{block_at}
use Rattle.wire.proofs.Decided.{in_memory?}
use Rattle.wire.specs.Memory.{InMemory}
use Rattle.transfer.specs.Stores.{Store, bytes_from, event_byte}
use Rattle.block.specs.Block.{Effect}
use Rattle.block.specs.Tells.{InRange}
use Rattle.block.specs.Events.{entry}
use Rattle.board.specs.Chain.{ran}
use Rattle.board.specs.World.{World, effect_at, world_after}

-- A block that was fetched: its address, how many were run before it, and the world before it.
pub record Visit : Type 0 where
  pub at : ℕ
  pub index : ℕ
  pub world : World

-- Its 28 bytes by what they mean, what it does, and the world that it leaves.
abbrev pub block_of : Visit → Block
block_of v = block_at v.world.host v.at

abbrev pub effect_of : Visit → Effect
effect_of v = effect_at v.at v.index v.world

abbrev pub world_left : Visit → World
world_left v = world_after v.at v.index v.world

-- A block's stores end with its entry, and the travel told there is in range.
pub record Travelled (v : Visit) : Type 0 where
  pub earlier : List Store
  pub answer : BlockAnswer
  pub travel : ℤ
  pub stores : (effect_of v).stores ≡ earlier ++ bytes_from event_byte (8 * v.index) (entry (block_of v) answer travel)
  pub within : InRange travel

-- "running it with LK set and status 80 leads to fetching the next"; "A failed block's link isn't followed".
abbrev pub onwards : BlockAnswer → Bool → List Visit → List Visit
onwards (Err r) link rest = []
onwards (Ok _) false rest = []
onwards (Ok _) true rest = rest

-- The blocks fetched from an address on, with so much of the allowance left and so many run before: "Each fetch spends one of the
-- allowance".
unfoldable pub visits : ℕ → ℕ → ℕ → World → List Visit
visits zero i at w = []
visits (suc left) i at w =
    let v : Visit = record { at = at; index = i; world = w } in
    ite (in_memory? w.host at 28)
    (v ∷ onwards (effect_of v).answer (block_of v).options.link (visits left (i + 1) (block_of v).link (world_left v)))
    []

-- What checks 1, 2 and 3 ask of a run.
pub record Passes (first allowance : ℕ) (w : World) : Type 0 where
  pub events : 512 ≤ length w.events
  pub least : 1 ≤ allowance
  pub most : allowance ≤ 64
  pub place : InMemory w.host first 28

pub passes? : (first allowance : ℕ) (w : World) → Dec (Passes first allowance w)
passes? first allowance w =
    map_dec (λ d. record { events = d.0; least = d.1.0; most = d.1.1.0; place = d.1.1.1 })
    (λ p. (p.events, (p.least, (p.most, p.place))))
    (dec_and (dec_le 512 (length w.events))
    (dec_and (dec_le 1 allowance) (dec_and (dec_le allowance 64) (in_memory? w.host first 28))))

-- The blocks that a run fetches: a refused run fetches none.
unfoldable pub fetched_by : ℕ → ℕ → World → List Visit
fetched_by first allowance w = ite (passes? first allowance w) (visits allowance 0 first w) []

-- One block leads to another: it ended 80 with LK set, and the other is the one at its link, fetched from the world that it left.
pub record LeadsTo (v x : Visit) : Type 0 where
  pub ended : (effect_of v).answer ≡ Ok tt
  pub linked : (block_of v).options.link ≡ true
  pub at : x.at ≡ (block_of v).link
  pub index : x.index ≡ v.index + 1
  pub world : x.world ≡ world_left v

-- Blocks of which each leads to the next.
abbrev pub leads_on : Visit → List Visit → Type 0
leads_on v [] = Unit {0}
leads_on v (x ∷ xs) = LeadsTo v x

abbrev pub Linked : List Visit → Type 0
Linked [] = Unit {0}
Linked (v ∷ vs) = leads_on v vs × Linked vs

-- The last of some blocks after a first one.
abbrev pub last_of : Visit → List Visit → Visit
last_of v [] = v
last_of v (x ∷ xs) = last_of x xs

-- "the sum over the blocks of sectors copied"
abbrev pub sectors_of : List Visit → ℕ
sectors_of [] = 0
sectors_of (v ∷ vs) = (effect_of v).sectors + sectors_of vs

-- Of a block that was run: it ended 80, it ended 82, LK is set or not, and its link is "bad as in 3" in the memory that it left.
abbrev pub Ended80 : Visit → Type 0
Ended80 v = (effect_of v).answer ≡ Ok tt

abbrev pub Ended82 : Visit → Type 0
Ended82 v = (r : Refusal) × ((effect_of v).answer ≡ Err r)

abbrev pub LinkSet : Visit → Type 0
LinkSet v = (block_of v).options.link ≡ true

abbrev pub NoLink : Visit → Type 0
NoLink v = (block_of v).options.link ≡ false

abbrev pub LinkMisplaced : Visit → Type 0
LinkMisplaced v = InMemory (world_left v).host (block_of v).link 28 → ⊥

-- When each answer of a chain is given (01, Answer numbers 0, 4, 5 and 6): by its last block, and by how much of the allowance was left after it.
abbrev pub EndsWith : RunAnswer → (left : ℕ) → Visit → Type 0
-- "last block had no link and ended 80"
EndsWith Done left v = NoLink v × Ended80 v
-- "a block ended 82"
EndsWith BlockFailed left v = Ended82 v
-- "linked address bad as in 3", with some of the allowance left: "6 before 5"
EndsWith LinkBad left v = LinkSet v × Ended80 v × LinkMisplaced v × (0 < left)
-- "allowance spent, last block 80 with LK set"
EndsWith AllowanceSpent left v = LinkSet v × Ended80 v × (left ≡ 0)
-- 1, 2 and 3 are no chain's.
EndsWith EventsShort left v = ⊥
EndsWith AllowanceBad left v = ⊥
EndsWith FirstBad left v = ⊥

-- The last block that a run fetches: the first, where it fetches no other. Of a run that is refused it says nothing.
abbrev pub last_fetched : (first allowance : ℕ) → World → Visit
last_fetched first allowance w = last_of (record { at = first; index = 0; world = w }) (fetched_by first allowance w)

-- What a run that passes its checks comes to, told by the blocks that it fetches: its answer by the last of them, "with answer 4 the failed block's answer number, 10 and up
-- (otherwise 0)", its counts by all of them; and what the last one leaves is what the run leaves.
pub record RunTold (first allowance : ℕ) (w : World) : Type 0 where
  pub answer : EndsWith (ran first allowance w).answer (allowance - length (fetched_by first allowance w)) (last_fetched first allowance w)
  pub failed : (ran first allowance w).failed ≡ block_number (effect_of (last_fetched first allowance w)).answer
  pub blocks : (ran first allowance w).tally.blocks ≡ length (fetched_by first allowance w)
  pub sectors : (ran first allowance w).tally.sectors ≡ sectors_of (fetched_by first allowance w)
  pub leaves : (ran first allowance w).world ≡ world_left (last_fetched first allowance w)
