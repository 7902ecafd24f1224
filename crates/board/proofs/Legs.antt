-- A chain in legs comes to what it comes to in one: after a leg that has spent its allowance the chain goes on from there, and a leg that ended otherwise ended it.
-- Both go along the leg's allowance: a block that leads on does so whatever is left, and any other ends the chain whatever is left.
use Rattle.std.proofs.Common.{Err, Ok}
use Prim.Native.Nat.{ℕ, zero, suc, ◌+◌, ◌-◌, ◌*◌, ◌≤◌}
use mathlib.Core.Bool.{Bool, true, false}
use mathlib.Core.List.{List}
use mathlib.Core.Logic.{ite}
use mathlib.Core.Path.{◌≡◌, refl, sym, ap, ◌∙◌}
use native.Mathlib.Nat.{add-zero, suc-add, zero-add}
use native.Mathlib.Numerals.{add-one}
use native.Mathlib.Omega.{arith}
use lib.ListN.{length}
use Rattle.answers.specs.Numbers.{BlockAnswer}
use Rattle.answers.specs.declared.RunAnswer.{RunAnswer}
use Rattle.wire.proofs.Decided.{in_memory?}
use Rattle.wire.proofs.Promises.{never}
use Rattle.iopb.specs.Layout.{block_at}
use Rattle.board.specs.declared.chain.Count.{Count}
use Rattle.board.specs.declared.chain.Outcome.{Outcome}
use Rattle.board.specs.declared.chain.Learnt.{Learnt}
use Rattle.board.specs.declared.chain.Leg.{Leg}
use Rattle.board.specs.declared.chain.Stepped.{Stepped}
use Rattle.board.specs.Ends.{ended_of}
use Rattle.board.specs.Chain.{Ending, counted, ends, fetched, follows}
use Rattle.board.specs.Steps.{EndedIn, KnowsBoth, Spare, SteppedTo, WentLeg, WentOn, count_of, leg_of, next_at}
use Rattle.board.specs.World.{World, effect_at, world_after}

-- ---- one block

-- What a chain comes to by its next block, where that leaves t and w: by whether it can be fetched, how it ended, and what the rest comes to.
abbrev by_next : {P : Type 0} → Dec P → BlockAnswer → Bool → (t u : Count) (w v : World) → Ending → Ending
by_next d a linked t u w v rest = ite d (follows a linked t w rest) (ends RunAnswer.LinkBad 0 u v)

-- Only the rest spends an allowance: where it is spent, what the chain comes to is what the rest does, whatever that is.
only_the_rest :
    {P : Type 0} (d : Dec P) (a : BlockAnswer) (linked : Bool) (t u : Count) (w v : World) (rest : Ending) →
    (by_next d a linked t u w v rest).answer ≡ RunAnswer.AllowanceSpent → (other : Ending) → by_next d a linked t u w v other ≡ other
only_the_rest (yes p) (Ok _) true t u w v rest spent other = refl
only_the_rest (yes p) (Ok _) false t u w v rest spent other = absurd (never cc)
only_the_rest (yes p) (Err r) linked t u w v rest spent other = absurd (never cc)
only_the_rest (no n) a linked t u w v rest spent other = absurd (never cc)

-- Where it is not, another rest that differs only where it is spent changes nothing.
rest_alike :
    {P : Type 0} (d : Dec P) (a : BlockAnswer) (linked : Bool) (t u : Count) (w v : World) (rest other : Ending) →
    ((rest.answer ≡ RunAnswer.AllowanceSpent → ⊥) → other ≡ rest) →
    ((by_next d a linked t u w v rest).answer ≡ RunAnswer.AllowanceSpent → ⊥) →
    by_next d a linked t u w v other ≡ by_next d a linked t u w v rest
rest_alike (yes p) (Ok _) true t u w v rest other alike unspent = alike unspent
rest_alike (yes p) (Ok _) false t u w v rest other alike unspent = refl
rest_alike (yes p) (Err r) linked t u w v rest other alike unspent = refl
rest_alike (no n) a linked t u w v rest other alike unspent = refl

module _ (t : Count) (at : ℕ) (w : World) where
  abbrev more : Count
  more = counted t (effect_at at t.blocks w).sectors

  abbrev link : ℕ
  link = (block_at w.host at).link

  abbrev then : World
  then = world_after at t.blocks w

  abbrev by_block : Ending → Ending
  by_block rest =
      by_next (in_memory? w.host at 28) (effect_at at t.blocks w).answer (block_at w.host at).options.link more t then w rest

  fetched_by_lem : (m : ℕ) → fetched (suc m) t at w ≡ by_block (fetched m more link then)
  unfolding fetched
  fetched_by_lem m = refl

  -- A block that led on, with some allowance, leads on with any.
  leads_on_lem :
      (m : ℕ) → (fetched (suc m) t at w).answer ≡ RunAnswer.AllowanceSpent → (n : ℕ) → fetched (suc n) t at w ≡ fetched n more link then
  leads_on_lem m spent n =
      fetched_by_lem n
      ∙ only_the_rest (in_memory? w.host at 28) (effect_at at t.blocks w).answer (block_at w.host at).options.link more t then w
      (fetched m more link then) (rw (fetched_by_lem m) at spent) (fetched n more link then)

-- ---- where a chain goes on

pub next_spent : (left : ℕ) (t : Count) (at : ℕ) (w : World) → left ≡ 0 → at ≡ next_at left t at w
unfolding next_at
next_spent left t at w none = rw none

pub next_stepped :
    (left : ℕ) (t : Count) (at : ℕ) (w w' : World) (s : Stepped) → SteppedTo w at t.blocks w' s →
    next_at (left + 1) t at w ≡ next_at left (counted t s.sectors) s.link w'
unfolding next_at
next_stepped left t at w w' s stepped = rw (add-one left, stepped.world, stepped.sectors, stepped.link)

-- ---- a leg, and what the chain comes to

pub leg_spent :
    (m n : ℕ) (t : Count) (at : ℕ) (w : World) → (fetched m t at w).answer ≡ RunAnswer.AllowanceSpent →
    fetched (m + n) t at w ≡ fetched n (fetched m t at w).tally (next_at m t at w) (fetched m t at w).world
unfolding fetched next_at
leg_spent zero n t at w spent = rw zero-add
leg_spent (suc m) n t at w spent =
    let on = leads_on_lem t at w m spent in
    ap (λ (k : ℕ). fetched k t at w) (suc-add m n)
    ∙ on (m + n)
    ∙ leg_spent m n (more t at w) (link t at w) (then t at w) (rw (on m) at spent)
    ∙ ap (λ (e : Ending). fetched n e.tally (next_at m (more t at w) (link t at w) (then t at w)) e.world) (sym (on m))

pub leg_ended :
    (m n : ℕ) (t : Count) (at : ℕ) (w : World) → ((fetched m t at w).answer ≡ RunAnswer.AllowanceSpent → ⊥) →
    fetched (m + n) t at w ≡ fetched m t at w
unfolding fetched
leg_ended zero n t at w unspent = absurd (unspent refl)
leg_ended (suc m) n t at w unspent =
    ap (λ (k : ℕ). fetched k t at w) (suc-add m n)
    ∙ rest_alike (in_memory? w.host at 28) (effect_at at t.blocks w).answer (block_at w.host at).options.link (more t at w) t (then t at w) w
    (fetched m (more t at w) (link t at w) (then t at w)) (fetched (m + n) (more t at w) (link t at w) (then t at w))
    (leg_ended m n (more t at w) (link t at w) (then t at w)) unspent

-- A leg that has spent its allowance has run as many blocks.
pub leg_blocks :
    (m : ℕ) (t : Count) (at : ℕ) (w : World) → (fetched m t at w).answer ≡ RunAnswer.AllowanceSpent →
    (fetched m t at w).tally.blocks ≡ t.blocks + m
unfolding fetched
leg_blocks zero t at w spent = sym (add-zero t.blocks)
leg_blocks (suc m) t at w spent =
    let on = leads_on_lem t at w m spent in
    let rest = leg_blocks m (more t at w) (link t at w) (then t at w) (rw (on m) at spent) in
    omega (arith, ap (λ (e : Ending). e.tally.blocks) (on m), rest)

-- What is spare for a chain is spare for a part of it.
pub spare_fewer : (events : List ℕ) (few left : ℕ) (t : Count) → few ≤ left → Spare events left t → Spare events few t
spare_fewer events few left t less spare =
    record { entries = omega (arith, spare.entries); blocks = omega (arith, spare.blocks); sectors = spare.sectors }

-- ---- a leg as it is promised

-- A chain that fails, is at its end or meets a bad link has an answer of its own for that.
pub failed_unspent : RunAnswer.BlockFailed ≡ RunAnswer.AllowanceSpent → ⊥
failed_unspent spent = never cc

pub done_unspent : RunAnswer.Done ≡ RunAnswer.AllowanceSpent → ⊥
done_unspent spent = never cc

pub bad_unspent : RunAnswer.LinkBad ≡ RunAnswer.AllowanceSpent → ⊥
bad_unspent spent = never cc

-- One that stops.
pub went_in :
    (answer : RunAnswer) (failed : ℕ) (count : Count) (at : ℕ) (learnt : Learnt) (w : World) (e : Ending) (there : ℕ) →
    e ≡ ends answer failed count w → (answer ≡ RunAnswer.AllowanceSpent → at ≡ there) →
    KnowsBoth learnt w.drive0.unit w.drive1.unit → count.sectors ≤ 65535 * count.blocks →
    WentOn e there w (leg_of (ended_of answer failed count) at learnt)
went_in answer failed count at learnt w e there is next knows few =
    rw is (record { ended = record { result = refl; world = refl }; next = next; knows = knows; sectors = few })

-- One that is another's.
pub went_the_same :
    (e f : Ending) (there here : ℕ) (w : World) (r : Leg) → e ≡ f → there ≡ here → WentOn f here w r → WentOn e there w r
went_the_same e f there here w r same place went = rw (same, place) went

module _ (m left : ℕ) (t : Count) (at : ℕ) (w w' : World) (r : Leg) (less : m ≤ left) (went : WentLeg m t at w w' r) where
  whole : left ≡ m + (left - m)
  whole = omega arith

  answers : (fetched m t at w).answer ≡ r.end.answer
  answers = ap (λ (e : Outcome). e.answer) (sym went.ended.result)

  -- It ended the chain.
  pub leg_last : (r.end.answer ≡ RunAnswer.AllowanceSpent → ⊥) → EndedIn (fetched left t at w) w' r.end
  leg_last unspent =
      rw (ap (λ (k : ℕ). fetched k t at w) whole ∙ leg_ended m (left - m) t at w (λ spent. unspent (sym answers ∙ spent))) went.ended

  module _ (spent : r.end.answer ≡ RunAnswer.AllowanceSpent) where
    -- The chain goes on as the next leg does.
    pub leg_on : fetched left t at w ≡ fetched (left - m) (count_of r.end) r.at w'
    leg_on =
        ap (λ (k : ℕ). fetched k t at w) whole
        ∙ leg_spent m (left - m) t at w (answers ∙ spent)
        ∙ (λ i. fetched (left - m) (count_of (sym went.ended.result i)) (sym (went.next spent) i) (sym went.ended.world i))

    -- And what is spare is spare for it.
    pub leg_spare :
        (events events' : List ℕ) → length events' ≡ length events → Spare events left t → Spare events' (left - m) (count_of r.end)
    leg_spare events events' same spare =
        let run : r.end.blocks ≡ t.blocks + m =
        ap (λ (e : Outcome). e.blocks) went.ended.result ∙ leg_blocks m t at w (answers ∙ spent) in
        record {
          entries = omega (arith, spare.entries, same, run);
          blocks = omega (arith, spare.blocks, run);
          sectors = went.sectors;
        }

-- ---- between two legs

-- What is left comes to what the whole chain comes to, what is spare is spare for it, and what is known is so.
pub record Between (e : Ending) (w : World) (learnt : Learnt) (at left : ℕ) (t : Count) : Type 0 where
  pub comes : e ≡ fetched left t at w
  pub spare : Spare w.events left t
  pub knows : KnowsBoth learnt w.drive0.unit w.drive1.unit

module _ (m : ℕ) (e : Ending) (w : World) (learnt : Learnt) (at left : ℕ) (t : Count) (less : m ≤ left) (so : Between e w learnt at left t) where
  module _ (w' : World) (r : Leg) (went : WentLeg m t at w w' r) where
    pub between_last : (r.end.answer ≡ RunAnswer.AllowanceSpent → ⊥) → EndedIn e w' r.end
    between_last unspent = rw so.comes (leg_last m left t at w w' r less went unspent)

    pub between_on :
        r.end.answer ≡ RunAnswer.AllowanceSpent → length w'.events ≡ length w.events →
        Between e w' r.learnt r.at (left - m) (count_of r.end)
    between_on spent same =
        record {
          comes = so.comes ∙ leg_on m left t at w w' r less went spent;
          spare = leg_spare m left t at w w' r less went spent w.events w'.events same so.spare;
          knows = went.knows;
        }
