-- A run changes nothing outside its footprint. What each block of a chain keeps, the chain keeps: it goes along the blocks.
-- A block keeps every byte that none of its stores has as its target, and the whole drive of the unit that it does not name.
use Rattle.answers.specs.declared.Refusal.{Refusal}
use Rattle.judge.specs.declared.Plan.{Plan}
use Rattle.std.proofs.Common.{Err, Ok, Result}
use Prim.Native.Nat.{ℕ, zero, suc, ◌+◌}
use mathlib.Core.Bool.{Bool, true, false}
use mathlib.Core.List.{List, [], ◌∷◌}
use mathlib.Core.Logic.{inl, inr, by_cases, if_pos}
use mathlib.Core.Path.{◌≡◌, refl, sym, ap, subst, ◌∙◌}
use native.Mathlib.Omega.{arith}
use lib.ListN.{get_or, length}
use Rattle.board.specs.declared.chain.Count.{Count}
use Rattle.answers.specs.Numbers.{BlockAnswer}
use Rattle.unit.specs.declared.UnitNumber.{UnitNumber}
use Rattle.unit.specs.declared.UnitNumber.TheVariants.{Zero, One}
use Rattle.transfer.specs.Stores.{Buffers, ByteAt, after, event_byte, byte_in, host_byte, image_byte}
use Rattle.transfer.proofs.Stays.{lengths_stay, unstored_stays}
use Rattle.wire.proofs.Decided.{in_memory?}
use Rattle.block.specs.Block.{Drive, Effect, holder_left, left_by}
use Rattle.block.specs.Steps.{acted_on, held_unit}
use Rattle.block.proofs.Held.{holder_keeps}
use Rattle.board.specs.Chain.{Ending, fetched, follows, nothing, ran}
use Rattle.demands.specs.Footprint.{Renews, RunNames, RunWrites, RunWritesEvents, RunWritesImage, RunWritesRecord, SomeBlock, WritesEvents, WritesHost, WritesImage, WritesRecord, asked_of, changes, leaving_of, named_drive, names, verdict_of}
use Rattle.demands.proofs.Written.{effect_is, event_written_exactly, host_written_exactly, image_written_exactly}
use Rattle.unit.specs.Holding.{Holder}
use Rattle.unit.specs.Standing.{CountsAsInitialized, UnitRecord, held_by}
use Rattle.judge.specs.declared.Leaving.{Leaving}
use Rattle.judge.specs.declared.Leaving.TheVariants.{AsItWas, HeadsAt, HeadsAtLastTried, Fresh, Mapped}
use Rattle.judge.specs.Fits.{LeavingFits}
use Rattle.demands.proofs.Fits.{leaving_fits}
use Rattle.demands.specs.Visits.{Visit, block_of, effect_of, fetched_by, onwards, passes?, visits, world_left}
use Rattle.board.proofs.Chains.{fetched_bad, fetched_spent}
use Rattle.demands.proofs.Endings.{fetched_step, here, then, visits_step}
use Rattle.board.proofs.Runs.{ran_chain}
use Rattle.demands.proofs.RunAnswers.{not_passed}
use Rattle.board.specs.World.{World, buffers_of, changed, drive_of, world_after}
use Rattle.transfer.specs.Targets.{Stored}

-- Every block of some does.
abbrev Every : (Visit → Type 0) → List Visit → Type 0
Every P [] = Unit {0}
Every P (v ∷ vs) = P v × Every P vs

none_every : (P Q : Visit → Type 0) → ((v : Visit) → (P v → ⊥) → Q v) → (vs : List Visit) → (SomeBlock P vs → ⊥) → Every Q vs
none_every P Q each [] none = tt
none_every P Q each (v ∷ vs) none = (each v (λ p. none (inl p)), none_every P Q each vs (λ later. none (inr later)))

-- What is true of the world that a block finds and, if so, of the world that it leaves, is true of what the chain leaves.
module _ (I : World → Type 0) where
  abbrev Hands : Visit → Type 0
  Hands v = I v.world → I (world_left v)

  by_end :
      (a : BlockAnswer) (k : Bool) (t : Count) (v : Visit) (next : Ending) (rest : List Visit) →
      (Every Hands rest → I (world_left v) → I next.world) →
      Every Hands (v ∷ onwards a k rest) → I v.world → I (follows a k t (world_left v) next).world
  by_end (Err r) k t v next rest on every now = every.0 now
  by_end (Ok _) false t v next rest on every now = every.0 now
  by_end (Ok _) true t v next rest on every now = on every.1 (every.0 now)

  chain_hands :
      (left : ℕ) (t : Count) (at : ℕ) (w : World) →
      Every Hands (visits left t.blocks at w) → I w → I (fetched left t at w).world
  chain_hands zero t at w every now = rw (fetched_spent 0 t at w refl) now
  chain_hands (suc n) t at w every now =
      by_cases (in_memory? w.host at 28)
      (λ good.
      let v = here n t at w in
      let link = (block_of v).link in
      rw (fetched_step n t at w good)
      (by_end (effect_of v).answer (block_of v).options.link (then n t at w) v (fetched n (then n t at w) link (world_left v))
      (visits n (t.blocks + 1) link (world_left v))
      (λ later so. chain_hands n (then n t at w) link (world_left v) later so)
      (rw (visits_step n t at w good) at every) now))
      (λ bad. rw (fetched_bad (suc n) t at w (omega arith) bad) now)

  -- Where a block that is not P hands it on, a run that fetches no P hands it on.
  pub run_hands :
      (first allowance : ℕ) (w : World) (P : Visit → Type 0) → ((v : Visit) → (P v → ⊥) → Hands v) →
      (SomeBlock P (fetched_by first allowance w) → ⊥) → I w → I (ran first allowance w).world
  unfolding fetched_by
  run_hands first allowance w P each none now =
      by_cases (passes? first allowance w)
      (λ passes.
      rw (ran_chain first allowance w passes.events (passes.least, passes.most) passes.place)
      (chain_hands allowance nothing first w
      (none_every P Hands each (visits allowance 0 first w) (rw (if_pos (passes? first allowance w) passes _ _) at none)) now))
      (λ refused. rw (not_passed first allowance w refused) now)

-- So what such a block keeps, the run keeps.
pub run_keeps :
    {X : Type 0} (see : World → X) (first allowance : ℕ) (w : World) (P : Visit → Type 0) →
    ((v : Visit) → (P v → ⊥) → see (world_left v) ≡ see v.world) →
    (SomeBlock P (fetched_by first allowance w) → ⊥) → see (ran first allowance w).world ≡ see w
run_keeps see first allowance w P each none =
    run_hands (λ u. see u ≡ see w) first allowance w P (λ v out so. each v out ∙ so) none refl

unit_number : UnitNumber → ℕ
unit_number Zero = 0
unit_number One = 1

pub same_unit? : (m n : UnitNumber) → Dec (m ≡ n)
unfolding unit_number
same_unit? Zero Zero = yes refl
same_unit? Zero One = no (λ same. omega (arith, ap unit_number same))
same_unit? One Zero = no (λ same. omega (arith, ap unit_number same))
same_unit? One One = yes refl

-- ---- what a block keeps

module _ (v : Visit) where
  abbrev Targets : ByteAt → Type 0
  Targets c = Stored (effect_of v).stores c

  -- What the block worked on is as its stores leave it.
  pub buffers_left : buffers_of (world_left v) (names v) ≡ after (effect_of v).stores (buffers_of v.world (names v))
  unfolding world_after
  buffers_left = by_unit (names v) _
    where
      by_unit : (n : UnitNumber) (m : Buffers) → buffers_of (changed v.world n m (effect_of v).unit) n ≡ m
      by_unit Zero m = refl
      by_unit One m = refl

  kept : (c : ByteAt) → (Targets c → ⊥) → byte_in (buffers_of (world_left v) (names v)) c ≡ byte_in (buffers_of v.world (names v)) c
  kept c none = ap (λ (m : Buffers). byte_in m c) buffers_left ∙ unstored_stays (effect_of v).stores (buffers_of v.world (names v)) c none

  -- A host byte that no store of the block has as its target, and an entry's byte.
  pub block_keeps_host : (x : ℕ) → (Targets (host_byte x) → ⊥) → get_or (world_left v).host x 0 ≡ get_or v.world.host x 0
  block_keeps_host x none = kept (host_byte x) none

  pub block_keeps_events : (x : ℕ) → (Targets (event_byte x) → ⊥) → get_or (world_left v).events x 0 ≡ get_or v.world.events x 0
  block_keeps_events x none = kept (event_byte x) none

  -- The drive of a unit that it does not name, record and image; and, of the one it names, every image byte that is no target.
  pub block_keeps_drive : (n : UnitNumber) → (names v ≡ n → ⊥) → drive_of (world_left v) n ≡ drive_of v.world n
  unfolding world_after
  block_keeps_drive n other = by_unit (names v) n other
    where
      by_unit :
          (m n : UnitNumber) → (m ≡ n → ⊥) →
          drive_of (changed v.world m (after (effect_of v).stores (buffers_of v.world m)) (effect_of v).unit) n ≡ drive_of v.world n
      by_unit Zero Zero apart = absurd (apart refl)
      by_unit Zero One apart = refl
      by_unit One Zero apart = refl
      by_unit One One apart = absurd (apart refl)

  pub block_keeps_image :
      (n : UnitNumber) (x : ℕ) → ((names v ≡ n) × Targets (image_byte x) → ⊥) →
      get_or (drive_of (world_left v) n).image x 0 ≡ get_or (drive_of v.world n).image x 0
  unfolding world_after
  block_keeps_image n x none = by_unit (names v) n none
    where
      by_unit :
          (m n : UnitNumber) → ((m ≡ n) × Targets (image_byte x) → ⊥) →
          get_or (drive_of (changed v.world m (after (effect_of v).stores (buffers_of v.world m)) (effect_of v).unit) n).image x 0 ≡
          get_or (drive_of v.world n).image x 0
      by_unit Zero Zero none = unstored_stays (effect_of v).stores (buffers_of v.world Zero) (image_byte x) (λ there. none (refl, there))
      by_unit Zero One none = refl
      by_unit One Zero none = refl
      by_unit One One none = unstored_stays (effect_of v).stores (buffers_of v.world One) (image_byte x) (λ there. none (refl, there))

-- ---- records and lengths

pub some_none : (vs : List Visit) → SomeBlock (λ v. ⊥) vs → ⊥
some_none [] there = there
some_none (v ∷ vs) (inl here) = here
some_none (v ∷ vs) (inr there) = some_none vs there

module _ (v : Visit) where
  pub block_keeps_lengths :
      (length (world_left v).host ≡ length v.world.host) ×
      ((length (world_left v).events ≡ length v.world.events) ×
      ((n : UnitNumber) → length (drive_of (world_left v) n).image ≡ length (drive_of v.world n).image))
  unfolding world_after
  block_keeps_lengths = by_unit (names v)
    where
      after_it : UnitNumber → World
      after_it m = changed v.world m (after (effect_of v).stores (buffers_of v.world m)) (effect_of v).unit

      images : (m n : UnitNumber) → length (drive_of (after_it m) n).image ≡ length (drive_of v.world n).image
      images Zero Zero = (lengths_stay (effect_of v).stores (buffers_of v.world Zero)).1.0
      images Zero One = refl
      images One Zero = refl
      images One One = (lengths_stay (effect_of v).stores (buffers_of v.world One)).1.0

      by_unit :
          (m : UnitNumber) →
          (length (after_it m).host ≡ length v.world.host) ×
          ((length (after_it m).events ≡ length v.world.events) ×
          ((n : UnitNumber) → length (drive_of (after_it m) n).image ≡ length (drive_of v.world n).image))
      by_unit Zero = let l = lengths_stay (effect_of v).stores (buffers_of v.world Zero) in (l.0, (l.1.1, images Zero))
      by_unit One = let l = lengths_stay (effect_of v).stores (buffers_of v.world One) in (l.0, (l.1.1, images One))

  -- The record of a unit is the one that the block leaves, where it names that unit, and the old one where it does not.
  record_left_lem :
      (n : UnitNumber) → (effect_of v).unit ≡ (named_drive v).unit → (drive_of (world_left v) n).unit ≡ (drive_of v.world n).unit
  unfolding world_after
  record_left_lem n same = by_unit (names v) refl n
    where
      by_unit :
          (m : UnitNumber) → names v ≡ m → (n : UnitNumber) →
          (drive_of (changed v.world m (after (effect_of v).stores (buffers_of v.world m)) (effect_of v).unit) n).unit ≡
          (drive_of v.world n).unit
      by_unit Zero is Zero = same ∙ ap (λ (m : UnitNumber). (drive_of v.world m).unit) is
      by_unit Zero is One = refl
      by_unit One is Zero = refl
      by_unit One is One = same ∙ ap (λ (m : UnitNumber). (drive_of v.world m).unit) is

  -- The named unit has the record that the block leaves.
  pub named_record : (drive_of (world_left v) (names v)).unit ≡ (effect_of v).unit
  unfolding world_after
  named_record = by_unit (names v)
    where
      by_unit :
          (m : UnitNumber) →
          (drive_of (changed v.world m (after (effect_of v).stores (buffers_of v.world m)) (effect_of v).unit) m).unit ≡ (effect_of v).unit
      by_unit Zero = refl
      by_unit One = refl

  -- What it leaves is told by its verdict, and then who holds the drive.
  abbrev pub left_then : BlockAnswer → (moved : ℕ) → Leaving → UnitRecord
  left_then answer moved l = holder_left v.world.controller (block_of v).options.reserve l answer (left_by (named_drive v).unit moved l)

  pub unit_left : (effect_of v).unit ≡ left_then (effect_of v).answer (effect_of v).sectors (leaving_of (verdict_of v))
  unit_left =
      ap (λ (e : Effect). e.unit) (effect_is v) ∙ by_verdict (verdict_of v)
      ∙ ap (λ (e : Effect). left_then e.answer e.sectors (leaving_of (verdict_of v))) (sym (effect_is v))
    where
      by_verdict :
          (verd : Result Plan Refusal) →
          let p = acted_on v.world.host (named_drive v) v.at verd in
          held_unit v.world.controller (block_of v).options.reserve verd p.answer p.unit ≡ left_then p.answer p.sectors (leaving_of verd)
      by_verdict (Err r) = refl
      by_verdict (Ok plan) = refl

  -- What a change of holder keeps, is kept of what is left.
  pub left_keeps :
      (P : UnitRecord → Type 0) → ((u : UnitRecord) (h : Holder) → P u → P (held_by u h)) →
      P (left_by (named_drive v).unit (effect_of v).sectors (leaving_of (verdict_of v))) → P (drive_of (world_left v) (names v)).unit
  left_keeps P kept now =
      subst P (sym (named_record ∙ unit_left))
      (holder_keeps v.world.controller (block_of v).options.reserve P kept (leaving_of (verdict_of v)) (effect_of v).answer _ now)

  pub block_keeps_record :
      (n : UnitNumber) → ((names v ≡ n) × WritesRecord v → ⊥) → (drive_of (world_left v) n).unit ≡ (drive_of v.world n).unit
  block_keeps_record n none = by_leaving (leaving_of (verdict_of v)) refl
    where
      other : changes (leaving_of (verdict_of v)) → (drive_of (world_left v) n).unit ≡ (drive_of v.world n).unit
      other does = ap (λ (d : Drive). d.unit) (block_keeps_drive v n (λ named. none (named, does)))

      by_leaving : (l : Leaving) → leaving_of (verdict_of v) ≡ l → (drive_of (world_left v) n).unit ≡ (drive_of v.world n).unit
      by_leaving AsItWas is = record_left_lem n (unit_left ∙ ap (left_then (effect_of v).answer (effect_of v).sectors) is)
      by_leaving (HeadsAt c) is = other (rw is tt)
      by_leaving (HeadsAtLastTried s) is = other (rw is tt)
      by_leaving (Fresh g) is = other (rw is tt)
      by_leaving (Mapped bad spare) is = other (rw is tt)

  -- A record that does not count as initialized is changed by a successful 87 alone.
  pub block_keeps_bad :
      (n : UnitNumber) → (CountsAsInitialized (drive_of v.world n).unit → ⊥) → ((names v ≡ n) × Renews (asked_of v) → ⊥) →
      (drive_of (world_left v) n).unit ≡ (drive_of v.world n).unit
  block_keeps_bad n bad none = block_keeps_record n (λ there. by_leaving (leaving_of (verdict_of v)) refl there.0 there.1 (leaving_fits (asked_of v)))
    where
      counted : names v ≡ n → CountsAsInitialized (named_drive v).unit → ⊥
      counted named counts = bad (subst (λ (m : UnitNumber). CountsAsInitialized (drive_of v.world m).unit) named counts)

      by_leaving :
          (l : Leaving) → leaving_of (verdict_of v) ≡ l → names v ≡ n → changes (leaving_of (verdict_of v)) →
          LeavingFits (named_drive v).unit (leaving_of (verdict_of v)) → ⊥
      by_leaving AsItWas is named does fits = rw is at does
      by_leaving (HeadsAt c) is named does fits = counted named (rw is at fits).0
      by_leaving (HeadsAtLastTried s) is named does fits = counted named (rw is at fits).0
      by_leaving (Fresh g) is named does fits = none (named, (g, is))
      by_leaving (Mapped bad spare) is named does fits = counted named (rw is at fits).0

-- ---- what a run keeps

module _ (first allowance : ℕ) (w : World) where
  abbrev world_left_by : World
  world_left_by = (ran first allowance w).world

  -- A host byte that a run does not write is as it was.
  pub run_keeps_host : (x : ℕ) → (RunWrites first allowance w x → ⊥) → get_or world_left_by.host x 0 ≡ get_or w.host x 0
  run_keeps_host x none =
      run_keeps (λ u. get_or u.host x 0) first allowance w (λ v. WritesHost v x)
      (λ v out. block_keeps_host v x (λ there. out ((host_written_exactly v x).1 there))) none

  -- So is a byte of the event buffer,
  pub run_keeps_events : (x : ℕ) → (RunWritesEvents first allowance w x → ⊥) → get_or world_left_by.events x 0 ≡ get_or w.events x 0
  run_keeps_events x none =
      run_keeps (λ u. get_or u.events x 0) first allowance w (λ v. WritesEvents v x)
      (λ v out. block_keeps_events v x (λ there. out ((event_written_exactly v x).1 there))) none

  -- a byte of a unit's image,
  pub run_keeps_image :
      (n : UnitNumber) (x : ℕ) → (RunWritesImage first allowance w n x → ⊥) →
      get_or (drive_of world_left_by n).image x 0 ≡ get_or (drive_of w n).image x 0
  run_keeps_image n x none =
      run_keeps (λ u. get_or (drive_of u n).image x 0) first allowance w (λ v. (names v ≡ n) × WritesImage v x)
      (λ v out. block_keeps_image v n x (λ there. out (there.0, (image_written_exactly v x).1 there.1))) none

  -- a unit's record,
  pub run_keeps_record : (n : UnitNumber) → (RunWritesRecord first allowance w n → ⊥) → (drive_of world_left_by n).unit ≡ (drive_of w n).unit
  run_keeps_record n none =
      run_keeps (λ u. (drive_of u n).unit) first allowance w (λ v. (names v ≡ n) × WritesRecord v) (λ v out. block_keeps_record v n out)
      none

  -- and the whole drive of a unit that no block names.
  pub run_keeps_drive : (n : UnitNumber) → (RunNames first allowance w n → ⊥) → drive_of world_left_by n ≡ drive_of w n
  run_keeps_drive n none =
      run_keeps (λ u. drive_of u n) first allowance w (λ v. names v ≡ n) (λ v out. block_keeps_drive v n out) none

  -- No buffer changes its length.
  pub run_keeps_lengths :
      (length world_left_by.host ≡ length w.host) ×
      ((length world_left_by.events ≡ length w.events) ×
      ((n : UnitNumber) → length (drive_of world_left_by n).image ≡ length (drive_of w n).image))
  run_keeps_lengths = (
    run_keeps (λ u. length u.host) first allowance w (λ v. ⊥) (λ v out. (block_keeps_lengths v).0) (some_none (fetched_by first allowance w)),
    (
      run_keeps (λ u. length u.events) first allowance w (λ v. ⊥) (λ v out. (block_keeps_lengths v).1.0) (some_none (fetched_by first allowance w)),
      λ n.
          run_keeps (λ u. length (drive_of u n).image) first allowance w (λ v. ⊥) (λ v out. (block_keeps_lengths v).1.1 n)
          (some_none (fetched_by first allowance w)),
    ),
  )

  -- "A record handed in with a geometry outside the limits, or a cylinder of C or more, counts as not initialized; unless an 87
  -- succeeds it is handed back as it came" (01, Geometry); so is one with a table that is not good (02, K5).
  pub bad_record_handed_back :
      (n : UnitNumber) → (CountsAsInitialized (drive_of w n).unit → ⊥) →
      (SomeBlock (λ v. (names v ≡ n) × Renews (asked_of v)) (fetched_by first allowance w) → ⊥) →
      (drive_of world_left_by n).unit ≡ (drive_of w n).unit
  bad_record_handed_back n bad none =
      run_hands (λ u. (drive_of u n).unit ≡ (drive_of w n).unit) first allowance w
      (λ v. (names v ≡ n) × Renews (asked_of v))
      (λ v out so. block_keeps_bad v n (rw so bad) out ∙ so) none refl
