-- What a block reads of host memory beside its own 28 bytes and its data is what judging it looks at: its UIB and its list, each where the judge reads it.
-- The footprint says it in the block's fields, by the papers' table, and the judge by its checks; that these come to the same is shown there (judge, Read).
use Prim.Native.Nat.{ℕ}
use mathlib.Core.Bool.{false}
use mathlib.Core.Path.{refl}
use Rattle.judge.specs.Reads.{InList, InUib}
use Rattle.judge.proofs.Read.{list_by_the_table, uib_by_the_table}
use Rattle.wire.specs.Among.{Among}
use Rattle.demands.specs.Footprint.{HostData, ReadsHost, asked_of, named_drive}
use Rattle.demands.specs.Footprint.HostRead.{block, its_list, its_uib, moved}
use Rattle.demands.specs.Visits.{Visit, block_of}

-- The same four cases, in the judge's terms.
pub data ReadJudged (v : Visit) (x : ℕ) : Type 0 where
  own : Among v.at 28 x → ReadJudged v x
  uib : InUib (asked_of v) (block_of v).address 18 x → ReadJudged v x
  list : InList (asked_of v) x → ReadJudged v x
  taken : HostData (asked_of v) (named_drive v) false x → ReadJudged v x

module _ (v : Visit) (x : ℕ) where
  -- What judging looks at is read,
  pub read_uib : InUib (asked_of v) (block_of v).address 18 x → ReadsHost v x
  read_uib here =
      let it = (uib_by_the_table (block_of v) (asked_of v) refl x).0 here in
      its_uib it.0 it.1 it.2

  pub read_list : InList (asked_of v) x → ReadsHost v x
  read_list here =
      let it = (list_by_the_table (block_of v) (asked_of v) refl x).0 here in
      its_list it.0 it.1 it.2 it.3 it.4

  -- and no byte more is.
  pub reads_judged : ReadsHost v x → ReadJudged v x
  reads_judged (block here) = own here
  reads_judged (its_uib code passed here) = uib ((uib_by_the_table (block_of v) (asked_of v) refl x).1 (code, passed, here))
  reads_judged (its_list code passed some place here) =
      list ((list_by_the_table (block_of v) (asked_of v) refl x).1 (code, passed, some, place, here))
  reads_judged (moved here) = taken here
