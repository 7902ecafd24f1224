-- A block that makes a transfer: its data leave the event buffer alone, so they are what the transfer says of host and image.
-- The 81 00 comes before.
use Prim.Native.Nat.{ℕ, zero, suc, ◌+◌}
use mathlib.Core.Bool.{Bool, true, false}
use mathlib.Core.List.{List, [], ◌∷◌, ◌++◌}
use mathlib.Core.Path.{◌≡◌, refl, sym, ap, subst, ◌∙◌}
use lib.ListN.{length}
use native.Mathlib.Nat.{zero-mul}
use Rattle.geometry.specs.declared.Geometry.{Geometry}
use Rattle.transfer.specs.Data.{Transfer, data_on, formatting, move}
use Rattle.transfer.specs.Progress.{progress}
use Rattle.transfer.specs.Runs.{lent}
use Rattle.transfer.specs.Stores.{Buffers, Store, after, up_to}
use Rattle.transfer.proofs.Stores.{after_more}
use Rattle.transfer.specs.Whole.{TrackFits, made, sectors_result, span_transfer, track_result}
use Rattle.transfer.proofs.Filling.{track_fit}
use Rattle.transfer.proofs.Wholes.{sectors_fit}
use Rattle.judge.specs.declared.Job.{Job}
use Rattle.judge.specs.declared.Moving.{Moving}
use Rattle.block.specs.Block.{begun}
use Rattle.unit.specs.declared.Spot.{Spot}
use Rattle.block.specs.Steps.{Ready, Stores, three, transfer_with}
use Rattle.block.proofs.Effects.{host_written, then_made}
use Rattle.unit.specs.Standing.{UnitRecord, geometry}
use Rattle.wire.specs.Storing.{written}

abbrev beside : Buffers → List ℕ → Buffers
beside m events = three m.host m.image events

-- Bytes moved between host and image, with and without an event buffer beside them.
moves_beside :
    (n : ℕ) (to_host : Bool) (disk at : ℕ → ℕ) (host image events : List ℕ) →
    after (up_to n (λ k. move to_host (disk k) (at k))) (three host image events) ≡
    beside (after (up_to n (λ k. move to_host (disk k) (at k))) (lent host image)) events
unfolding after up_to
moves_beside zero to_host disk at host image events = refl
moves_beside (suc n) true disk at host image events =
    let moves : ℕ → Store = λ k. move true (disk k) (at k) in
    after_more n moves (three host image events)
    ∙ rw (moves_beside n true disk at host image events, after_more n moves (lent host image))
moves_beside (suc n) false disk at host image events =
    let moves : ℕ → Store = λ k. move false (disk k) (at k) in
    after_more n moves (three host image events)
    ∙ rw (moves_beside n false disk at host image events, after_more n moves (lent host image))

data_made :
    (t : Transfer) (of host image events host' image' : List ℕ) →
    lent host' image' ≡ after (data_on of t) (lent host image) →
    after (data_on of t) (three host image events) ≡ three host' image' events
unfolding data_on
data_made t of host image events host' image' is =
    moves_beside _ t.to_host _ _ host image events ∙ ap (λ (m : Buffers). beside m events) (sym is)

-- A transfer that was made on a block's marked memory: 81 00 and then its data, whatever the event buffer holds.
pub begun_made :
    (t : Transfer) (at : ℕ) (host image host' image' : List ℕ) →
    lent host' image' ≡ after (data_on image t) (lent (written host (at + 2) (0x81 ∷ 0x00 ∷ [])) image) →
    Stores (begun at ++ data_on image t) host image host' image'
begun_made t at host image host' image' is events =
    then_made (begun at) (data_on image t) (three host image events) _ _ (sym (host_written (0x81 ∷ 0x00 ∷ []) host image events (at + 2)))
    (sym (data_made t image (written host (at + 2) (0x81 ∷ 0x00 ∷ [])) image events host' image' is))

-- One of no sectors stores no data.
pub nothing_made :
    (u : UnitRecord) (at : ℕ) (host image : List ℕ) (data_at : ℕ → ℕ) →
    Stores (begun at ++ data_on image (transfer_with u Moving.Nothing data_at)) host image (written host (at + 2) (0x81 ∷ 0x00 ∷ [])) image
unfolding after data_on progress up_to
nothing_made u at host image data_at events =
    then_made (begun at) (data_on image (transfer_with u Moving.Nothing data_at)) (three host image events) _ _
    (sym (host_written (0x81 ∷ 0x00 ∷ []) host image events (at + 2))) (rw zero-mul refl)

-- What is ready is made.
module _ (u : UnitRecord) {m : Moving} (lengths addresses : List ℕ) (long : ℕ) (image : List ℕ) (ready : Ready u m lengths addresses long (length image)) where
  pub sectors_ready :
      (j : Job) → m ≡ Moving.Sectors j →
      sectors_result long image u j.span j.to_host j.past_marks lengths addresses ≡ made image (span_transfer u j.span j.to_host j.past_marks lengths addresses)
  sectors_ready j is =
      sectors_fit long image u j.span j.to_host j.past_marks lengths addresses
      (subst (λ (x : Moving). Ready u x lengths addresses long (length image)) is ready)

  -- A track is told by the drive's geometry alone.
  pub track_ready :
      (v : UnitRecord) → geometry u ≡ geometry v → (spot : Spot) (at : ℕ) → m ≡ Moving.Track spot at →
      track_result long image v spot at ≡ made image (formatting v spot at)
  track_ready v same spot at is =
      track_fit image v spot at long
      (subst (λ (g : Geometry). TrackFits g spot at long (length image)) same
      (subst (λ (x : Moving). Ready u x lengths addresses long (length image)) is ready))
