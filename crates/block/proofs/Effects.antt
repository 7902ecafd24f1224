-- A block's effect in its movements: what acting on its verdict comes to, with the holder that is left, and then the finish.
-- A verdict refuses or has a plan, and of both it is so by definition. Bytes stored in a row are written into one buffer; rows follow one another.
use Rattle.answers.specs.declared.Refusal.{Refusal}
use Rattle.judge.specs.declared.Plan.{Plan}
use Rattle.std.proofs.Common.{Err, Ok, Result}
use Prim.Native.Nat.{ℕ, ◌+◌, ◌-◌, ◌*◌}
use mathlib.Core.Bool.{Bool}
use mathlib.Core.List.{List, [], ◌∷◌, ◌++◌}
use mathlib.Core.Path.{◌≡◌, refl, sym, ap, ◌∙◌}
use lib.IntN.{ℤ}
use lib.ListN.{length}
use Rattle.answers.specs.Numbers.{BlockAnswer, status_of}
use Rattle.judge.specs.declared.Report.{Report}
use Rattle.judge.specs.declared.Report.TheVariants.{Nothing as Silent, Identity, Formatted}
use Rattle.judge.specs.Given.{on}
use Rattle.judge.specs.Verdict.{verdict}
use Rattle.iopb.specs.Ask.{task_of}
use Rattle.iopb.specs.Layout.{block_at}
use Rattle.iopb.specs.declared.Block.{Block}
use Rattle.iopb.specs.Errors.{error_byte}
use Rattle.iopb.specs.Identity.{identity_bytes}
use Rattle.unit.specs.Standing.{CountsAsInitialized, by_value}
use Rattle.unit.proofs.Decided.{counts?}
use Rattle.wire.specs.Promise.{Says}
use Rattle.wire.proofs.Promises.{says_decided}
use Rattle.transfer.specs.Stores.{Buffers, Store, after, bytes_from, event_byte, host_byte}
use Rattle.transfer.proofs.Stays.{event_bytes_stored, host_bytes_stored}
use Rattle.transfer.proofs.Stores.{after_append}
use Rattle.block.specs.declared.Done.{Done}
use Rattle.unit.specs.declared.Controller.{Controller}
use Rattle.block.specs.Block.{Drive, Effect, effect_on, finish, judged, reported}
use Rattle.block.specs.Events.{entry}
use Rattle.block.specs.Steps.{Stores, acted_on, done_of, finished, three, told_of}
use Rattle.wire.specs.Storing.{written}

pub host_written :
    (ns host image events : List ℕ) (at : ℕ) →
    after (bytes_from host_byte at ns) (three host image events) ≡ three (written host at ns) image events
unfolding written
host_written ns host image events at = host_bytes_stored ns at (three host image events)

pub events_written :
    (ns host image events : List ℕ) (at : ℕ) →
    after (bytes_from event_byte at ns) (three host image events) ≡ three host image (written events at ns)
unfolding written
events_written ns host image events at = event_bytes_stored ns at (three host image events)

-- Bytes that were written into host memory, whatever lies beside it.
pub row_made :
    (ns host host' : List ℕ) (at : ℕ) → host' ≡ written host at ns → (image : List ℕ) → Stores (bytes_from host_byte at ns) host image host' image
row_made ns host host' at is image events = ap (λ (h : List ℕ). three h image events) is ∙ sym (host_written ns host image events at)

module _ (b : Block) (at i : ℕ) (answer : BlockAnswer) (travel : ℤ) where
  -- The finish writes word 1 and the event entry.
  pub finish_leaves :
      (host image events : List ℕ) →
      after (finish b at i answer travel) (three host image events) ≡
      three (written host (at + 2) (status_of answer ∷ error_byte answer ∷ [])) image (written events (8 * i) (entry b answer travel))
  finish_leaves host image events =
      after_append (bytes_from host_byte (at + 2) (status_of answer ∷ error_byte answer ∷ []))
      (bytes_from event_byte (8 * i) (entry b answer travel))
      (three host image events)
      ∙ ap (λ (m : Buffers). after (bytes_from event_byte (8 * i) (entry b answer travel)) m)
      (host_written (status_of answer ∷ error_byte answer ∷ []) host image events (at + 2))
      ∙ events_written (entry b answer travel) _ image events (8 * i)

  -- A finish that was made.
  pub finish_made :
      (host image events host' events' : List ℕ) →
      host' ≡ written host (at + 2) (status_of answer ∷ error_byte answer ∷ []) →
      events' ≡ written events (8 * i) (entry b answer travel) →
      three host' image events' ≡ after (finish b at i answer travel) (three host image events)
  finish_made host image events host' events' h e = (λ t. three (h t) image (e t)) ∙ sym (finish_leaves host image events)

-- The words that are reported, whatever they are, are bytes of host memory in a row.
pub reported_row : (at : ℕ) (r : Report) → (from : ℕ) × ((ns : List ℕ) × (reported at r ≡ bytes_from host_byte from ns))
unfolding bytes_from
reported_row at Silent = (at, ([], refl))
reported_row at Identity = (at + 4, (identity_bytes, refl))
reported_row at (Formatted n) = (at + 7, ((n - 1) ∷ 0x00 ∷ n ∷ [], refl))

module _ (c : Controller) (host : List ℕ) (d : Drive) (at i : ℕ) where
  -- What a block comes to by its verdict is what acting on that comes to, held and finished.
  abbrev pub finished_by : Result Plan Refusal → Effect
  finished_by v = finished c (block_at host at) at i v (acted_on host d at v)

  judged_finished : (v : Result Plan Refusal) → judged c host d at i v ≡ finished_by v
  judged_finished (Err r) = refl
  judged_finished (Ok plan) = refl

  pub effect_finished : effect_on c host d at i ≡ finished_by (verdict (on c d.unit (length d.image) (task_of host (block_at host at)) host))
  unfolding effect_on
  effect_finished = judged_finished (verdict (on c d.unit (length d.image) (task_of host (block_at host at)) host))

-- The effect of a block that was read, and whose verdict is known.
pub effect_judged :
    (c : Controller) (host : List ℕ) (d : Drive) (at i : ℕ) (b : Block) (v : Result Plan Refusal) → b ≡ block_at host at →
    verdict (on c d.unit (length d.image) (task_of host b) host) ≡ v →
    effect_on c host d at i ≡ finished c b at i v (acted_on host d at v)
effect_judged c host d at i b v is judgement = effect_finished c host d at i ∙ rw (← judgement, is)

-- Two rows of stores, made one after the other.
pub then_made :
    (ss ts : List Store) (m m' m'' : Buffers) → m' ≡ after ss m → m'' ≡ after ts m' → m'' ≡ after (ss ++ ts) m
then_made ss ts m m' m'' one two = two ∙ ap (λ (x : Buffers). after ts x) one ∙ sym (after_append ss ts m)

abbrev tells : Block → Effect → Bool → Done
tells b e counts = record { unit = by_value e.unit; told = told_of b counts e.answer e.sectors }

-- What is returned of a block, with an answer whether its unit counts as initialized then.
pub told_of_it :
    (b : Block) (e : Effect) (d : Done) (counts : Bool) → d ≡ tells b e counts → Says counts (CountsAsInitialized e.unit) → d ≡ done_of b e
told_of_it b e d counts is says = is ∙ ap (tells b e) (says_decided (counts? e.unit) counts says)
