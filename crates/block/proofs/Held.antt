-- Who holds the drive is all that changes with the holder.
-- Each leaving and each ending has the record as it was, or with another holder.
use Rattle.std.proofs.Common.{Err, Ok}
use mathlib.Core.Bool.{Bool, true, false}
use mathlib.Core.Path.{◌≡◌, refl, ap, ◌∙◌}
use Rattle.answers.specs.Numbers.{BlockAnswer}
use Rattle.judge.specs.declared.Leaving.{Leaving}
use Rattle.judge.specs.declared.Leaving.TheVariants.{AsItWas, HeadsAt, HeadsAtLastTried, Fresh, Mapped}
use Rattle.unit.specs.declared.Controller.{Controller}
use Rattle.unit.specs.Holding.{Holder}
use Rattle.unit.specs.Standing.{CountsAsInitialized, UnitRecord, by_value, held_by, table}
use Rattle.wire.specs.Promise.{Says}
use Rattle.block.specs.declared.Performed.{Performed}
use Rattle.block.specs.Block.{held_after, holder_left}
use Rattle.block.specs.Steps.{Performance, performed_of}
use Rattle.unit.specs.Made.{bare}

-- What was performed, with another record.
abbrev with_unit : Performed → UnitRecord → Performed
with_unit x u = record { unit = by_value u; answer = x.answer; sectors = x.sectors; travel = x.travel }

module _ (c : Controller) (reserve : Bool) where
  -- What another holder keeps, a block's end keeps.
  module _ (P : UnitRecord → Type 0) (kept : (u : UnitRecord) (h : Holder) → P u → P (held_by u h)) where
    ended_keeps : (answer : BlockAnswer) (u : UnitRecord) → P u → P (held_after c reserve answer u)
    ended_keeps (Ok _) u now = kept u _ now
    ended_keeps (Err r) u now = now

    pub holder_keeps : (l : Leaving) (answer : BlockAnswer) (u : UnitRecord) → P u → P (holder_left c reserve l answer u)
    holder_keeps AsItWas answer u now = now
    holder_keeps (HeadsAt x) answer u now = ended_keeps answer u now
    holder_keeps (HeadsAtLastTried s) answer u now = ended_keeps answer u now
    holder_keeps (Fresh g) answer u now = ended_keeps answer u now
    holder_keeps (Mapped bad spare) answer u now = ended_keeps answer u now

  -- What goes by value goes by what went by value.
  ended_by_value : (answer : BlockAnswer) (u : UnitRecord) → by_value (held_after c reserve answer (bare (by_value u))) ≡ by_value (held_after c reserve answer u)
  ended_by_value (Ok _) u = refl
  ended_by_value (Err r) u = refl

  pub held_by_value :
      (l : Leaving) (answer : BlockAnswer) (u : UnitRecord) →
      by_value (holder_left c reserve l answer (bare (by_value u))) ≡ by_value (holder_left c reserve l answer u)
  held_by_value AsItWas answer u = refl
  held_by_value (HeadsAt x) answer u = ended_by_value answer u
  held_by_value (HeadsAtLastTried s) answer u = ended_by_value answer u
  held_by_value (Fresh g) answer u = ended_by_value answer u
  held_by_value (Mapped bad spare) answer u = ended_by_value answer u

  -- The table stays.
  pub held_table : (l : Leaving) (answer : BlockAnswer) (u : UnitRecord) → table u ≡ table (holder_left c reserve l answer u)
  held_table l answer u = holder_keeps (λ (x : UnitRecord). table u ≡ table x) (λ x h now. now) l answer u refl

  -- So what was performed, with its holder, is what is defined of it.
  pub performed_held :
      (l : Leaving) (x : Performed) (p : Performance) → x ≡ performed_of p →
      ◌≡◌ {A = Performed}
      (record { unit = by_value (holder_left c reserve l x.answer (bare x.unit)); answer = x.answer; sectors = x.sectors; travel = x.travel })
      (record { unit = by_value (holder_left c reserve l p.answer p.unit); answer = p.answer; sectors = p.sectors; travel = p.travel })
  performed_held l x p is =
      ap (λ (x : Performed). with_unit x (holder_left c reserve l x.answer (bare x.unit))) is
      ∙ (λ i. record { unit = held_by_value l p.answer p.unit i; answer = p.answer; sectors = p.sectors; travel = p.travel })

-- Whether the unit counts as initialized is no matter of its holder.
pub held_counts : (u : UnitRecord) (h : Holder) → CountsAsInitialized u → CountsAsInitialized (held_by u h)
held_counts u h counts = record { said = counts.said; within = counts.within; cylinder = counts.cylinder; good = counts.good }

pub held_told : (told : Bool) (u : UnitRecord) (h : Holder) → Says told (CountsAsInitialized u) → Says told (CountsAsInitialized (held_by u h))
held_told true u h counts = held_counts u h counts
held_told false u h not_it = λ counts. not_it (record { said = counts.said; within = counts.within; cylinder = counts.cylinder; good = counts.good })
