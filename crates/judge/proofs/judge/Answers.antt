-- What is asked who holds the drive and may not have it is refused; past that the task's kind decides which function judges it.
-- Each promises the verdict by its kind's own checks, and a listed command on a drive that is free passes what is asked first.
use mathlib.Core.Bool.{Bool, false, ◌&&◌}
use mathlib.Core.Path.{◌≡◌, sym, ap, ◌∙◌}
use Rattle.request.specs.declared.Task.{Task}
use Rattle.judge.proofs.Tasks.{handshake, own_if_asked, refused_as_held, unknown}
use Rattle.judge.specs.Steps.{asks_holder}
use Rattle.judge.proofs.judge.Goals as goal

-- What was found of the task is so of what it is.
as_task : {t : Task} (task : Task) (held : Bool) {r : Bool} → r ≡ asks_holder task && held → r ≡ false → task ≡ t → asks_holder t && held ≡ false
as_task task held is left same = sym (ap (λ t. asks_holder t && held) same) ∙ sym is ∙ left

pub returns-then-is_refused_as_held : goal.returns-then-is_refused_as_held
returns-then-is_refused_as_held c = sym (refused_as_held _ _ _ _ _ (sym c.is_refused_as_held.ensures ∙ c.if-is_refused_as_held.true))

pub returns-in-Unknown : goal.returns-in-Unknown
returns-in-Unknown c = rw c.in-Unknown.is (sym (unknown _ _ _ _))

pub returns-in-Move : goal.returns-in-Move
returns-in-Move c = rw c.in-Move.is (c.judge_move.ensures ∙ sym (own_if_asked _ _ _ _ _ tt (as_task _ _ c.is_refused_as_held.ensures c.if-is_refused_as_held.false c.in-Move.is)))

pub returns-in-Handshake : goal.returns-in-Handshake
returns-in-Handshake c = rw c.in-Handshake.is (sym (handshake _ _ _ _))

pub returns-in-Initialize : goal.returns-in-Initialize
returns-in-Initialize c = rw c.in-Initialize.is (c.judge_shape.ensures _ _ _ _ ∙ sym (own_if_asked _ _ _ _ _ tt (as_task _ _ c.is_refused_as_held.ensures c.if-is_refused_as_held.false c.in-Initialize.is)))

pub returns-in-Restore : goal.returns-in-Restore
returns-in-Restore c = rw c.in-Restore.is (c.judge_restore.ensures _ c.requires ∙ sym (own_if_asked _ _ _ _ _ tt (as_task _ _ c.is_refused_as_held.ensures c.if-is_refused_as_held.false c.in-Restore.is)))

pub returns-in-Seek : goal.returns-in-Seek
returns-in-Seek c = rw c.in-Seek.is (c.judge_seek.ensures _ ∙ sym (own_if_asked _ _ _ _ _ tt (as_task _ _ c.is_refused_as_held.ensures c.if-is_refused_as_held.false c.in-Seek.is)))

pub returns-in-Format : goal.returns-in-Format
returns-in-Format c = rw c.in-Format.is (c.judge_format.ensures ∙ sym (own_if_asked _ _ _ _ _ tt (as_task _ _ c.is_refused_as_held.ensures c.if-is_refused_as_held.false c.in-Format.is)))

pub returns-in-Map : goal.returns-in-Map
returns-in-Map c = rw c.in-Map.is (c.judge_map.ensures _ ∙ sym (own_if_asked _ _ _ _ _ tt (as_task _ _ c.is_refused_as_held.ensures c.if-is_refused_as_held.false c.in-Map.is)))
