-- A turn reads a field, makes a step of it and writes its text: one of the steps in a row.
use Rattle.std.proofs.Common.{add-one, ap, subst, take, ◌∙◌}
use Rattle.std.proofs.lemmas.List.{take_min}
use Rattle.std.proofs.lemmas.Result.{IfOk-at_ok}
use Rattle.std.specs.Io.KnownBytes.{Appends}
use Rattle.session.proofs.Turns.{one_turn}
use Rattle.session.proofs.hear.Goals as goal

pub returns : goal.returns
returns g c =
    λ k.
    rw add-one
    (one_turn k _ _ _ c.step-said.result _ _ _ _ _ (IfOk-at_ok _ c.in_ok-got.was c.read_field-got.ensures.field) c.step-said.ensures
    (subst (Appends _ _) (ap (λ n. take n c.step-said.new.text) c.min.ensures ∙ take_min c.step-said.result.text c.step-said.new.text)
    c.in_ok-write_all.ensures.bytes))
