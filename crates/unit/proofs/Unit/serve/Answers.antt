-- A track that serves itself keeps the spot that was found, and a spare's is looked for.
-- What serves is the table's own answer.
use Rattle.std.proofs.Common.{Some}
use mathlib.Core.Path.{sym, ap, ◌∙◌}
use Rattle.unit.proofs.Answers.{served_spot, served_spotted}
use Rattle.unit.proofs.Unit.serve.Goals as goal

pub returns-in-None : goal.returns-in-None
returns-in-None c =
    let u = c.args.self.now in
    ap Some c.requires.1 ∙
    served_spot u c.args.a c.requires.0 (sym c.serving.ensures ∙ c.in-None.is)

pub returns-in-Some : goal.returns-in-Some
returns-in-Some c =
    let u = c.args.self.now in
    c.spot.ensures ∙
    served_spotted u c.args.a c.requires.0 (sym c.serving.ensures ∙ c.in-Some.is)
