-- The checks in their order, each by its law; a good field is heard.
use mathlib.Core.Path.{sym, ◌∙◌}
use native.Mathlib.Omega.{arith}
use Rattle.std.proofs.lemmas.Bool.{eqb-true, eqb-false}
use Rattle.transcript.specs.Steps.{SessionLent, SessionRoom, lent_of, said_of, spoken_of}
use Rattle.transcript.specs.Session.{Field}
use Rattle.transcript.specs.declared.Next.{Next}
use Rattle.transcript.proofs.Plays.{said_over}
use Rattle.transcript.proofs.Texts.{refusal_line_short}
use Rattle.transcript.proofs.Speaks.{at_the_end, no_room, refused, room_with, went_on}
use Rattle.wire.proofs.Promises.{says_no, says_yes}
use Rattle.transcript.proofs.step.Goals as goal

pub returns-then-not-has_room : goal.returns-then-not-has_room
returns-then-not-has_room c =
    let lent : SessionLent = lent_of c.args.host.now c.args.image0.now c.args.image1.now c.args.text.now c.args.units.now in
    sym
    (no_room c.args.field.now c.args.s lent
    (λ r. says_no c.has_room.result _ c.if-not-has_room.true c.has_room.ensures (room_with r)))

pub returns-then-is_empty : goal.returns-then-is_empty
returns-then-is_empty c =
    let lent : SessionLent = lent_of c.args.host.now c.args.image0.now c.args.image1.now c.args.text.now c.args.units.now in
    let room : SessionRoom c.args.s lent = room_with (says_yes c.has_room.result _ c.if-not-has_room.false c.has_room.ensures) in
    sym (at_the_end c.args.field.now c.args.s lent room (eqb-true _ _ (sym c.is_empty.ensures ∙ c.if-is_empty.true)))

pub put_refusal-requires : goal.put_refusal-requires
put_refusal-requires c =
    let lent : SessionLent = lent_of c.args.host.now c.args.image0.now c.args.image1.now c.args.text.now c.args.units.now in
    let room : SessionRoom c.args.s lent = room_with (says_yes c.has_room.result _ c.if-not-has_room.false c.has_room.ensures) in
    omega (arith, room.text)

pub returns-then-not-is_field : goal.returns-then-not-is_field
returns-then-not-is_field c =
    let lent : SessionLent = lent_of c.args.host.now c.args.image0.now c.args.image1.now c.args.text.now c.args.units.now in
    let room : SessionRoom c.args.s lent = room_with (says_yes c.has_room.result _ c.if-not-has_room.false c.has_room.ensures) in
    let l = lent in
    let line = refusal_line_short c.args.s.at (omega (arith, room.at)) in
    let said = said_over c.put_refusal.ensures (omega (arith, room.text)) in
    (λ t. spoken_of (said_of Next.Over (said.1 t)) (lent_of l.host l.image0 l.image1 (said.0 t) l.units)) ∙
    sym
    (refused c.args.field.now c.args.s l room (eqb-false _ _ (sym c.is_empty.ensures ∙ c.if-is_empty.false))
    (says_no c.is_field.result _ c.if-not-is_field.true c.is_field.ensures))

pub hear-requires : goal.hear-requires
hear-requires c =
    let lent : SessionLent = lent_of c.args.host.now c.args.image0.now c.args.image1.now c.args.text.now c.args.units.now in
    let room : SessionRoom c.args.s lent = room_with (says_yes c.has_room.result _ c.if-not-has_room.false c.has_room.ensures) in
    let good : Field c.args.field.now = says_yes c.is_field.result _ c.if-not-is_field.false c.is_field.ensures in
    (room, good)

pub returns : goal.returns
returns c =
    let lent : SessionLent = lent_of c.args.host.now c.args.image0.now c.args.image1.now c.args.text.now c.args.units.now in
    let room : SessionRoom c.args.s lent = room_with (says_yes c.has_room.result _ c.if-not-has_room.false c.has_room.ensures) in
    let good : Field c.args.field.now = says_yes c.is_field.result _ c.if-not-is_field.false c.is_field.ensures in
    c.hear.ensures ∙ sym (went_on c.args.field.now c.args.s lent room good)
