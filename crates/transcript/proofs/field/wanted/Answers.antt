-- By the answer about the opening, which says what is wanted.
use mathlib.Core.Path.{sym, ap, ◌∙◌}
use Rattle.wire.proofs.Promises.{says_no, says_yes}
use Prim.Native.Nat.{◌+◌}
use Rattle.transcript.specs.Session.{Opening}
use Rattle.transcript.proofs.Fields.{wanted_bad, wanted_good}
use Rattle.transcript.proofs.field.wanted.Goals as goal

pub returns-then-not-opens : goal.returns-then-not-opens
returns-then-not-opens c = sym (wanted_bad _ (says_no c.opens.result _ c.if-not-opens.true c.opens.ensures))

pub be16-requires : goal.be16-requires
be16-requires c = (says_yes c.opens.result (Opening c.args.bytes.now) c.if-not-opens.false c.opens.ensures).there

pub returns : goal.returns
returns c =
    let opens = c.opens in
    ap (λ n. 3 + n) c.be16.ensures ∙ sym (wanted_good _ (says_yes opens.result _ c.if-not-opens.false opens.ensures))
