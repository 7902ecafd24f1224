-- A tag of 1, 2 or 3 gives its bytes to one of the buffers, and any other that a good field has is a run.
use Prim.Native.Nat.{◌+◌, ◌-◌}
use mathlib.Core.Path.{◌≡◌, ap, ◌∙◌}
use native.Mathlib.Omega.{arith}
use Rattle.transcript.specs.Session.{bytes_in, ending_of, long_of, run_heard, tag_of}
use Rattle.transcript.specs.Steps.{SessionLent, held_in, lent_of, went}
use Rattle.transcript.proofs.Plays.{host_given, image0_given, image1_given, run_heard_lem}
use Rattle.transcript.proofs.play.hear.Goals as goal

pub run-requires : goal.run-requires
run-requires c =
    let pre = c.requires in
    let none = c.in_default.in_default-own.rest in
    let good = pre.1.good in
    let five = good.five (omega (arith, good.least, good.most, none.0.0.1, none.0.1, none.1)) in
    (pre.0, (five, omega (arith, pre.1.whole)))

pub returns-in-1 : goal.returns-in-1
returns-in-1 c =
    let lent : SessionLent = lent_of c.args.host.now c.args.image0.now c.args.image1.now c.args.text.now c.args.units.now in
    let cut : 3 + long_of c.args.field.now - 3 ≡ long_of c.args.field.now = omega arith in
    rw (c.on.ensures, c.copy_from_slice.ensures.after, c.be16-long.ensures, c.in-1.is, cut)
    (host_given c.args.field.now c.args.s lent _ c.requires.0 c.requires.1.whole)

pub returns-in-2 : goal.returns-in-2
returns-in-2 c =
    let lent : SessionLent = lent_of c.args.host.now c.args.image0.now c.args.image1.now c.args.text.now c.args.units.now in
    let cut : 3 + long_of c.args.field.now - 3 ≡ long_of c.args.field.now = omega arith in
    rw (c.on-in-2.ensures, c.copy_from_slice-in-2.ensures.after, c.be16-long.ensures, c.in-2.is, cut)
    (image0_given c.args.field.now c.args.s lent _ c.requires.0 c.requires.1.whole)

pub returns-in-3 : goal.returns-in-3
returns-in-3 c =
    let lent : SessionLent = lent_of c.args.host.now c.args.image0.now c.args.image1.now c.args.text.now c.args.units.now in
    let cut : 3 + long_of c.args.field.now - 3 ≡ long_of c.args.field.now = omega arith in
    rw (c.on-in-3.ensures, c.copy_from_slice-in-3.ensures.after, c.be16-long.ensures, c.in-3.is, cut)
    (image1_given c.args.field.now c.args.s lent _ c.requires.0 c.requires.1.whole)

pub returns-in_default : goal.returns-in_default
returns-in_default c =
    let lent : SessionLent = lent_of c.args.host.now c.args.image0.now c.args.image1.now c.args.text.now c.args.units.now in
    let none = c.in_default.in_default-own.rest in
    let field = c.args.field.now in
    let held = held_in c.args.s lent in
    rw (run_heard_lem held (tag_of field) (bytes_in field) none.0.0.1 none.0.1 none.1)
    (c.run.ensures ∙
    ap (λ n. went (run_heard (ending_of held (bytes_in field))) (c.args.s.at + (3 + n)) lent) c.be16-long.ensures)
