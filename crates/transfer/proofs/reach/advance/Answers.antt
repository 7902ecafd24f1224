-- The run lies on the drive, so that it can be scanned.
-- What its places in a row come to is what its sectors come to.
use native.Mathlib.Omega.{arith}
use Rattle.transfer.proofs.Tracks.{run_comes, run_inside}
use Rattle.transfer.proofs.reach.advance.Goals as goal

pub reach-requires : goal.reach-requires
reach-requires c =
    let a = c.args in
    let run = c.run_at-run in
    (run.ensures.some, rw c.geometry.ensures (run_inside a.u.now a.v a.number a.most run.result (omega arith) run.ensures, c.requires.1.1))

pub returns : goal.returns
returns c =
    let a = c.args in
    let run = c.run_at-run in
    record {
      run = run.result.sectors;
      some = run.ensures.some;
      asked = run.ensures.asked;
      comes =
          rw (c.reach.ensures, c.geometry.ensures)
          (run_comes a.u.now a.v a.number a.most run.result (omega arith) run.ensures a.image.now a.heeds);
    }
