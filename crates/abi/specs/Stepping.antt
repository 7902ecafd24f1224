-- One block by itself, in bytes. A board that has to bound its stack and its time calls it in a loop, in the place of a run (InSteps). A buffer that is too short for its
-- layout, a controller that there is not, an entry that the event buffer has no room for and a block that cannot be fetched are refused with a code each, and nothing
-- is changed. A step that was made returns 0, also where its block ended 82. It asks for no 512 bytes and no allowance: checks 1 and 2 are the loop's own, and a 3 at a later block
-- is a run's 5.
--
--   stepped, 16 bytes
--    0      version, 02
--    1      00
--    2, 3   length, 0010 (hex)
--    4      the block's answer, 10 and up, or 00
--    5      01 where the link is to be followed, at status 80 with LK set, else 00
--    6, 7   00
--    8..11  sectors moved
--   12..15  the link, of the block as it was fetched
use Rattle.std.specs.Prelude.{ℕ, ◌+◌, ◌*◌, Bool, cond, false, List, length, Err, Ok}
use Rattle.std.proofs.Math.Logic.{ite}
use Rattle.std.proofs.Math.Decide.{dec_lt}
use Rattle.answers.specs.Numbers.{BlockAnswer, run_number}
use Rattle.answers.specs.declared.RunAnswer.{RunAnswer}
use Rattle.answers.specs.RunNumbers.{block_number}
use Rattle.board.specs.World.{effect_at, world_after}
use Rattle.iopb.specs.Layout.{block_at}
use Rattle.unit.specs.declared.Controller.{Controller}
use Rattle.wire.proofs.Decided.{in_memory?}
use Rattle.abi.specs.Calls.{CallLent, Called, called_of, controller_of, lent_after, unless_refused, world_in}
use Rattle.abi.specs.Layouts.{outcome_bytes}

-- The codes of a step, beside those that it shares with a run; that of a block that cannot be fetched is the run's 3, "odd, or not wholly in host memory".
abbrev pub stepped_short : ℕ
stepped_short = 0x1F5

abbrev pub no_entry : ℕ
no_entry = 0x1F6

abbrev pub block_bad : ℕ
block_bad = run_number RunAnswer.FirstBad

-- "running it with LK set and status 80 leads to fetching the next"
abbrev pub goes_on : BlockAnswer → (link : Bool) → Bool
goes_on (Ok _) link = link
goes_on (Err r) link = false

-- It is laid out as an outcome is, with other things at 4, 5, 8 and 12.
abbrev pub stepped_bytes : (answer : ℕ) → (follow : Bool) → (sectors link : ℕ) → List ℕ
stepped_bytes answer follow sectors link = outcome_bytes answer (cond follow 0x01 0x00) sectors link

-- The block at an address, with the entry i counted from 0, and the world that it leaves, in the bytes.
abbrev pub stepped_once : Controller → (at i : ℕ) → CallLent → Called
stepped_once c at i l =
    let w = world_in c l in
    let b = block_at w.host at in
    let e = effect_at at i w in
    let told = stepped_bytes (block_number e.answer) (goes_on e.answer b.options.link) e.sectors b.link in
    called_of 0 (lent_after l (world_after at i w) told)

-- A step of the controller with a number: refused as a run is, then where there is no room for the entry, then by the block's place.
unfoldable pub stepped_as : (controller at i : ℕ) → CallLent → Called
stepped_as controller at i l =
    unless_refused stepped_short controller l
    (ite (dec_lt (length l.events) (8 * i + 8)) (called_of no_entry l)
    (ite (in_memory? l.host at 28) (stepped_once (controller_of controller) at i l) (called_of block_bad l)))
