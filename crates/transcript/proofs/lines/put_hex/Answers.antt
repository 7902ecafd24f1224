-- The word, and then two bytes, each the digit that its half of the byte asks for.
use Rattle.transcript.proofs.Texts.{put_then}
use Rattle.transcript.proofs.lines.put_hex.Goals as goal

pub returns : goal.returns
returns c = rw (← c.digit.ensures, ← c.digit-2.ensures) (put_then c.put-next.ensures c.put.ensures)
