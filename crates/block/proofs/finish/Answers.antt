-- The two words, and the entry.
use mir.Syntax.{w32}
use mir.ValLaws.{to_z-of_z}
use mathlib.Core.Path.{refl}
use Rattle.block.proofs.Effects.{finish_made}
use Rattle.block.proofs.finish.Goals as goal

pub returns : goal.returns
returns c =
    let a = c.args in record {
      result = refl;
      stored = λ image.
          finish_made a.b a.at a.i a.p.answer a.p.travel a.host.now image a.events.now c.put_status.new.host c.put_event.new.events
          (rw (c.status.ensures, c.error_byte.ensures) at c.put_status.ensures)
          (rw (to_z-of_z w32 a.p.travel (record { sfits = c.struct_told-1.given.1.1.1.0.1 })) at c.put_event.ensures);
    }
