-- The list of numbers is the record's, one by one, and a record comes back from its numbers.
-- That a volume's heads are bytes is known of every record.
use mathlib.Core.Bool.{Bool, cond, false, true}
use mathlib.Core.Path.{◌≡◌, ◌∙◌, refl}
use native.Mathlib.Omega.{arith}
use Rattle.std.specs.Int.{from_bool}
use Rattle.unit.specs.RecordNumbers.{as_numbers}
use Rattle.unit.proofs.NumbersBack.{record_back}
use Rattle.unit.proofs.Record.numbers.Goals as goal

flag_is : (b : Bool) → from_bool b ≡ cond b 1 0
flag_is true = refl
flag_is false = refl

pub returns : goal.returns
unfolding as_numbers
returns c =
    let back = record_back c.args.self (record { start = omega arith; heads = omega arith }) (record { start = omega arith; heads = omega arith }) in
    rw (
      c.from-7.ensures ∙ flag_is _,
      c.by_head.ensures,
      c.from-6.ensures,
      c.holder_number.ensures,
      c.from-5.ensures,
      c.heads-2.ensures,
      c.from-4.ensures,
      c.start_head-2.ensures,
      c.from-3.ensures,
      c.heads.ensures,
      c.from-2.ensures,
      c.start_head.ensures,
      c.bytes_a_sector.ensures,
      c.sectors_a_track.ensures,
      c.cylinders.ensures,
      c.from.ensures ∙ flag_is _,
      c.volume-one.ensures,
      c.volume-zero.ensures,
    )
    (refl, back)
