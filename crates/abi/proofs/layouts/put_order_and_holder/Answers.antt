-- Two bytes in a row.
-- Each is what the record answered, as a number.
use Rattle.abi.proofs.layouts.put_order_and_holder.Goals as goal

pub returns : goal.returns
returns c =
    rw (
      c.put_two.ensures,
      c.holder_number.ensures,
      c.holder.ensures,
      c.order_byte-order.ensures,
      c.by_head.ensures,
      c.geometry.ensures,
    )
