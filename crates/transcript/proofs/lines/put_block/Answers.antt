-- The line is its seven parts in a row; the words are their letters, and what is left of the 96 bytes is counted part by part.
use Prim.Native.Nat.{ℕ, ◌+◌, ◌-◌, ◌*◌, ◌<◌, ◌≤◌}
use mathlib.Core.Path.{◌≡◌, sym}
use lib.ListN.{length}
use native.Mathlib.Omega.{arith}
use Rattle.transcript.specs.Text.{letters, letters_from}
use Rattle.transcript.proofs.Texts.{decimal_short, put_then, put_word, signed_short}
use Rattle.transcript.proofs.lines.put_block.Goals as goal

-- There is room for a word of w bytes and d more, and what is left after d bytes.
enough : (w d l at : ℕ) {n : ℕ} → at + (l + (w + d)) ≤ n → at + w + d ≤ n
enough w d l at room = omega arith

left : (d l at : ℕ) {r n n' : ℕ} → at + (l + d) ≤ n → r ≡ at + d → n' ≡ n → r + l ≤ n'
left d l at room after kept = omega arith

pub bounds-events-entry : goal.bounds-events-entry
bounds-events-entry c =
    let entry : let at = 8 * (c.args.k - 1) in
    let n = length c.args.events.now in
    (at < n) × ((at + 1 < n) × ((at + 2 < n) × ((at + 3 < n) × (at + 4 + 4 ≤ n)))) = omega arith in
    entry.0

pub put_hex-next-requires : goal.put_hex-next-requires
put_hex-next-requires c =
    let left_1 : c.put_number-next.result + 70 ≤ length c.put_number-next.new.text = omega (arith, decimal_short c.args.k (omega arith)) in
    enough 8 2 60 _ left_1

pub bounds-events-entry-2 : goal.bounds-events-entry-2
bounds-events-entry-2 c =
    let entry : let at = 8 * (c.args.k - 1) in
    let n = length c.args.events.now in
    (at < n) × ((at + 1 < n) × ((at + 2 < n) × ((at + 3 < n) × (at + 4 + 4 ≤ n)))) = omega arith in
    entry.1.0

pub put_hex-next-requires-2 : goal.put_hex-next-requires-2
put_hex-next-requires-2 c =
    let left_1 : c.put_number-next.result + 70 ≤ length c.put_number-next.new.text = omega (arith, decimal_short c.args.k (omega arith)) in
    let left_2 : c.put_hex-next.result + 60 ≤ length c.put_hex-next.new.text = left 10 60 _ left_1 c.put_hex-next.ensures.after c.put_hex-next.auto.text in
    enough 7 2 51 _ left_2

pub bounds-events-entry-3 : goal.bounds-events-entry-3
bounds-events-entry-3 c =
    let entry : let at = 8 * (c.args.k - 1) in
    let n = length c.args.events.now in
    (at < n) × ((at + 1 < n) × ((at + 2 < n) × ((at + 3 < n) × (at + 4 + 4 ≤ n)))) = omega arith in
    entry.1.1.0

pub put_hex-next-requires-3 : goal.put_hex-next-requires-3
put_hex-next-requires-3 c =
    let left_1 : c.put_number-next.result + 70 ≤ length c.put_number-next.new.text = omega (arith, decimal_short c.args.k (omega arith)) in
    let left_2 : c.put_hex-next.result + 60 ≤ length c.put_hex-next.new.text = left 10 60 _ left_1 c.put_hex-next.ensures.after c.put_hex-next.auto.text in
    let left_3 : c.put_hex-next-2.result + 51 ≤ length c.put_hex-next-2.new.text = left 9 51 _ left_2 c.put_hex-next-2.ensures.after c.put_hex-next-2.auto.text in
    enough 7 2 42 _ left_3

pub bounds-events-entry-4 : goal.bounds-events-entry-4
bounds-events-entry-4 c =
    let entry : let at = 8 * (c.args.k - 1) in
    let n = length c.args.events.now in
    (at < n) × ((at + 1 < n) × ((at + 2 < n) × ((at + 3 < n) × (at + 4 + 4 ≤ n)))) = omega arith in
    entry.1.1.1.0

pub put_hex-next-requires-4 : goal.put_hex-next-requires-4
put_hex-next-requires-4 c =
    let left_1 : c.put_number-next.result + 70 ≤ length c.put_number-next.new.text = omega (arith, decimal_short c.args.k (omega arith)) in
    let left_2 : c.put_hex-next.result + 60 ≤ length c.put_hex-next.new.text = left 10 60 _ left_1 c.put_hex-next.ensures.after c.put_hex-next.auto.text in
    let left_3 : c.put_hex-next-2.result + 51 ≤ length c.put_hex-next-2.new.text = left 9 51 _ left_2 c.put_hex-next-2.ensures.after c.put_hex-next-2.auto.text in
    let left_4 : c.put_hex-next-3.result + 42 ≤ length c.put_hex-next-3.new.text = left 9 42 _ left_3 c.put_hex-next-3.ensures.after c.put_hex-next-3.auto.text in
    enough 8 2 32 _ left_4

pub overflow_add-entry-4 : goal.overflow_add-entry-4
overflow_add-entry-4 c = omega (arith, c.ranges.k)

pub be32-requires : goal.be32-requires
be32-requires c =
    let entry : let at = 8 * (c.args.k - 1) in
    let n = length c.args.events.now in
    (at < n) × ((at + 1 < n) × ((at + 2 < n) × ((at + 3 < n) × (at + 4 + 4 ≤ n)))) = omega arith in
    entry.1.1.1.1

pub put_signed-next-requires : goal.put_signed-next-requires
put_signed-next-requires c =
    let left_1 : c.put_number-next.result + 70 ≤ length c.put_number-next.new.text = omega (arith, decimal_short c.args.k (omega arith)) in
    let left_2 : c.put_hex-next.result + 60 ≤ length c.put_hex-next.new.text = left 10 60 _ left_1 c.put_hex-next.ensures.after c.put_hex-next.auto.text in
    let left_3 : c.put_hex-next-2.result + 51 ≤ length c.put_hex-next-2.new.text = left 9 51 _ left_2 c.put_hex-next-2.ensures.after c.put_hex-next-2.auto.text in
    let left_4 : c.put_hex-next-3.result + 42 ≤ length c.put_hex-next-3.new.text = left 9 42 _ left_3 c.put_hex-next-3.ensures.after c.put_hex-next-3.auto.text in
    let left_5 : c.put_hex-next-4.result + 32 ≤ length c.put_hex-next-4.new.text = left 10 32 _ left_4 c.put_hex-next-4.ensures.after c.put_hex-next-4.auto.text in
    enough 8 21 3 _ left_5

pub put-requires : goal.put-requires
put-requires c =
    let left_1 : c.put_number-next.result + 70 ≤ length c.put_number-next.new.text = omega (arith, decimal_short c.args.k (omega arith)) in
    let left_2 : c.put_hex-next.result + 60 ≤ length c.put_hex-next.new.text = left 10 60 _ left_1 c.put_hex-next.ensures.after c.put_hex-next.auto.text in
    let left_3 : c.put_hex-next-2.result + 51 ≤ length c.put_hex-next-2.new.text = left 9 51 _ left_2 c.put_hex-next-2.ensures.after c.put_hex-next-2.auto.text in
    let left_4 : c.put_hex-next-3.result + 42 ≤ length c.put_hex-next-3.new.text = left 9 42 _ left_3 c.put_hex-next-3.ensures.after c.put_hex-next-3.auto.text in
    let left_5 : c.put_hex-next-4.result + 32 ≤ length c.put_hex-next-4.new.text = left 10 32 _ left_4 c.put_hex-next-4.ensures.after c.put_hex-next-4.auto.text in
    let left_6 : c.put_signed-next.result + 1 ≤ length c.put_signed-next.new.text = omega (arith, left_5, signed_short c.be32.result) in
    left_6

pub returns : goal.returns
unfolding letters letters_from
returns c =
    rw (sym c.be32.ensures)
    (put_then
    (put_word (letters " travel ") _
    (put_word (letters " vector ") _
    (put_word (letters " level ") _
    (put_word (letters " error ") _
    (put_word (letters " status ") _ c.put_number-next.ensures c.put_hex-next.ensures)
    c.put_hex-next-2.ensures)
    c.put_hex-next-3.ensures)
    c.put_hex-next-4.ensures)
    c.put_signed-next.ensures)
    c.put.ensures)
