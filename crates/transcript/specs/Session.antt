-- A session (01, The session program): a function from its input bytes to its output bytes.
use Rattle.std.specs.Prelude.{ℕ, zero, suc, ◌+◌, ◌≤◌, List, [], ◌∷◌, ◌++◌, ◌≡◌, drop, get_or, length, replicate, take}
use Rattle.std.proofs.Math.Logic.{ite}
use Rattle.std.proofs.Math.Logic.Dec.{and as dec_and}
use Rattle.std.proofs.Math.Decide.{dec_le, map_dec, ℕ_discrete}
use Rattle.wire.specs.Words.{be16, be32}
use Rattle.unit.specs.declared.Controller.TheVariants.{First}
use Rattle.answers.specs.Numbers.{run_number}
use Rattle.board.specs.Chain.{Ending, ran}
use Rattle.transcript.specs.Text.{block_lines, refusal_line, run_line}
use Rattle.block.specs.Block.{Drive}
use Rattle.unit.specs.Made.{blank}

-- "What a run leaves in memory, images and unit records is there for the next."
pub record Held : Type 0 where
  pub host : List ℕ
  pub drive0 : Drive
  pub drive1 : Drive

-- "each is empty until given. Units start uninitialized."
abbrev pub begin : Held
begin = record { host = []; drive0 = record { unit = blank; image = [] }; drive1 = record { unit = blank; image = [] } }

-- "tag, two-byte big-endian length, bytes": the field at the head of what is left of the input.
abbrev pub tag_of : List ℕ → ℕ
tag_of rest = get_or rest 0 0

abbrev pub long_of : List ℕ → ℕ
long_of rest = be16 rest 1

abbrev pub bytes_in : List ℕ → List ℕ
bytes_in rest = take (long_of rest) (drop 3 rest)

-- The three opening bytes of a field are there, and none of this holds of them: "an unknown tag, a length over 16,384 or a 04 not of
-- length 5".
pub record Opening (rest : List ℕ) : Type 0 where
  pub there : 3 ≤ length rest
  pub least : 1 ≤ tag_of rest
  pub most : tag_of rest ≤ 4
  pub long : long_of rest ≤ 16384
  pub five : tag_of rest ≡ 4 → long_of rest ≡ 5

implies? : {P Q : Type 0} → Dec P → Dec Q → Dec (P → Q)
implies? (yes p) (yes q) = yes (λ _. q)
implies? (yes p) (no n) = no (λ f. n (f p))
implies? (no n) d = yes (λ p. absurd (n p))

pub opening? : (rest : List ℕ) → Dec (Opening rest)
opening? rest =
    map_dec
    (λ d.
    record { there = d.0; least = d.1.0; most = d.1.1.0; long = d.1.1.1.0; five = d.1.1.1.1 })
    (λ f. (f.there, (f.least, (f.most, (f.long, f.five)))))
    (dec_and (dec_le 3 (length rest))
    (dec_and (dec_le 1 (tag_of rest))
    (dec_and (dec_le (tag_of rest) 4)
    (dec_and (dec_le (long_of rest) 16384) (implies? (ℕ_discrete (tag_of rest) 4) (ℕ_discrete (long_of rest) 5))))))

-- A field: a good opening, and not "A cut field".
pub record Field (rest : List ℕ) : Type 0 where
  pub good : Opening rest
  pub whole : 3 + long_of rest ≤ length rest

pub field? : (rest : List ℕ) → Dec (Field rest)
field? rest =
    map_dec (λ d. record { good = d.0; whole = d.1 }) (λ f. (f.good, f.whole))
    (dec_and (opening? rest) (dec_le (3 + long_of rest) (length rest)))

-- What a field says, and what is held after it.
pub record Heard : Type 0 where
  pub text : List ℕ
  pub held : Held

abbrev pub heard_of : List ℕ → Held → Heard
heard_of text held = record { text = text; held = held }

-- "04 a run (address 4 bytes, allowance 1)". Its event buffer of 512 bytes is new and zero; only the entries of blocks run are printed. A session
-- is the first controller's (02, K10).
abbrev pub ending_of : Held → List ℕ → Ending
ending_of h bytes =
    ran (be32 bytes 0) (get_or bytes 4 0) (record { controller = First; host = h.host; drive0 = h.drive0; drive1 = h.drive1; events = replicate 512 0 })

abbrev pub run_heard : Ending → Heard
run_heard e =
    let w = e.world in
    heard_of (run_line (run_number e.answer) e.tally.blocks e.tally.sectors ++ block_lines w.events e.tally.blocks)
    (record { host = w.host; drive0 = w.drive0; drive1 = w.drive1 })

-- "Tag 01 host memory, 02 and 03 images of units 0 and 1, 04 a run"; "A repeated 01, 02 or 03 replaces the earlier one".
-- It is asked of fields alone, so any other tag is 04.
unfoldable pub heard : Held → ℕ → List ℕ → Heard
heard h tag bytes =
    ite (ℕ_discrete tag 1)
    (heard_of [] (record { host = bytes; drive0 = h.drive0; drive1 = h.drive1 }))
    (ite (ℕ_discrete tag 2)
    (heard_of [] (record { host = h.host; drive0 = record { unit = h.drive0.unit; image = bytes }; drive1 = h.drive1 }))
    (ite (ℕ_discrete tag 3)
    (heard_of [] (record { host = h.host; drive0 = h.drive0; drive1 = record { unit = h.drive1.unit; image = bytes } }))
    (run_heard (ending_of h bytes))))

-- What is left of the input is refused, or begins with a field.
abbrev pub played : (Held → ℕ → List ℕ → List ℕ) → Held → ℕ → List ℕ → List ℕ
-- An input that ends at a field's end ends quietly.
played next h at [] = []
-- "prints "session refused at byte N", N being the place of the tag counted from 0, and ends"
played next h at (byte ∷ more) =
    let rest = byte ∷ more in
    let x = heard h (tag_of rest) (bytes_in rest) in
    ite (field? rest) (x.text ++ next x.held (at + (3 + long_of rest)) (drop (3 + long_of rest) rest)) (refusal_line at)

-- So many fields at most, the first at a place of the input.
unfoldable pub played_within : ℕ → Held → ℕ → List ℕ → List ℕ
played_within zero h at rest = []
played_within (suc k) h at rest = played (played_within k) h at rest

-- No input has more fields than bytes; one more is for its end.
unfoldable pub session : List ℕ → List ℕ
session input = played_within (length input + 1) begin 0 input
