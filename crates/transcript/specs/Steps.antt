-- What the library promises of one field, over lent buffers: `Session` field by field. The memory and the images stand at the start of
-- the buffers lent for them, and a state says how much of each is theirs; the units are lent whole.
use Rattle.std.specs.Prelude.{ℕ, ◌+◌, ◌≤◌, ◌<◌, ◌^◌, List, [], ◌∷◌, ◌++◌, ◌≡◌, drop, length, take}
use Rattle.std.proofs.Math.Logic.{ite}
use Rattle.std.proofs.Math.Logic.Dec.{and as dec_and}
use Rattle.std.proofs.Math.Decide.{dec_le, dec_lt, map_dec}
use Rattle.board.specs.declared.Units.{Units}
use Rattle.transcript.specs.declared.Next.{Next}
use Rattle.transcript.specs.declared.Said.{Said}
use Rattle.transcript.specs.declared.State.{State}
use Rattle.transcript.specs.Session.{Held, Heard, bytes_in, field?, heard, long_of, opening?, tag_of}
use Rattle.transcript.specs.Text.{refusal_line}
use Rattle.wire.specs.Storing.{written}

-- The most that a length may be, the room that the lines of a run may want, and the most bytes that a field has in all.
abbrev pub most_bytes : ℕ
most_bytes = 16384

abbrev pub text_room : ℕ
text_room = 8192

abbrev pub most_field : ℕ
most_field = 3 + most_bytes

-- What is lent for one step.
pub record SessionLent : Type 0 where
  pub host : List ℕ
  pub image0 : List ℕ
  pub image1 : List ℕ
  pub text : List ℕ
  pub units : Units

abbrev pub lent_of : (host image0 image1 text : List ℕ) → Units → SessionLent
lent_of host image0 image1 text units =
    record { host = host; image0 = image0; image1 = image1; text = text; units = units }

-- So many bytes are in use of a buffer that has room for any field.
abbrev pub Fits : ℕ → List ℕ → Type 0
Fits used buffer = (used ≤ most_bytes) × (most_bytes ≤ length buffer)

-- A state that the buffers can hold, with room for any field and for the lines of any run, and a place that can still be counted.
pub record SessionRoom (s : State) (l : SessionLent) : Type 0 where
  pub host : Fits s.host l.host
  pub image0 : Fits s.image0 l.image0
  pub image1 : Fits s.image1 l.image1
  pub text : text_room ≤ length l.text
  pub at : s.at + most_field < 2 ^ 64

fits? : (used : ℕ) (buffer : List ℕ) → Dec (Fits used buffer)
fits? used buffer = dec_and (dec_le used most_bytes) (dec_le most_bytes (length buffer))

pub room? : (s : State) (l : SessionLent) → Dec (SessionRoom s l)
room? s l =
    map_dec
    (λ d. record { host = d.0; image0 = d.1.0; image1 = d.1.1.0; text = d.1.1.1.0; at = d.1.1.1.1 })
    (λ r. (r.host, (r.image0, (r.image1, (r.text, r.at)))))
    (dec_and (fits? s.host l.host)
    (dec_and (fits? s.image0 l.image0)
    (dec_and (fits? s.image1 l.image1)
    (dec_and (dec_le text_room (length l.text)) (dec_lt (s.at + most_field) (2 ^ 64))))))

-- What a state and its buffers hold.
abbrev pub held_in : State → SessionLent → Held
held_in s l =
    record {
      host = take s.host l.host;
      drive0 = record { unit = l.units.zero; image = take s.image0 l.image0 };
      drive1 = record { unit = l.units.one; image = take s.image1 l.image1 };
    }

-- The same in two parts, the units and the state: those of `begin` are what a session begins with.
abbrev pub units_in : Held → Units
units_in h = record { zero = h.drive0.unit; one = h.drive1.unit }

abbrev pub state_of : Held → ℕ → State
state_of h at =
    record {
      host = length h.host;
      image0 = length h.drive0.image;
      image1 = length h.drive1.image;
      at = at;
    }

-- Some bytes at the start of a buffer, which goes on as it was.
abbrev pub at_start : List ℕ → List ℕ → List ℕ
at_start bytes buffer = bytes ++ drop (length bytes) buffer

-- What a step comes to: what it answers, and all that is lent.
pub record Spoken : Type 0 where
  pub said : Said
  pub lent : SessionLent

abbrev pub spoken_of : Said → SessionLent → Spoken
spoken_of said lent = record { said = said; lent = lent }

abbrev pub said_of : Next → ℕ → Said
said_of next text = record { next = next; text = text }

-- An answer by which the session goes on.
abbrev pub on_with : (host image0 image1 at text : ℕ) → Said
on_with host image0 image1 at text =
    said_of (Next.On (record { host = host; image0 = image0; image1 = image1; at = at })) text

-- A field that was heard: its text stands in the text buffer, and what is held after it in the others and in the units.
abbrev pub went : Heard → ℕ → SessionLent → Spoken
went x at l =
    let h = x.held in
    spoken_of (said_of (Next.On (state_of h at)) (length x.text))
    (lent_of (at_start h.host l.host) (at_start h.drive0.image l.image0) (at_start h.drive1.image l.image1)
    (at_start x.text l.text) (units_in h))

-- A text that is the session's last.
abbrev pub closed : List ℕ → SessionLent → Spoken
closed text l =
    spoken_of (said_of Next.Over (length text))
    (lent_of l.host l.image0 l.image1 (at_start text l.text) l.units)

-- A step on what was read of a field; that is [] where the input has ended.
abbrev pub spoken_on : List ℕ → State → SessionLent → Spoken
spoken_on [] s l = closed [] l
spoken_on (byte ∷ more) s l =
    let field = byte ∷ more in
    ite (field? field)
    (went (heard (held_in s l) (tag_of field) (bytes_in field)) (s.at + (3 + long_of field)) l)
    (closed (refusal_line s.at) l)

-- Without room nothing is said and nothing changed.
unfoldable pub spoken : List ℕ → State → SessionLent → Spoken
spoken field s l = ite (room? s l) (spoken_on field s l) (spoken_of (said_of Next.NoRoom 0) l)

-- How many bytes of the input the field takes that begins with these: the 3 of its opening, and its length where the opening is good.
unfoldable pub wanted : List ℕ → ℕ
wanted bytes = ite (opening? bytes) (3 + long_of bytes) 3

-- Some bytes stored in a text from a place on, and the place after them.
pub record Appended (text : List ℕ) (at : ℕ) (bytes text' : List ℕ) (next : ℕ) : Type 0 where
  pub stored : text' ≡ written text at bytes
  pub after : next ≡ at + length bytes
