-- A field is read in two parts, its opening and what the opening wants after it; where the opening is cut, all there is was read.
use Rattle.std.proofs.Common.{◌≡◌, ℕ, ◌+◌, ◌-◌, ◌≤◌, ◌<◌, List, ◌++◌, arith, length, take, drop, ap, sym, subst, ◌∙◌, drop_at}
use Rattle.std.proofs.Math.Logic.{by_cases, if_neg, if_pos}
use Rattle.std.proofs.Math.Seq.{take-add}
use Rattle.std.proofs.lemmas.List.{drop_all, drop_min, drop-drop, length-take, take_all}
use Rattle.std.specs.Prelude.{Option, None, Some}
use Rattle.transcript.specs.Session.{long_of, opening?}
use Rattle.transcript.specs.Steps.{most_field, wanted}
use borrow.Rule.Slice.PartMut.{put_mid}
use lib.Seq.{take-append-le}
use Rattle.session.proofs.Reading.{part_after, reads_on}
use Rattle.std.specs.Io.KnownBytes.{Consumes}
use Rattle.session.specs.Told.{TakesField, TakesUpTo}

-- What an opening wants is an opening at least, and a field's buffer has room for it.
module _ (bytes : List ℕ) where
  pub wanted_least : 3 ≤ wanted bytes
  unfolding wanted
  wanted_least =
      by_cases (opening? bytes) (λ good. rw (if_pos (opening? bytes) good (3 + long_of bytes) 3) (omega arith))
      (λ bad. rw (if_neg (opening? bytes) bad (3 + long_of bytes) 3) (omega arith))

  pub wanted_most : wanted bytes ≤ most_field
  unfolding wanted
  wanted_most =
      by_cases (opening? bytes) (λ good. rw (if_pos (opening? bytes) good (3 + long_of bytes) 3) (omega (arith, good.long)))
      (λ bad. rw (if_neg (opening? bytes) bad (3 + long_of bytes) 3) (omega arith))

-- Where as much was read as there was room for, it is all from the front.
taken_whole : (old new : Option (List ℕ)) (got : List ℕ) → Consumes old new got → TakesUpTo (length got) old new got
taken_whole None new got c = tt
taken_whole (Some xs) None got c = absurd c
taken_whole (Some xs) (Some ys) got c = (
  sym (ap (take (length got)) c ∙ take-append-le (length got) got ys (omega arith) ∙ take_all (length got) got (omega arith)),
  ap Some (sym (ap (drop (length got)) c ∙ drop_at got ys (length got) (omega arith))),
)

-- With less than an opening there is all that was left,
cut_opening : (old new : Option (List ℕ)) (got : List ℕ) → length got < 3 → TakesUpTo 3 old new got → TakesField old new got
cut_opening None new got cut t = tt
cut_opening (Some xs) new got cut t =
    let few : length xs < 3 = omega (arith, length-take 3 xs, ap length t.0) in
    let all : take 3 xs ≡ xs = take_all 3 xs (omega arith) in
    let same : got ≡ xs = t.0 ∙ all in
    let wants = wanted_least (take 3 xs) in
    let none : drop 3 xs ≡ drop (length got) xs = drop_all 3 xs (omega arith) ∙ sym (drop_all (length got) xs (omega (arith, ap length same))) in
    (same ∙ sym (take_all (wanted (take 3 xs)) xs (omega arith)), t.1 ∙ ap Some none)

-- and else the opening and what it wants after it.
whole_opening :
    (old mid new : Option (List ℕ)) (first second : List ℕ) → length first ≡ 3 →
    TakesUpTo 3 old mid first → TakesUpTo (wanted first - 3) mid new second → TakesField old new (first ++ second)
whole_opening None mid new first second three t u = tt
whole_opening (Some xs) mid new first second three t u =
    let w = wanted first in
    let left : TakesUpTo (w - 3) (Some (drop 3 xs)) new second = subst (λ m. TakesUpTo (w - 3) m new second) t.1 u in
    let again : 3 + (w - 3) ≡ w = omega (arith, wanted_least first) in
    let taken : first ++ second ≡ take w xs =
    (λ i. t.0 i ++ left.0 i) ∙ sym (take-add 3 (w - 3) xs) ∙ ap (λ n. take n xs) again in
    let dropped : drop (w - 3) (drop 3 xs) ≡ drop (length (first ++ second)) xs =
    drop-drop (w - 3) 3 xs ∙ ap (λ n. drop n xs) again ∙ sym (drop_min w xs) ∙
    ap (λ n. drop n xs) (sym (ap length taken ∙ length-take w xs)) in
    (taken ∙ ap (λ (l : List ℕ). take (wanted l) xs) t.0, left.1 ∙ ap Some dropped)

-- The same of the buffer that the field is read into, at whose start the opening stands.
pub cut_read :
    (old new : Option (List ℕ)) (n : ℕ) (part after : List ℕ) → n < 3 → length part ≡ 3 →
    TakesUpTo (length part) old new (take n part) → TakesField old new (take n (part ++ after))
cut_read old new n part after cut three t =
    rw (take-append-le n part after (omega arith))
    (cut_opening old new (take n part) (omega (arith, length-take n part)) (subst (λ m. TakesUpTo m old new (take n part)) three t))

-- The opening, when it is whole.
opening_is : (n : ℕ) (part after : List ℕ) → 3 ≤ n → length part ≡ 3 → (take 3 (part ++ after) ≡ part) × (take n part ≡ part)
opening_is n part after whole three =
    (take-append-le 3 part after (omega arith) ∙ take_all 3 part (omega arith), take_all n part (omega arith))

module _
    (old mid new : Option (List ℕ)) (n m k : ℕ) (part after rest : List ℕ) (whole : 3 ≤ n) (three : length part ≡ 3)
    (fits : m ≤ length rest) (long : 3 ≤ length (part ++ after))
  where
    parts : take (3 + m) (put_mid 3 (k - 3) (part ++ after) rest) ≡ part ++ take m rest
    parts =
        part_after 3 (k - 3) m (part ++ after) rest long fits ∙
        ap (λ l. l ++ take m rest) ((opening_is n part after whole three).0)

    pub both_read :
        Consumes old mid (take n part) → Consumes mid new (take m rest) →
        Consumes old new (take (3 + m) (put_mid 3 (k - 3) (part ++ after) rest))
    both_read c d =
        let opened = opening_is n part after whole three in
        reads_on old mid new 3 (k - 3) m (part ++ after) rest long fits (subst (Consumes old mid) (opened.1 ∙ sym (opened.0)) c) d

    pub whole_read :
        k ≡ wanted (take 3 (part ++ after)) → length rest ≡ k - 3 →
        Consumes old mid (take n part) → TakesUpTo (length rest) mid new (take m rest) →
        TakesField old new (take (3 + m) (put_mid 3 (k - 3) (part ++ after) rest))
    whole_read wants filled c u =
        let opened = opening_is n part after whole three in
        let asked : k ≡ wanted part = wants ∙ ap wanted (opened.0) in
        rw parts
        (whole_opening old mid new part (take m rest) three
        (subst (λ i. TakesUpTo i old mid part) three (taken_whole old mid part (subst (Consumes old mid) (opened.1) c)))
        (subst (λ i. TakesUpTo i mid new (take m rest)) (filled ∙ ap (λ i. i - 3) asked) u))
