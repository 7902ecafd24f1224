-- The error bytes (docs/ERROR-BYTES.md): "one constant table", with a line for each block answer that the manual's Appendix D has one for.
use Rattle.std.specs.Prelude.{ℕ, cond, List, [], ◌∷◌, eqb, Err, Ok}
use Rattle.answers.specs.Numbers.{BlockAnswer, refusal_number}
use Rattle.answers.specs.declared.Refusal.{Refusal}
use Rattle.answers.specs.declared.Refusal.TheVariants.{CommandUnknown, NotInitialized, UibMisplaced, UibOutsideLimits, VolumeAbsent, SectorOutside, DataMisplaced, Unreadable, DriveHeld}

-- A line: an answer's number, and its error byte. The code picks the byte by the refusal itself.
pub record ErrorLine : Type 0 where
  pub number : ℕ
  pub error : ℕ

abbrev line : Refusal → ℕ → ErrorLine
line r error = record { number = refusal_number r; error = error }

abbrev pub error_table : List ErrorLine
error_table =
    line CommandUnknown 0x14 ∷
    line NotInitialized 0x40 ∷
    line UibMisplaced 0x62 ∷
    line UibOutsideLimits 0x51 ∷
    line VolumeAbsent 0x21 ∷
    line SectorOutside 0x16 ∷
    line DataMisplaced 0x62 ∷
    line Unreadable 0x13 ∷
    line DriveHeld 0x2e ∷
    []

-- The byte of the line with a number; "an answer with no line there takes FF".
unfoldable pub error_in : List ErrorLine → ℕ → ℕ
error_in [] n = 0xff
error_in (l ∷ ls) n = cond (eqb l.number n) l.error (error_in ls n)

-- "the final status and error, 00 at status 80" (01, One run)
abbrev pub error_byte : BlockAnswer → ℕ
error_byte (Ok _) = 0
error_byte (Err r) = error_in error_table (refusal_number r)
