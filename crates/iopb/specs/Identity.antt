-- What 86 reports in words 2 to 7 (01, One run): "3200, 0103, 0000, 0611, 07C3, 0000 (hex)", as bytes.
use Rattle.std.specs.Prelude.{ℕ, List, [], ◌∷◌}

abbrev pub identity_bytes : List ℕ
identity_bytes = 0x32 ∷ 0x00 ∷ 0x01 ∷ 0x03 ∷ 0x00 ∷ 0x00 ∷ 0x06 ∷ 0x11 ∷ 0x07 ∷ 0xc3 ∷ 0x00 ∷ 0x00 ∷ []
