-- Which bytes some stores have as their targets.
use Rattle.std.specs.Prelude.{List, [], ◌∷◌, ◌⊎◌, ◌≡◌}
use Rattle.transfer.specs.Stores.{ByteAt, Store}

-- Some store of a list has this cell as its target.
unfoldable pub Stored : List Store → ByteAt → Type 0
Stored [] c = ⊥
Stored (s ∷ ss) c = (s.to ≡ c) ⊎ Stored ss c
