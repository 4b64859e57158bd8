-- A list of stretches at the front of a longer one.
use Rattle.std.specs.Prelude.{◌≡◌, List, ℕ, length, take}
use Rattle.stretches.specs.Stretches.{Stretch}

-- the first n of these stretches are l
abbrev pub Recorded : ℕ → List Stretch → List Stretch → Type 0
Recorded n stretches l = (n ≡ length l) × (take n stretches ≡ l)
