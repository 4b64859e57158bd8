-- Bytes stored into a list at a place; all else is untouched.
use Rattle.std.specs.Prelude.{List, ◌++◌, ℕ, ◌+◌, leb, length, take, drop, if◌then◌else◌}

-- m with the elements of d from place p on
unfoldable pub store : List ℕ → ℕ → List ℕ → List ℕ
store m p d = take p m ++ (d ++ drop (p + length d) m)

-- the same where they fit; else m as it is
unfoldable pub store_if_fits : List ℕ → ℕ → List ℕ → List ℕ
store_if_fits m p d = if leb (p + length d) (length m) then store m p d else m
