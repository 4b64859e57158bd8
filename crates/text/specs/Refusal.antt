-- The line that a program writes for a refusal.
use Rattle.std.specs.Prelude.{List, [], ◌∷◌, ◌++◌, ℕ, leb, length, if◌then◌else◌}
use Rattle.text.specs.Decimal.{decimal}

-- "refused N at P" and a newline
unfoldable pub refusal_line : ℕ → ℕ → List ℕ
refusal_line n p =
    (114 ∷ 101 ∷ 102 ∷ 117 ∷ 115 ∷ 101 ∷ 100 ∷ 32 ∷ []) ++ (decimal n ++ ((32 ∷ 97 ∷ 116 ∷ 32 ∷ []) ++ (decimal p ++ 10 ∷ [])))

-- text for an output of n bytes: nothing where it does not fit
abbrev pub fitting : List ℕ → ℕ → List ℕ
fitting d n = if leb (length d) n then d else []
