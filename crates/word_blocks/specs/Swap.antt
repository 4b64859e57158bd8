-- The four bytes of each word the other way round: what makes a Big Endian word a Little Endian one.
use Rattle.std.specs.Prelude.{List, [], ◌∷◌, ℕ}

-- bytes behind the last whole word stay as they are
unfoldable pub swap_words : List ℕ → List ℕ
swap_words (a ∷ b ∷ c ∷ d ∷ s) = d ∷ c ∷ b ∷ a ∷ swap_words s
swap_words [] = []
swap_words (a ∷ []) = a ∷ []
swap_words (a ∷ b ∷ []) = a ∷ b ∷ []
swap_words (a ∷ b ∷ c ∷ []) = a ∷ b ∷ c ∷ []
