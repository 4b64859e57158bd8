-- Computed examples of the copy rule (paper 01, "APLX").
use Rattle.std.specs.Prelude.{◌≡◌, refl, List, [], ◌∷◌, ℕ}
use Rattle.aplx_copy.specs.Copy.{copied, copied_if_fits}
use Rattle.aplx_copy.specs.Open as group

-- three words
memory : List ℕ
memory = 1 ∷ 2 ∷ 3 ∷ 4 ∷ 5 ∷ 6 ∷ 7 ∷ 8 ∷ 9 ∷ 10 ∷ 11 ∷ 12 ∷ []

record Copies : Type 0 where
  -- a copy onto itself further up repeats its beginning
  pub upward : copied 8 4 0 memory ≡ 1 ∷ 2 ∷ 3 ∷ 4 ∷ 1 ∷ 2 ∷ 3 ∷ 4 ∷ 1 ∷ 2 ∷ 3 ∷ 4 ∷ []
  pub downward : copied 8 0 4 memory ≡ 5 ∷ 6 ∷ 7 ∷ 8 ∷ 9 ∷ 10 ∷ 11 ∷ 12 ∷ 9 ∷ 10 ∷ 11 ∷ 12 ∷ []
  pub nothing : copied 0 4 0 memory ≡ memory
  -- bytes behind the last whole word are not copied
  pub whole_words : copied 7 0 4 memory ≡ 5 ∷ 6 ∷ 7 ∷ 8 ∷ 5 ∷ 6 ∷ 7 ∷ 8 ∷ 9 ∷ 10 ∷ 11 ∷ 12 ∷ []
  -- ranges that end where memory ends, and one byte behind it
  pub fits : copied_if_fits 4 0 8 memory ≡ 9 ∷ 10 ∷ 11 ∷ 12 ∷ 5 ∷ 6 ∷ 7 ∷ 8 ∷ 9 ∷ 10 ∷ 11 ∷ 12 ∷ []
  pub source-past : copied_if_fits 5 0 8 memory ≡ memory
  pub destination-past : copied_if_fits 5 8 0 memory ≡ memory

copies : Copies
unfolding memory copied_if_fits group.copies
copies = record {
  upward = refl;
  downward = refl;
  nothing = refl;
  whole_words = refl;
  fits = refl;
  source-past = refl;
  destination-past = refl;
}
