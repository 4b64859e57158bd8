-- A number in hex digits: worked examples.
use Rattle.std.specs.Prelude.{◌≡◌, refl, [], ◌∷◌}
use Rattle.text.specs.Digits.{digits}
use Rattle.text.specs.Hex.{hex}

pub record Examples : Type 0 where
  pub none : hex 2 0 ≡ 48 ∷ 48 ∷ []
  pub word : hex 8 0x0129afe0 ≡ 48 ∷ 49 ∷ 50 ∷ 57 ∷ 97 ∷ 102 ∷ 101 ∷ 48 ∷ []
  pub largest : hex 2 255 ≡ 102 ∷ 102 ∷ []
  pub last_digits : hex 2 0x1a9 ≡ 97 ∷ 57 ∷ []

pub examples : Examples
unfolding digits
examples = record { none = refl; word = refl; largest = refl; last_digits = refl }
