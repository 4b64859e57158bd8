-- The line for a refusal: a worked example.
use Rattle.std.specs.Prelude.{◌≡◌, refl, [], ◌∷◌}
use Rattle.text.specs.Digits.{digits}
use Rattle.text.specs.Decimal.{leading, width, decimal}
use Rattle.text.specs.Refusal.{refusal_line}

-- "refused 12 at 0"
pub record Examples : Type 0 where
  pub twelve : refusal_line 12 0 ≡ 114 ∷ 101 ∷ 102 ∷ 117 ∷ 115 ∷ 101 ∷ 100 ∷ 32 ∷ 49 ∷ 50 ∷ 32 ∷ 97 ∷ 116 ∷ 32 ∷ 48 ∷ 10 ∷ []

pub examples : Examples
unfolding refusal_line decimal width leading digits
examples = record { twelve = refl }
