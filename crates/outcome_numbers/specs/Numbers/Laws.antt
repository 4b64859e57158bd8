-- Laws of the numbers of a packed plan: the image's length counts only where the output was too small.
use Rattle.std.specs.Prelude.{◌≡◌, refl, Bool, false, ℕ, eqb}
use Rattle.plan.specs.Packed.{Outcome, refusal, sized}
use Rattle.outcome_numbers.specs.Numbers.{packed_parts}

-- the output was too small for the image
abbrev pub too_small : Outcome → Bool
too_small (refusal n p) = eqb n 10
too_small (sized k) = false

pub other-parts : (x : Outcome) (j k : ℕ) → too_small x ≡ false → packed_parts j x ≡ packed_parts k x
other-parts (refusal n p) j k e = simp e
other-parts (sized n) j k e = refl
