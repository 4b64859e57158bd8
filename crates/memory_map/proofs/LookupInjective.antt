-- An answer of the code's lookup can be read back from what it says. So two that say the same are the same, and an equation of what it says decides it.
use Rattle.std.specs.Prelude.{◌≡◌, refl, ℕ, Result, Ok, Err}
use Rattle.std.proofs.Common.{ap}
use Rattle.outcome.specs.declared.refusal.Cause.{Cause}
use Rattle.outcome.proofs.OutcomeInjective.{back-injective, cause_back, cause-back}
use Rattle.memory_map.specs.Lookup.{Found, at, refused, found_of}

abbrev found_back : Found → Result ℕ Cause
found_back (at p) = Ok p
found_back (refused n) = Err (cause_back n)

found-back : (x : Result ℕ Cause) → found_back (found_of x) ≡ x
found-back (Ok p) = refl
found-back (Err c) = ap (λ (x : Cause). Err x) (cause-back c)

pub found-injective : (x y : Result ℕ Cause) → found_of x ≡ found_of y → x ≡ y
found-injective = back-injective found_of found_back found-back
