-- The code's answers can be read back from what they say. So two that say the same are the same.
use Rattle.std.specs.Prelude.{◌≡◌, refl, ℕ, Result, Ok, Err, Option, Some, None}
use Rattle.std.proofs.Common.{ap}
use Rattle.outcome.specs.declared.refusal.Refusal.{Refusal}
use Rattle.outcome.proofs.OutcomeInjective.{back-injective, refusal_back, refusal-back}
use Rattle.aplx_check.specs.Check.{Checked, accepted, refuses, End, at, none}
use Rattle.aplx_check.specs.Code.{checked_is, end_is}

abbrev checked_back : Checked → Result (Unit {0}) Refusal
checked_back accepted = Ok tt
checked_back (refuses n i) = Err (refusal_back n i)

checked-back : (x : Result (Unit {0}) Refusal) → checked_back (checked_is x) ≡ x
checked-back (Ok w) = refl
checked-back (Err r) = ap (λ (r : Refusal). Err r) (refusal-back r)

pub checked_is-injective : (x y : Result (Unit {0}) Refusal) → checked_is x ≡ checked_is y → x ≡ y
checked_is-injective = back-injective checked_is checked_back checked-back

abbrev end_back : End → Option ℕ
end_back (at e) = Some e
end_back none = None

end_back_lem : (x : Option ℕ) → end_back (end_is x) ≡ x
end_back_lem (Some e) = refl
end_back_lem None = refl

pub end_is-injective : (x y : Option ℕ) → end_is x ≡ end_is y → x ≡ y
end_is-injective = back-injective end_is end_back end_back_lem
