-- What the code's addition hands back can be read back from what it says. So two that say the same are the same, and an equation of what it says decides it.
use Rattle.std.specs.Prelude.{◌≡◌, refl, Result, Ok, Err}
use Rattle.std.proofs.Common.{ap}
use Rattle.outcome.specs.declared.refusal.Refusal.{Refusal}
use Rattle.outcome.proofs.OutcomeInjective.{back-injective, refusal_back, refusal-back}
use Rattle.memory_map.specs.declared.map.Addition as CodeAddition
use Rattle.memory_map.specs.Map.{Verdict, taken, refused, Addition, verdict_of, addition_of}

abbrev verdict_back : Verdict → Result Unit Refusal
verdict_back taken = Ok tt
verdict_back (refused n p) = Err (refusal_back n p)

verdict-back : (x : Result Unit Refusal) → verdict_back (verdict_of x) ≡ x
verdict-back (Ok w) = refl
verdict-back (Err r) = ap (λ (x : Refusal). Err x) (refusal-back r)

pub verdict-injective : (x y : Result Unit Refusal) → verdict_of x ≡ verdict_of y → x ≡ y
verdict-injective = back-injective verdict_of verdict_back verdict-back

abbrev addition_back : Addition → CodeAddition.Addition
addition_back a = record { map = a.map; verdict = verdict_back a.verdict }

addition-back : (x : CodeAddition.Addition) → addition_back (addition_of x) ≡ x
addition-back x = λ i. record { map = x.map; verdict = verdict-back x.verdict i }

pub addition-injective : (x y : CodeAddition.Addition) → addition_of x ≡ addition_of y → x ≡ y
addition-injective = back-injective addition_of addition_back addition-back
