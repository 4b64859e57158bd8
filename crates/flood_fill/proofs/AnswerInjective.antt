-- An answer of the code can be read back from what it says, so that an equation of what it says decides it.
use Rattle.std.specs.Prelude.{◌≡◌, refl, Ok, Err}
use Rattle.std.proofs.Common.{ap}
use Rattle.outcome.specs.declared.refusal.Refusal.{Refusal}
use Rattle.outcome.proofs.OutcomeInjective.{back-injective, refusal_back, refusal-back}
use Rattle.flood_fill.specs.declared.receiver.Progress.TheVariants.{Accepted, Ignored, Missing, Done}
use Rattle.flood_fill.specs.Answer.{Answer, refused, accepted, ignored, missing, done, Answered, answer_is}

abbrev answer_back : Answer → Answered
answer_back (refused n p) = Err (refusal_back n p)
answer_back accepted = Ok Accepted
answer_back ignored = Ok Ignored
answer_back (missing n l) = Ok (Missing n l)
answer_back done = Ok Done

answer_back_lem : (x : Answered) → answer_back (answer_is x) ≡ x
answer_back_lem (Err r) = ap (λ (x : Refusal). Err x) (refusal-back r)
answer_back_lem (Ok Accepted) = refl
answer_back_lem (Ok Ignored) = refl
answer_back_lem (Ok (Missing n l)) = refl
answer_back_lem (Ok Done) = refl

pub answer-injective : (x y : Answered) → answer_is x ≡ answer_is y → x ≡ y
answer-injective = back-injective answer_is answer_back answer_back_lem
