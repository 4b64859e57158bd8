-- A value of the code can be read back from what it says. So two that say the same are the same, and an equation of what an answer says
-- decides it.
use Rattle.std.specs.Prelude.{◌≡◌, refl, ℕ, Option, None, Some, Result, Ok, Err}
use Rattle.std.proofs.Common.{ap, ◌∙◌}
use Rattle.outcome.proofs.OutcomeInjective.{back-injective, refusal_back, refusal-back}
use Rattle.outcome.specs.declared.refusal.Refusal.{Refusal}
use Rattle.compare.specs.declared.compare.Side as CodeSide
use Rattle.compare.specs.declared.compare.Side.TheVariants as side
use Rattle.compare.specs.declared.compare.Found.{Found}
use Rattle.compare.specs.declared.compare.Refused.{Refused}
use Rattle.outcome.specs.Refusal.{number_of}
use Rattle.compare.specs.Reading.{Run, none, at}
use Rattle.compare.specs.Compare.{Which, neither, old_plan, new_plan}
use Rattle.compare.specs.Code.{Outcome, refusal, found, which_is, outcome_is, Reading, fails, reads, reading_is, run_is}

-- which plan
abbrev which_back : Which → Option CodeSide.Side
which_back neither = None
which_back old_plan = Some side.Old
which_back new_plan = Some side.New

which-back : (x : Option CodeSide.Side) → which_back (which_is x) ≡ x
which-back None = refl
which-back (Some side.Old) = refl
which-back (Some side.New) = refl

pub which_is-injective : (x y : Option CodeSide.Side) → which_is x ≡ which_is y → x ≡ y
which_is-injective = back-injective which_is which_back which-back

-- the comparison's answer
abbrev outcome_back : Outcome → Result Found Refused
outcome_back (refusal w n p) = Err (record { which = which_back w; refusal = refusal_back n p })
outcome_back (found n same) = Ok (record { count = n; same_run = same })

outcome-back : (x : Result Found Refused) → outcome_back (outcome_is x) ≡ x
outcome-back (Err r) =
    ap (λ (w : Option CodeSide.Side). Err (record { which = w; refusal = refusal_back (number_of r.refusal.cause) r.refusal.place })) (which-back r.which)
    ∙ ap (λ (x : Refusal). Err (record { which = r.which; refusal = x })) (refusal-back r.refusal)
outcome-back (Ok f) = refl

pub outcome_is-injective : (x y : Result Found Refused) → outcome_is x ≡ outcome_is y → x ≡ y
outcome_is-injective = back-injective outcome_is outcome_back outcome-back

-- what reading answers
abbrev reading_back : Reading → Result ℕ Refusal
reading_back (fails n p) = Err (refusal_back n p)
reading_back (reads k) = Ok k

reading-back : (x : Result ℕ Refusal) → reading_back (reading_is x) ≡ x
reading-back (Err r) = ap (λ (x : Refusal). Err x) (refusal-back r)
reading-back (Ok k) = refl

pub reading_is-injective : (x y : Result ℕ Refusal) → reading_is x ≡ reading_is y → x ≡ y
reading_is-injective = back-injective reading_is reading_back reading-back

-- a run
abbrev run_back : Run → Option ℕ
run_back none = None
run_back (at a) = Some a

run-back : (x : Option ℕ) → run_back (run_is x) ≡ x
run-back None = refl
run-back (Some a) = refl

pub run_is-injective : (x y : Option ℕ) → run_is x ≡ run_is y → x ≡ y
run_is-injective = back-injective run_is run_back run-back
