-- An answer of the code can be read back from what it says. So two that say the same are the same, and an equation of what an answer says
-- decides it.
use Rattle.std.specs.Prelude.{◌≡◌, refl, ℕ, Option, Some, None, Result, Ok, Err}
use Rattle.std.proofs.Common.{ap}
use Rattle.outcome.specs.declared.answer.Stop as CodeStop
use Rattle.outcome.specs.declared.refusal.Cause.{Cause}
use Rattle.outcome.specs.declared.refusal.Refusal.{Refusal}
use Rattle.outcome.specs.Outcome.{Ending, stops, refuses}
use Rattle.outcome.proofs.OutcomeInjective.{back-injective, cause_back, cause-back, refusal_back, refusal-back, stop_back, stop-back}
use Rattle.aplx_look.specs.Walk.{Verdict, goes, halts, Walk}
use Rattle.aplx_look.specs.Code.{verdict_is, ending_is, walk_is}

abbrev verdict_back : Verdict → Result (Option CodeStop.Stop) Cause
verdict_back goes = Ok None
verdict_back (halts (stops s)) = Ok (Some (stop_back s))
verdict_back (halts (refuses n p)) = Err (cause_back n)

verdict-back : (i : ℕ) (x : Result (Option CodeStop.Stop) Cause) → verdict_back (verdict_is i x) ≡ x
verdict-back i (Ok None) = refl
verdict-back i (Ok (Some s)) = ap (λ (x : CodeStop.Stop). Ok (Some x)) (stop-back s)
verdict-back i (Err c) = ap (λ (x : Cause). Err x) (cause-back c)

pub verdict-injective : (i : ℕ) (x y : Result (Option CodeStop.Stop) Cause) → verdict_is i x ≡ verdict_is i y → x ≡ y
verdict-injective i = back-injective (verdict_is i) verdict_back (verdict-back i)

abbrev ending_back : Ending → Result CodeStop.Stop Refusal
ending_back (stops s) = Ok (stop_back s)
ending_back (refuses n p) = Err (refusal_back n p)

ending-back : (x : Result CodeStop.Stop Refusal) → ending_back (ending_is x) ≡ x
ending-back (Ok s) = ap (λ (x : CodeStop.Stop). Ok x) (stop-back s)
ending-back (Err r) = ap (λ (x : Refusal). Err x) (refusal-back r)

pub ending-injective : (x y : Result CodeStop.Stop Refusal) → ending_is x ≡ ending_is y → x ≡ y
ending-injective = back-injective ending_is ending_back ending-back

abbrev walk_back_to : ℕ → Ending → Result (ℕ × CodeStop.Stop) Refusal
walk_back_to c (stops s) = Ok (c, stop_back s)
walk_back_to c (refuses n p) = Err (refusal_back n p)

abbrev walk_back : Walk → Result (ℕ × CodeStop.Stop) Refusal
walk_back w = walk_back_to w.count w.ending

walk-back : (x : Result (ℕ × CodeStop.Stop) Refusal) → walk_back (walk_is x) ≡ x
walk-back (Ok w) = ap (λ (x : CodeStop.Stop). Ok (w.0, x)) (stop-back w.1)
walk-back (Err r) = ap (λ (x : Refusal). Err x) (refusal-back r)

pub walk-injective : (x y : Result (ℕ × CodeStop.Stop) Refusal) → walk_is x ≡ walk_is y → x ≡ y
walk-injective = back-injective walk_is walk_back walk-back
