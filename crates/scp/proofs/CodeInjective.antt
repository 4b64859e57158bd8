-- An answer of the code can be read back from what it says. So two that say the same are the same, and an equation of what an answer says
-- decides it.
use Rattle.std.specs.Prelude.{◌≡◌, refl, Result, Ok, Err}
use Rattle.std.proofs.Common.{ap}
use Rattle.outcome.specs.declared.answer.Entry.{Entry}
use Rattle.outcome.specs.declared.refusal.Refusal.{Refusal}
use Rattle.outcome.proofs.OutcomeInjective.{back-injective, refusal_back, refusal-back, entry_back, entry-back}
use Rattle.scp.specs.declared.answer.Reply as code
use Rattle.scp.specs.declared.answer.Reply.TheVariants.{Silent, Response, Run, Load}
use Rattle.scp.specs.Answer.{Reply, refused, silent, responds, runs, loads}
use Rattle.scp.specs.Code.{reply_of}

abbrev reply_back : Reply → Result code.Reply Refusal
reply_back (refused n p) = Err (refusal_back n p)
reply_back silent = Ok Silent
reply_back (responds n) = Ok (Response n)
reply_back (runs k a) = Ok (Run (entry_back k a))
reply_back (loads k a r) = Ok (Load (entry_back k a) r)

reply-back : (x : Result code.Reply Refusal) → reply_back (reply_of x) ≡ x
reply-back (Err r) = ap (λ (x : Refusal). Err x) (refusal-back r)
reply-back (Ok Silent) = refl
reply-back (Ok (Response n)) = refl
reply-back (Ok (Run e)) = ap (λ (x : Entry). Ok (Run x)) (entry-back e)
reply-back (Ok (Load e r)) = ap (λ (x : Entry). Ok (Load x r)) (entry-back e)

pub reply-injective : (x y : Result code.Reply Refusal) → reply_of x ≡ reply_of y → x ≡ y
reply-injective = back-injective reply_of reply_back reply-back
