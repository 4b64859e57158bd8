-- The code's run entry can be read back from what it says. So two that say the same are the same, and an equation of what it says decides it.
use Rattle.std.specs.Prelude.{◌≡◌, Result, Ok, Err}
use Rattle.std.proofs.Common.{ap}
use Rattle.outcome.specs.declared.answer.Entry.{Entry}
use Rattle.outcome.specs.declared.refusal.Cause.{Cause}
use Rattle.outcome.proofs.OutcomeInjective.{back-injective, entry_back, entry-back, cause_back, cause-back}
use Rattle.memory_map.specs.Entry.{RunEntry, entry, refused, run_entry_of}

abbrev run_entry_back : RunEntry → Result Entry Cause
run_entry_back (entry k a) = Ok (entry_back k a)
run_entry_back (refused n) = Err (cause_back n)

run-entry-back : (x : Result Entry Cause) → run_entry_back (run_entry_of x) ≡ x
run-entry-back (Ok e) = ap (λ (x : Entry). Ok x) (entry-back e)
run-entry-back (Err c) = ap (λ (x : Cause). Err x) (cause-back c)

pub run-entry-injective : (x y : Result Entry Cause) → run_entry_of x ≡ run_entry_of y → x ≡ y
run-entry-injective = back-injective run_entry_of run_entry_back run-entry-back
