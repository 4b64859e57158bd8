-- What the code's answers say, in the terms of the definitions.
use Rattle.std.specs.Prelude.{ℕ, Option, Some, None, Result, Ok, Err}
use Rattle.outcome.specs.declared.answer.Stop as CodeStop
use Rattle.outcome.specs.declared.refusal.Cause.{Cause}
use Rattle.outcome.specs.declared.refusal.Refusal.{Refusal}
use Rattle.outcome.specs.Refusal.{number_of}
use Rattle.outcome.specs.Outcome.{stop_of, Ending, stops, refuses}
use Rattle.aplx_look.specs.Walk.{Verdict, goes, halts, Walk}

-- the tests of the entry with index i
abbrev pub verdict_is : ℕ → Result (Option CodeStop.Stop) Cause → Verdict
verdict_is i (Ok None) = goes
verdict_is i (Ok (Some s)) = halts (stops (stop_of s))
verdict_is i (Err c) = halts (refuses (number_of c) i)

-- how a walk ended
abbrev pub ending_is : Result CodeStop.Stop Refusal → Ending
ending_is (Ok s) = stops (stop_of s)
ending_is (Err r) = refuses (number_of r.cause) r.place

-- the walk. A refused one ended at the entry that its refusal names
abbrev pub walk_is : Result (ℕ × CodeStop.Stop) Refusal → Walk
walk_is (Ok w) = record { count = w.0; ending = ending_is (Ok w.1) }
walk_is (Err r) = record { count = r.place; ending = ending_is (Err r) }
