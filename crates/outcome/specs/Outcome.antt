-- What a load answers, in the terms of paper 01 ("Memory map", last paragraph; "Refusal numbers"; "APLX", last paragraph),
-- and what each case of the code's answer says in these terms.
use Rattle.std.specs.Prelude.{List, ℕ, Result, Ok, Err}
use Rattle.outcome.specs.declared.answer.Entry.{Entry}
use Rattle.outcome.specs.declared.answer.Entry.TheVariants.{Arm, Thumb}
use Rattle.outcome.specs.declared.answer.Stop as CodeStop
use Rattle.outcome.specs.declared.answer.Stop.TheVariants.{End, Unknown, Run}
use Rattle.outcome.specs.declared.answer.Load.{Load}
use Rattle.outcome.specs.declared.refusal.Refusal.{Refusal}
use Rattle.outcome.specs.Refusal.{number_of}

-- the kind of a run's entry
pub data Kind : Type 0 where
  arm thumb : Kind

-- why a load stopped
pub data Stop : Type 0 where
  end : ℕ → Stop  -- place
  unknown : ℕ → ℕ → Stop  -- command word, place
  run : Kind → ℕ → ℕ → Stop  -- kind, address as written, resume

-- a refused load, or an accepted one
pub data Outcome : Type 0 where
  refused : ℕ → ℕ → Outcome  -- number, place
  accepted : Stop → ℕ → ℕ → Outcome  -- stop, entries or blocks taken, bytes stored

-- how the tests of a load end: at its stop, or at the first refusal
pub data Ending : Type 0 where
  stops : Stop → Ending
  refuses : ℕ → ℕ → Ending  -- number, place

-- the outcome, with what was taken and stored before the stop
abbrev pub outcome_at : Ending → ℕ → ℕ → Outcome
outcome_at (stops s) t b = accepted s t b
outcome_at (refuses n p) t b = refused n p

-- and without it
abbrev pub ending_of : Outcome → Ending
ending_of (refused n p) = refuses n p
ending_of (accepted s t b) = stops s

-- "Memory and output keep every byte" of a refused load
abbrev pub memory_at : Ending → List ℕ → List ℕ → List ℕ
memory_at (stops s) old new = new
memory_at (refuses n p) old new = old

-- what a load leaves: its outcome, and every byte of memory
pub record Loaded : Type 0 where
  pub outcome : Outcome
  pub memory : List ℕ

-- ---- the code's answers
abbrev pub kind_of : Entry → Kind
kind_of (Arm a) = arm
kind_of (Thumb a) = thumb

abbrev pub address_of : Entry → ℕ
address_of (Arm a) = a
address_of (Thumb a) = a

abbrev pub stop_of : CodeStop.Stop → Stop
stop_of (End p) = end p
stop_of (Unknown c p) = unknown c p
stop_of (Run e r) = run (kind_of e) (address_of e) r

abbrev pub outcome_of : Result Load Refusal → Outcome
outcome_of (Err r) = refused (number_of r.cause) r.place
outcome_of (Ok l) = accepted (stop_of l.stop) l.taken l.stored
