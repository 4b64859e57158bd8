-- Run addresses (paper 01, "Memory map", third paragraph).
use Rattle.std.specs.Prelude.{Bool, false, ℕ, ◌-◌, ◌%◌, eqb, if◌then◌else◌, Result, Ok, Err}
use Rattle.memory_region.specs.declared.region.Right.TheVariants.{Run}
use Rattle.outcome.specs.declared.answer.Entry.{Entry}
use Rattle.outcome.specs.declared.refusal.Cause.{Cause}
use Rattle.outcome.specs.Refusal.{number_of}
use Rattle.outcome.specs.Outcome.{Kind, arm, thumb, kind_of, address_of}
use Rattle.memory_map.specs.Lookup.{Lookup, found}

-- "bit 0 set is a Thumb entry: less 1, it must lie in a run region. With bits 1:0 both clear it is an ARM entry and must lie in
-- a run region. Bits 1:0 = 2 is never legal."
unfoldable pub legal : Lookup → ℕ → Bool
legal find a =
    if eqb (a % 2) 1 then found (find Run (a - 1) 1)
    else if eqb (a % 4) 0 then found (find Run a 1)
    else false

abbrev pub kind_at : ℕ → Kind
kind_at a = if eqb (a % 2) 1 then thumb else arm

-- what a run address is
pub data RunEntry : Type 0 where
  entry : Kind → ℕ → RunEntry  -- kind, address as written
  refused : ℕ → RunEntry  -- number

unfoldable pub run_entry : Lookup → ℕ → RunEntry
run_entry find a = if legal find a then entry (kind_at a) a else refused 9

-- ---- the code's answer
abbrev pub run_entry_of : Result Entry Cause → RunEntry
run_entry_of (Ok e) = entry (kind_of e) (address_of e)
run_entry_of (Err c) = refused (number_of c)
