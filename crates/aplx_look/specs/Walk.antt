-- The tests of the entries, one after the other up to the stop (paper 01, "APLX"). Nothing is stored.
pub mod Laws
use Rattle.std.specs.Prelude.{not, List, [], ◌∷◌, ℕ, zero, suc, ◌+◌, ◌%◌, eqb, if◌then◌else◌}
use Rattle.memory_region.specs.declared.region.Right.TheVariants.{Read, Write}
use Rattle.outcome.specs.Outcome.{end, unknown, run, Ending, stops, refuses}
use Rattle.memory_map.specs.Lookup as map
use Rattle.memory_map.specs.Lookup.{Lookup, Found, place_of}
use Rattle.memory_map.specs.Entry as entry
use Rattle.memory_map.specs.Entry.{RunEntry, run_entry}
use Rattle.aplx_command.specs.Command.{Command, copy, fill, exec, other, command_at}

-- what the tests of one entry say
pub data Verdict : Type 0 where
  goes : Verdict
  halts : Ending → Verdict

-- the entry with index i goes on to the next test if the range was found
abbrev pub permitted : Found → ℕ → Verdict → Verdict
permitted (map.at p) i v = v
permitted (map.refused x) i v = halts (refuses x i)

-- "EXEC stops the load; resume is that entry plus 16.": the entry at address a
abbrev pub run_of : RunEntry → ℕ → ℕ → Verdict
run_of (entry.entry k x) a i = halts (stops (run k x (a + 16)))
run_of (entry.refused y) a i = halts (refuses y i)

-- "Any other command word stops the load; 0xFFFFFFFF is reported as the end, any other as unknown with its value."
unfoldable pub other_command : ℕ → ℕ → Verdict
other_command c i = halts (stops (if eqb c 0xffffffff then end i else unknown c i))

-- "5; 3 (destination, then source, multiples of 4); 4 (destination writable, source readable); EXEC, 9"
unfoldable pub tests : Lookup → ℕ → ℕ → Command → Verdict
tests find a i (copy d s n) =
    if eqb n 0 then halts (refuses 5 i)
    else if not (eqb (d % 4) 0) then halts (refuses 3 i)
    else if not (eqb (s % 4) 0) then halts (refuses 3 i)
    else permitted (find Write d n) i (permitted (find Read s n) i goes)
tests find a i (fill d n w) =
    if eqb n 0 then halts (refuses 5 i)
    else if not (eqb (d % 4) 0) then halts (refuses 3 i)
    else permitted (find Write d n) i goes
tests find a i (exec x) = run_of (run_entry find x) a i
tests find a i (other c) = other_command c i

-- "per entry: 6 (its 16 bytes)", then these
abbrev pub judge_at : Found → Lookup → List ℕ → ℕ → ℕ → Verdict
judge_at (map.at p) find m a i = tests find a i (command_at m p a)
judge_at (map.refused x) find m a i = halts (refuses 6 i)

-- the entry with index i, at address a
unfoldable pub judge : Lookup → List ℕ → ℕ → ℕ → Verdict
judge find m a i = judge_at (find Read a 16) find m a i

-- the entries before the stop, and the stop or the refusal
pub record Walk : Type 0 where
  pub count : ℕ
  pub ending : Ending

abbrev pub after : Verdict → ℕ → Walk → Walk
after goes i w = w
after (halts x) i w = record { count = i; ending = x }

-- from the entry with index i, at address a, with f entries left to read. "After 256 without a stop, 7."
unfoldable pub walk_for : ℕ → Lookup → List ℕ → ℕ → ℕ → Walk
walk_for zero find m a i = record { count = i; ending = refuses 7 i }
walk_for (suc f) find m a i = after (judge find m a i) i (walk_for f find m (a + 16) (suc i))

unfoldable pub walk : Lookup → List ℕ → ℕ → Walk
walk find m h = walk_for 256 find m h 0

-- the commands of n entries from address a on
unfoldable pub commands : Lookup → List ℕ → ℕ → ℕ → List Command
commands find m a zero = []
commands find m a (suc n) = command_at m (place_of (find Read a 16)) a ∷ commands find m (a + 16) n
