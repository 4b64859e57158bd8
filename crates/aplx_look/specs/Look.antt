-- What an APLX load answers (paper 01, "APLX"). Nothing is stored.
pub mod Header
pub mod Laws
use Rattle.std.specs.Prelude.{Bool, false, ◌||◌, List, [], ◌∷◌, ◌++◌, ℕ, suc, ◌*◌, ◌%◌, eqb, length, if◌then◌else◌}
use Rattle.words.specs.Range.{meets}
use Rattle.memory_map.specs.declared.map.Map.{Map}
use Rattle.outcome.specs.Outcome.{Ending, stops, refuses, Outcome, outcome_at}
use Rattle.outcome.specs.Destinations.{Range, stored_in}
use Rattle.memory_map.specs.Map.{sound}
use Rattle.memory_map.specs.Lookup.{Lookup, lookup}
use Rattle.aplx_command.specs.Command.{Command, copy, fill, exec, other}
use Rattle.aplx_look.specs.Walk.{walk, commands}

-- ---- destinations
-- the ranges that a command stores to: its "rounded destination", or none
abbrev pub destinations_of : Command → List Range
destinations_of (copy d s n) = record { address = d; length = n } ∷ []
destinations_of (fill d n w) = record { address = d; length = n } ∷ []
destinations_of (exec x) = []
destinations_of (other c) = []

unfoldable pub destinations : List Command → List Range
destinations [] = []
destinations (c ∷ cs) = destinations_of c ++ destinations cs

-- ---- the test for 8
-- one of the ranges shares a byte with k addresses from h on
abbrev pub any_meets : ℕ → ℕ → List Range → Bool
any_meets h k [] = false
any_meets h k (r ∷ rs) = any_meets h k rs || meets r.address r.length h k

unfoldable pub meets_header : ℕ → ℕ → Command → Bool
meets_header h k c = any_meets h k (destinations_of c)

-- "8: the first entry whose rounded destination shares a byte with any entry read"; the first of the commands has index i
unfoldable pub header_test : ℕ → ℕ → List Command → ℕ → Ending → Ending
header_test h k [] i x = x
header_test h k (c ∷ cs) i x = if meets_header h k c then refuses 8 i else header_test h k cs (suc i) x

-- "When the walk has found its stop": the entries read are the commands and "the stop included"
abbrev pub tested : ℕ → List Command → Ending → Ending
tested h cs (stops s) = header_test h (16 * suc (length cs)) cs 0 (stops s)
tested h cs (refuses n p) = refuses n p

-- ---- the look
-- what the tests give: the commands before the end, and the end
pub record Look : Type 0 where
  pub commands : List Command
  pub ending : Ending

abbrev pub look_of : ℕ → List Command → Ending → Look
look_of h cs x = record { commands = cs; ending = tested h cs x }

-- "header address not a multiple of 4, 3. Then per entry" .. "Then 8."
unfoldable pub look : Lookup → List ℕ → ℕ → Look
look find m h =
    if eqb (h % 4) 0 then look_of h (commands find m h (walk find m h).count) (walk find m h).ending
    else record { commands = []; ending = refuses 3 0 }

-- "When a map is used, 1 is tested before all else."
unfoldable pub aplx_look : Map → List ℕ → ℕ → Look
aplx_look map m h =
    if sound map (length m) then look (lookup map) m h
    else record { commands = []; ending = refuses 1 0 }

-- the outcome, with "how many entries or blocks it took before the stop and how many bytes it stored"
abbrev pub outcome_of_look : Look → Outcome
outcome_of_look l = outcome_at l.ending (length l.commands) (stored_in (destinations l.commands))
