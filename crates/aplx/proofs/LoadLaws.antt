-- Laws of the load: commands that may be performed, and the load with a sound map.
use Rattle.std.specs.Prelude.{◌≡◌, true, List, ℕ, length}
use Rattle.memory_map.specs.declared.map.Map.{Map}
use Rattle.memory_map.specs.Map.{sound}
use Rattle.memory_map.specs.Lookup.{Lookup, lookup}
use Rattle.aplx_command.specs.Command.{command_at}
use Rattle.aplx_look.specs.Walk.{goes, tests}
use Rattle.aplx_look.specs.Look.{aplx_look}
use Rattle.aplx_look.proofs.LookLaws.{goes-permitted, whole_words}
use Rattle.aplx.specs.Load.{load_with, aplx_load}
use Rattle.aplx.specs.Load.Laws.{Performable}

pub goes-performable :
    (find : Lookup) (m : List ℕ) (a i p : ℕ) → tests find a i (command_at m p a) ≡ goes → Performable find (command_at m p a)
goes-performable find m a i p e = (goes-permitted find a i (command_at m p a) e, whole_words m p a)

pub sound-load : (map : Map) (m : List ℕ) (h : ℕ) → sound map (length m) ≡ true → aplx_load map m h ≡ load_with (lookup map) m h
unfolding aplx_load load_with aplx_look
sound-load map m h e = rw e
