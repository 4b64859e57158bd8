-- What the laws of the load say of commands that may be performed.
use Rattle.std.specs.Prelude.{◌≡◌, ◌%◌}
use Rattle.memory_map.specs.Lookup.{Lookup}
use Rattle.aplx_command.specs.Command.{Command}
use Rattle.aplx_look.specs.Look.Header.{bytes_of}
use Rattle.aplx_look.specs.Look.Laws.{Permitted}

-- the ranges of a command are permitted, and whole words
abbrev pub Performable : Lookup → Command → Type 0
Performable find c = Permitted find c × (bytes_of c % 4 ≡ 0)
