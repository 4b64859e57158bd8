-- The bytes that a command stores.
use Rattle.std.specs.Prelude.{ℕ}
use Rattle.aplx_command.specs.Command.{Command, copy, fill, exec, other}

abbrev pub bytes_of : Command → ℕ
bytes_of (copy d s n) = n
bytes_of (fill d n w) = n
bytes_of (exec x) = 0
bytes_of (other c) = 0
