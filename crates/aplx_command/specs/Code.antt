-- What the cases of the code's enum say, in the terms of the definitions.
use Rattle.aplx_command.specs.declared.command.Command as code
use Rattle.aplx_command.specs.declared.command.Command.TheVariants.{Copy, Fill, Exec, Other}
use Rattle.aplx_command.specs.Command.{Command, copy, fill, exec, other}

abbrev pub command_is : code.Command → Command
command_is (Copy d s n) = copy d s n
command_is (Fill d n w) = fill d n w
command_is (Exec a) = exec a
command_is (Other c) = other c
