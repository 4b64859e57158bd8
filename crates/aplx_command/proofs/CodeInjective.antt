-- A command of the code can be read back from what it says. So two that say the same are the same.
use Rattle.std.specs.Prelude.{◌≡◌, refl}
use Rattle.outcome.proofs.OutcomeInjective.{back-injective}
use Rattle.aplx_command.specs.declared.command.Command as code
use Rattle.aplx_command.specs.declared.command.Command.TheVariants.{Copy, Fill, Exec, Other}
use Rattle.aplx_command.specs.Command.{Command, copy, fill, exec, other}
use Rattle.aplx_command.specs.Code.{command_is}

abbrev command_back : Command → code.Command
command_back (copy d s n) = Copy d s n
command_back (fill d n w) = Fill d n w
command_back (exec a) = Exec a
command_back (other c) = Other c

command-back : (x : code.Command) → command_back (command_is x) ≡ x
command-back (Copy d s n) = refl
command-back (Fill d n w) = refl
command-back (Exec a) = refl
command-back (Other c) = refl

pub command-injective : (x y : code.Command) → command_is x ≡ command_is y → x ≡ y
command-injective = back-injective command_is command_back command-back
