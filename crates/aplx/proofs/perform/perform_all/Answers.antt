-- `aplx::perform::perform_all` meets its contract: the loop's invariant: the rest of the commands, carried out on memory as it now is, leave what all leave, and the rest of the entries are untouched.
use Rattle.std.proofs.Common.{◌≡◌, ap, ◌∙◌, arith, length}
use Rattle.memory_map.specs.Lookup.{lookup, place_of}
use Rattle.memory_map.proofs.LookupLaws.{lawful}
use Rattle.aplx.proofs.Storing.{entry_at, finished, Next, next}
use Rattle.aplx_command.specs.Code.{command_is}
use Rattle.aplx.proofs.perform.perform_all.Goals as goal
use Rattle.aplx.proofs.perform.perform_all.Goals.{After-command_at-command, In-loop}

-- what holds of the next entry
there : (c : In-loop) → Next (lookup c.args.map) c.args.memory.now c.args.header c.args.count c.loop.memory c.loop.address c.loop.counter
there c = next c.loop.invariant (lawful c.args.map (length c.args.memory.now) c.requires.0) c.requires.1 (omega arith)

-- its command
commanded : (c : After-command_at-command) → command_is c.command_at-command.result ≡ entry_at (lookup c.args.map) c.loop.memory c.loop.address
commanded c = rw (c.place-entry.ensures ∙ ap place_of c.lookup.ensures) at c.command_at-command.ensures

pub perform_command-requires : goal.perform_command-requires
perform_command-requires c =
    (rw c.loop.invariant.size c.requires.0, rw (commanded (goal.at.perform_command-requires c).After-command_at-command) (there (goal.at.perform_command-requires c).In-loop).performable)

pub overflow_add-address : goal.overflow_add-address
overflow_add-address c = omega (arith, (there (goal.at.overflow_add-address c).In-loop).below)

pub loop-preserved : goal.loop-preserved
loop-preserved c =
    rw (c.perform_command.ensures, commanded (goal.at.loop-preserved c).After-command_at-command) (there (goal.at.loop-preserved c).In-loop).progress

pub returns : goal.returns
returns c = finished c.loop.invariant (omega arith)
