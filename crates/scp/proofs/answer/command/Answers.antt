-- `scp::answer::command` meets its contract: the arms are the tests of the definition, in its order.
use Rattle.std.proofs.Common.{sym, ◌∙◌, arith}
use Rattle.scp.specs.Answer.{command}
use Rattle.scp.proofs.ReplyLaws.{length-version}
use Rattle.scp.proofs.answer.command.Goals as goal

pub returns-in-0-clause-outcome : goal.returns-in-0-clause-outcome
unfolding command
returns-in-0-clause-outcome c = let x = c.args in
    let e = c.version.ensures in
    simp (sym c.le_half.ensures ∙ c.in-0.is, e.result_value, e.output_after, length-version x.packet.now (omega arith) x.identity)
