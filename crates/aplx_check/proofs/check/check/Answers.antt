-- `aplx_check::check::check` meets its contract: the plan, and then the image.
use Rattle.std.proofs.Common.{sym, arith}
use Rattle.std.proofs.lemmas.Result.{err_from_is_err_and}
use Rattle.plan.specs.Plan.{read_plan}
use Rattle.plan.proofs.CodePackerLaws.{counted-read}
use Rattle.plan.proofs.CodeLaws.{Counted, counted}
use Rattle.aplx_check.specs.Check.{check}
use Rattle.aplx_check.proofs.CodeLaws.{plan-refused}
use Rattle.aplx_check.proofs.check.check.Goals as goal
use Rattle.aplx_check.proofs.check.check.Goals.{In_ok-pieces}

-- the plan was read
plan-read : (c : In_ok-pieces) → let p = c.in_ok-pieces.pieces in
    Counted (read_plan 1 c.args.plan.now) p.count p.puts p.fills
plan-read c = counted 1 c.args.plan.now c.type_inv.plan c.read.ensures c.in_ok-pieces.was

pub overflow_cast-pieces : goal.overflow_cast-pieces
overflow_cast-pieces c = let r = plan-read (goal.at.overflow_cast-pieces c).In_ok-pieces in omega (arith, r.few)

pub check_pieces-requires : goal.check_pieces-requires
check_pieces-requires c = counted-read (plan-read (goal.at.check_pieces-requires c).In_ok-pieces)

pub returns-in_err-pieces : goal.returns-in_err-pieces
unfolding check
returns-in_err-pieces c = let x = c.args in
    let p = err_from_is_err_and c.from_residual.result c.from_residual.ensures.1 in
    rw (p.1, p.2) (sym (plan-refused x.image.now (read_plan 1 x.plan.now) (sym c.in_err-pieces.ensures)))

pub returns : goal.returns
unfolding check
returns c = rw (plan-read (goal.at.returns c).In_ok-pieces).accepted c.check_pieces.ensures
