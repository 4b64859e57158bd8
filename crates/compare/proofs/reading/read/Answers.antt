-- `compare::reading::read` meets its contract: the header, and then the pieces.
use mathlib.Core.Path.{◌≡◌, ap, sym, ◌∙◌}
use native.Mathlib.Omega.{arith}
use Rattle.plan.specs.Plan.{counts, judge_header}
use Rattle.plan.proofs.PlanLaws.{header-passed}
use Rattle.plan.specs.Code.{header_is}
use Rattle.compare.specs.Reading.{read_compared}
use Rattle.compare.proofs.reading.read.Goals as goal
use Rattle.compare.proofs.reading.read.Goals.{In-Ok}

-- the header passed its tests
passed : (c : In-Ok) → judge_header c.args.plan.now ≡ counts c.in-Ok.count
passed c = sym c.judge_header.ensures ∙ ap header_is c.in-Ok.is

pub read_pieces-requires : goal.read_pieces-requires
read_pieces-requires c = let p = header-passed c.args.plan.now (passed (goal.at.read_pieces-requires c).In-Ok) in
    omega (arith, p.few, p.count)

pub returns-in-Ok : goal.returns-in-Ok
unfolding read_compared
returns-in-Ok c = rw (passed (goal.at.returns-in-Ok c).In-Ok) c.read_pieces.ensures

pub returns-in-Err : goal.returns-in-Err
unfolding read_compared
returns-in-Err c = rw (sym c.judge_header.ensures ∙ ap header_is c.in-Err.is, c.at.ensures)
