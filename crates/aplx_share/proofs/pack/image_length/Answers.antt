-- `aplx_share::pack::image_length` meets its contract: the length of the image by its count of pieces and the lengths of what is kept.
use Rattle.std.proofs.Common.{arith}
use Rattle.plan.specs.Plan.{read_plan}
use Rattle.plan.proofs.CodeLaws.{Counted, counted}
use Rattle.plan.proofs.CodePackerLaws.{counted-read}
use Rattle.aplx_share.proofs.CollectedSteps.{image-size}
use Rattle.aplx_share.proofs.pack.image_length.Goals as goal
use Rattle.aplx_share.proofs.pack.image_length.Goals.{In-Ok}

-- the plan was accepted
read-plan : (c : In-Ok) → Counted (read_plan 32 c.args.plan.now) c.in-Ok.pieces.count c.in-Ok.pieces.puts c.in-Ok.pieces.fills
read-plan c = counted 32 c.args.plan.now c.type_inv.plan c.read.ensures c.in-Ok.is

pub overflow_cast-pieces : goal.overflow_cast-pieces
overflow_cast-pieces c = omega (arith, read-plan (goal.at.overflow_cast-pieces c).In-Ok)

pub collect-requires : goal.collect-requires
collect-requires c = counted-read (read-plan (goal.at.collect-requires c).In-Ok)

pub overflow_add-result : goal.overflow_add-result
overflow_add-result c = omega (arith, read-plan (goal.at.overflow_add-result c).In-Ok)

pub overflow_mul-result : goal.overflow_mul-result
overflow_mul-result c = omega (arith, read-plan (goal.at.overflow_mul-result c).In-Ok)

pub overflow_add-result-in-Ok : goal.overflow_add-result-in-Ok
overflow_add-result-in-Ok c = omega (arith, read-plan (goal.at.overflow_add-result-in-Ok c).In-Ok, c.collect.ensures.most)

pub returns-in-Ok : goal.returns-in-Ok
returns-in-Ok c =
    let r = read-plan (goal.at.returns-in-Ok c).In-Ok in
    rw r.accepted (image-size c.args.plan.now (counted-read r) c.collect.ensures)
