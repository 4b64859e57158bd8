-- `aplx_share::pack::pack` meets its contract: a refused plan, an output shorter than the entries, or than the image; or the image.
use Rattle.std.specs.Prelude.{refl, ◌+◌, ◌*◌}
use Rattle.std.proofs.Common.{◌∙◌, arith}
use Rattle.std.proofs.lemmas.Result.{err_from_is_err_and}
use Rattle.plan.specs.Plan.{read_plan}
use Rattle.plan.specs.Packed.{plan_pieces}
use Rattle.plan.proofs.CodeLaws.{Counted, counted}
use Rattle.plan.proofs.CodePackerLaws.{counted-read, leaves-refused, leaves-small, leaves-image}
use Rattle.aplx_share.specs.Contents.{kept_contents}
use Rattle.aplx_share.proofs.ContentsLaws.{length-joined}
use Rattle.aplx_share.specs.SharedImage.{shared_image, pack_shared}
use Rattle.aplx_share.proofs.SharedImageLaws.{length-shared_image, written-image}
use Rattle.aplx_share.proofs.CollectedSteps.{all-kept, all_placed, image-size}
use Rattle.aplx_share.proofs.pack.pack.Goals as goal
use Rattle.aplx_share.proofs.pack.pack.Goals.{In_ok-pieces}

-- the plan was accepted
read-plan : (c : In_ok-pieces) → let p = c.in_ok-pieces.pieces in Counted (read_plan 32 c.args.plan.now) p.count p.puts p.fills
read-plan c = counted 32 c.args.plan.now c.type_inv.plan c.read.ensures c.in_ok-pieces.was

pub returns-in_err-pieces : goal.returns-in_err-pieces
unfolding pack_shared
returns-in_err-pieces c = let x = c.args in
    let p = err_from_is_err_and c.from_residual.result c.from_residual.ensures.1 in
    let facts = leaves-refused shared_image (read_plan 32 x.plan.now) x.output.now c.read.ensures c.in_err-pieces.was in
    record { result_value = rw (p.1, p.2) facts.0; output_after = facts.1 }

pub overflow_add-front : goal.overflow_add-front
overflow_add-front c = omega (arith, (read-plan (goal.at.overflow_add-front c).In_ok-pieces).few)

pub overflow_mul-front : goal.overflow_mul-front
overflow_mul-front c = omega (arith, (read-plan (goal.at.overflow_mul-front c).In_ok-pieces).few)

pub returns-then-output-front : goal.returns-then-output-front
unfolding pack_shared
returns-then-output-front c = let x = c.args in
    let t = counted-read (read-plan (goal.at.returns-then-output-front c).In_ok-pieces) in
    let r = leaves-small shared_image (read_plan 32 x.plan.now) x.output.now t refl (omega (arith, length-shared_image (plan_pieces 32 x.plan.now), t.counts)) in
    record { result_value = rw c.at.ensures r.0; output_after = r.1 }

pub overflow_cast-count : goal.overflow_cast-count
overflow_cast-count c = omega (arith, (read-plan (goal.at.overflow_cast-count c).In_ok-pieces).few)

pub collect-kept-requires : goal.collect-kept-requires
collect-kept-requires c = counted-read (read-plan (goal.at.collect-kept-requires c).In_ok-pieces)

pub overflow_add-size : goal.overflow_add-size
overflow_add-size c = omega (arith, (read-plan (goal.at.overflow_add-size c).In_ok-pieces).few, c.collect-kept.ensures.most)

pub returns-then-output-size : goal.returns-then-output-size
unfolding pack_shared
returns-then-output-size c = let x = c.args in
    let t = counted-read (read-plan (goal.at.returns-then-output-size c).In_ok-pieces) in
    let r = leaves-small shared_image (read_plan 32 x.plan.now) x.output.now t (image-size x.plan.now t c.collect-kept.ensures) (omega arith) in
    record { result_value = rw c.at.ensures r.0; output_after = r.1 }

pub write_entries-requires : goal.write_entries-requires
write_entries-requires c =
    let t = counted-read (read-plan (goal.at.write_entries-requires c).In_ok-pieces) in
    (t, all_placed c.args.plan.now t c.collect-kept.ensures, omega (arith, t.few), omega arith)

pub write_contents-requires : goal.write_contents-requires
write_contents-requires c =
    let s = c.args.plan.now in
    let ps = plan_pieces 32 s in
    let t = counted-read (read-plan (goal.at.write_contents-requires c).In_ok-pieces) in
    let k = all-kept s t c.collect-kept.ensures in
    rw c.contents.ensures (
      c.collect-kept.ensures.located,
      rw k (omega (arith, length-joined (kept_contents ps), length-shared_image ps, t.counts, image-size s t c.collect-kept.ensures, c.write_entries.auto.output)),
    )

pub returns : goal.returns
unfolding pack_shared
returns c = let x = c.args in
    let ps = plan_pieces 32 x.plan.now in
    let t = counted-read (read-plan (goal.at.returns c).In_ok-pieces) in
    let size = image-size x.plan.now t c.collect-kept.ensures in
    let k = all-kept x.plan.now t c.collect-kept.ensures in
    let after = rw (c.contents.ensures, k, c.write_entries.ensures) at c.write_contents.ensures
    ∙ written-image ps x.output.now (16 * (c.in_ok-pieces.pieces.count + 1)) (omega (arith, t.counts)) (omega (arith, size)) in
    let facts = leaves-image shared_image (read_plan 32 x.plan.now) x.output.now t size (omega arith) after in
    record { result_value = facts.0; output_after = facts.1 }
