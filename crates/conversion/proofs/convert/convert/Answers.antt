-- `conversion::convert::convert` meets its contract: a plan that is too long, and one that was packed or refused.
use native.Mathlib.Omega.{arith}
use lib.ListN.{length}
use Rattle.plan.specs.Code.Packer.{outcome_is}
use Rattle.conversion.specs.Conversion.{pack_for}
use Rattle.conversion.proofs.ConversionLaws.{image-fits, too_long, short}
use Rattle.conversion.proofs.ShownLaws.{shown-done}
use Rattle.conversion.proofs.convert.convert.Goals as goal

pub returns-then-plan-gt32768 : goal.returns-then-plan-gt32768
returns-then-plan-gt32768 c = let x = c.args in
    let w = c.put.ensures in
    let n = c.number.ensures in
    let d = too_long x.packing x.plan.now x.output.now (omega arith) (rw n at w.value) (rw n at w.output_after) in
    record { value = d.length-is; output_after = d.output-is; upper_bound = d.inside }

pub returns : goal.returns
returns c = let x = c.args in
    let w = c.pack-answer in
    let s = c.show in
    let n = length x.output.now in
    let d =
    short x.packing x.plan.now x.output.now (omega arith)
    (shown-done (pack_for x.packing x.plan.now n) x.output.now w.new.output (image-fits x.packing x.plan.now n)
    w.ensures.output_after (outcome_is w.result) w.ensures.result_value s.result s.new.output s.ensures.value s.ensures.output_after)
    in
    record { value = d.length-is; output_after = d.output-is; upper_bound = d.inside }
