-- `conversion::read_back::read_back` meets its contract: an image that is too long, and one that was read back or refused.
use mathlib.Core.Path.{sym}
use native.Mathlib.Omega.{arith}
use Prim.Native.Nat.{◌≤◌}
use lib.ListN.{length}
use lib.Seq.{length-take-le}
use Rattle.plan.specs.Code.Packer.{outcome_is}
use Rattle.aplx_read.specs.ReadBack.{read_back}
use Rattle.conversion.proofs.RestoredLaws.{plan-fits, too_long, short}
use Rattle.conversion.proofs.ShownLaws.{shown-done}
use Rattle.conversion.proofs.read_back.read_back.Goals as goal

pub returns-then-image-gt65536 : goal.returns-then-image-gt65536
returns-then-image-gt65536 c = let x = c.args in
    let d = too_long x.image.now x.output.now (omega arith) in
    record { value = d.0; output_after = d.1; inside = tt }

pub returns : goal.returns
returns c = let x = c.args in
    let w = c.read_back-answer in
    let s = c.show in
    let n = length x.output.now in
    let t =
    shown-done (read_back x.image.now n) x.output.now w.new.output (plan-fits x.image.now n)
    w.ensures.output_after (outcome_is w.result) w.ensures.result_value s.result s.new.output s.ensures.value s.ensures.output_after
    in
    let d = short x.image.now x.output.now (omega arith) t in
    let inside : s.result ≤ length s.new.output = omega (arith, t.inside, s.auto.output, w.auto.output) in
    record { value = d.0; output_after = d.1; inside = (inside, sym (length-take-le _ _ inside)) }
