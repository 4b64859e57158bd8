-- `reidhintsje::comparison::reidhintsje_compare` meets its contract: what the comparison answers, as numbers, and the output that it leaves.
use mathlib.Core.Path.{ap, ◌∙◌}
use Prim.Native.Nat.{ℕ}
use lib.ListN.{length}
use Rattle.compare.specs.Compare.{compared}
use Rattle.compare.specs.Code.{outcome_is}
use Rattle.outcome_numbers.specs.Numbers.{compared_parts}
use Rattle.reidhintsje.specs.Calls.{found_bytes}
use Rattle.reidhintsje.proofs.CallsLaws.{put-call}
use Rattle.reidhintsje.specs.Calls.Comparison.{few, bytes-found}
use Rattle.reidhintsje.proofs.comparison.reidhintsje_compare.Goals as goal

pub written-bytes-requires : goal.written-bytes-requires
written-bytes-requires c = let x = c.args in
    few c.compare-answer.result (length x.output.now) x.old.now x.new.now c.compare-answer.ensures.result_value

pub returns : goal.returns
returns c = let x = c.args in
    let a = c.compare-answer in
    let n = length x.output.now in
    let b = c.written-bytes.ensures ∙ bytes-found a.result n x.old.now x.new.now a.ensures.result_value in
    let p = ap (λ (k : ℕ). compared_parts k (outcome_is a.result)) b ∙ ap (compared_parts (length (found_bytes (compared n x.old.now x.new.now)))) a.ensures.result_value in
    let g = put-call c.put.ensures (c.compared_parts.ensures ∙ p) in
    record { value = g.0; outcome_after = g.1; output_after = a.ensures.output_after }
