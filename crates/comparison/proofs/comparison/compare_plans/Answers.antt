-- `comparison::comparison::compare_plans` meets its contract: what was found is read back from its bytes.
use Rattle.comparison.proofs.CodeLaws.{answer-bounded, answer-shown}
use Rattle.comparison.proofs.comparison.compare_plans.Goals as goal

pub show-requires : goal.show-requires
show-requires c = let x = c.args in
    answer-bounded x.old.now x.new.now _ c.compare-answer.ensures.result_value

pub returns : goal.returns
returns c = let x = c.args in
    let w = c.compare-answer.ensures in
    let b = c.type_inv.old in
    let d = c.type_inv.new in
    rw (answer-shown x.old.now x.new.now _ w.result_value b d _ _ w.output_after) at c.show.ensures
