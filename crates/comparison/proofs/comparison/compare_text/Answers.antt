-- `comparison::comparison::compare_text` meets its contract: the limits in their order, then the plans.
use native.Mathlib.Omega.{arith}
use Rattle.comparison.proofs.CodeLaws.{old-too-long, new-too-long, both-short, prints-for}
use Rattle.comparison.proofs.comparison.compare_text.Goals as goal

pub returns-then-old-gt-LONGEST_PLAN : goal.returns-then-old-gt-LONGEST_PLAN
returns-then-old-gt-LONGEST_PLAN c = let x = c.args in
    let e = old-too-long x.old.now x.new.now (omega arith) in
    let facts = prints-for x.old.now x.new.now x.text.now _ c.refuse.result _ e (rw c.at.ensures at c.refuse.ensures) in
    record { size_value = facts.0; text_after = facts.1.0; refused_value = facts.1.1.0; prefix_len = facts.1.1.1 }

pub returns-then-new-gt-LONGEST_PLAN : goal.returns-then-new-gt-LONGEST_PLAN
returns-then-new-gt-LONGEST_PLAN c = let x = c.args in
    let e = new-too-long x.old.now x.new.now (omega arith) (omega arith) in
    let facts = prints-for x.old.now x.new.now x.text.now _ c.refuse_new.result _ e c.refuse_new.ensures in
    record { size_value = facts.0; text_after = facts.1.0; refused_value = facts.1.1.0; prefix_len = facts.1.1.1 }

pub returns : goal.returns
returns c = let x = c.args in
    let e = both-short x.old.now x.new.now (omega arith) (omega arith) in
    let facts = prints-for x.old.now x.new.now x.text.now _ c.compare_plans.result _ e c.compare_plans.ensures in
    record { size_value = facts.0; text_after = facts.1.0; refused_value = facts.1.1.0; prefix_len = facts.1.1.1 }
