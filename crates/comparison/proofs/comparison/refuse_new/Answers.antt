-- `comparison::comparison::refuse_new` meets its contract: the old plan's refusal comes first.
use Rattle.comparison.proofs.CodeLaws.{old-first, new-next}
use Rattle.comparison.proofs.comparison.refuse_new.Goals as goal

pub returns-in-Err : goal.returns-in-Err
returns-in-Err c = let e = rw c.in-Err.is at c.read.ensures in
    rw (old-first c.args.old.now 11 0 e) c.refuse-in-Err.ensures

pub returns-in-Ok : goal.returns-in-Ok
returns-in-Ok c = let e = rw c.in-Ok.is at c.read.ensures in
    rw (new-next c.args.old.now 11 0 e) (rw c.at.ensures at c.refuse.ensures)
