-- `compare::pairs::all_alike` meets its contract: the pairs before `k` are as asked, if all still are.
use Rattle.compare.specs.Code.Pairs.{Pair}
use Rattle.compare.proofs.CodeLaws.{more}
use Rattle.compare.proofs.pairs.all_alike.Goals as goal

pub loop-k-preserved : goal.loop-k-preserved
loop-k-preserved g c = let x = c.args in
    λ e.
    let a = c.is_alike-all.ensures e in
    more (Pair (goal.F-post g x.old.now) (goal.G-post g x.new.now) x.same) x.at c.loop-k.k (c.loop-k.invariant a.0)
    (record { old-byte = c.old.result; new-byte = c.new.result; is-old = c.old.ensures; is-new = c.new.ensures; alike = a.1 })
