-- `compare::pairs::alike` meets its contract: the pairs before `k` are as asked.
use Rattle.std.proofs.Common.{arith}
use Rattle.compare.specs.Code.Pairs.{Pair}
use Rattle.compare.proofs.CodeLaws.{beq_same, more}
use Rattle.compare.proofs.pairs.alike.Goals as goal

pub loop-j-preserved : goal.loop-j-preserved
loop-j-preserved g c = let x = c.args in
    let l = c.loop-j in
    λ y h. more (Pair (goal.F-post g x.old) (goal.G-post g x.new) x.same) 0 l.j (λ z _ f. l.invariant z f) (record { old-byte = c.old.result; new-byte = c.new.result; is-old = c.old.ensures; is-new = c.new.ensures; alike = beq_same _ _ c.if-old-new.false }) y (omega arith) h
