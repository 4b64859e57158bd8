-- `compare::reading::read_pieces` meets its contract. The loop's invariant: what reading the rest gives, behind `i` pieces, is what reading all gives.
use mathlib.Core.Path.{◌≡◌, ap, sym, ◌∙◌}
use Prim.Native.Nat.{◌+◌, ◌-◌}
use native.Mathlib.Omega.{arith}
use Rattle.plan.specs.Code.{judged_is, piece_is}
use Rattle.compare.specs.Reading.{compared_pieces}
use Rattle.compare.proofs.ReadingLaws.{compared-good, compared-bad, compared-end}
use Rattle.compare.proofs.CodeAnswers.{reading_after, after-piece, after-all}
use Rattle.compare.proofs.reading.read_pieces.Goals as goal

pub loop-i-preserved : goal.loop-i-preserved
loop-i-preserved c = let k = c in
    let x = k.args in
    let i = k.loop-i.i in
    let s = x.plan.now in
    let e = sym c.compared_at.ensures ∙ ap judged_is c.in-Ok.is in
    let p = piece_is s c.in-Ok.field-0 in
    let f = ap (reading_after i) (compared-good s x.count i (omega arith) e) ∙ after-piece i p (compared_pieces s (x.count - (i + 1)) (i + 1)) in
    sym f ∙ k.loop-i.invariant

pub returns-in-Err : goal.returns-in-Err
returns-in-Err c = let x = c.args in
    let i = c.loop-i.i in
    let e = sym c.compared_at.ensures ∙ ap judged_is c.in-Err.is in
    rw c.at.ensures (sym (ap (reading_after i) (compared-bad x.plan.now x.count i (omega arith) e)) ∙ c.loop-i.invariant)

pub returns : goal.returns
returns c = let k = c in
    let x = k.args in
    let z : k.loop-i.i ≡ x.count = omega arith in
    rw z at (sym (ap (reading_after k.loop-i.i) (compared-end x.plan.now x.count k.loop-i.i (omega arith)) ∙ after-all k.loop-i.i) ∙ k.loop-i.invariant)
