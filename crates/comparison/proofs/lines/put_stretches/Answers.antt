-- `comparison::lines::put_stretches` meets its contract. The loop's invariant: the lines of the first `i` stretches stand at the text's front.
use mathlib.Core.Path.{refl, ap, ◌∙◌}
use Prim.Native.Nat.{◌*◌}
use native.Mathlib.Omega.{arith}
use Rattle.words.specs.declared.four.Four.{Four}
use Rattle.words.specs.Store.{store}
use Rattle.comparison.specs.Lines.{line}
use Rattle.comparison.specs.Lines.Stretches.{stretch_of, written_none, written_next}
use Rattle.comparison.proofs.lines.put_stretches.Goals as goal

pub loop-i-init : goal.loop-i-init
loop-i-init c = let x = c.args in (refl, written_none x.text.now x.stretches.now)

pub loop-i-preserved : goal.loop-i-preserved
loop-i-preserved c = let x = c.args in
    let l = c.loop-i in
    let p = c.put_line in
    let e = p.ensures ∙ ap (λ (w : Four). store l.text (l.i * 24) (line (stretch_of w))) c.read.ensures in
    (p.auto.text ∙ l.invariant.0, written_next x.text.now x.stretches.now l.i l.text p.new.text (omega arith) l.invariant.1 e)
