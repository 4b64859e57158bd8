-- `words::put::copy_all` meets its contract: the bytes before `i` are copied.
use mathlib.Core.Path.{refl, sym, ◌∙◌}
use native.Mathlib.Numerals.{add-one}
use native.Mathlib.Omega.{arith}
use lib.ListN.{length-set, get_or}
use lib.Seq.{take-suc, take-suc-set, take_all}
use Rattle.words.proofs.put.copy_all.Goals as goal

pub loop-i-init : goal.loop-i-init
loop-i-init c = (refl, refl)

pub loop-i-preserved : goal.loop-i-preserved
loop-i-preserved c = let l = c.loop-i in
    let s = c.args.source.now in (
      simp length-set l.invariant.0,
      rw (add-one l.i, take-suc-set l.part l.i (get_or s l.i 0) (omega arith), take-suc s l.i 0 (omega arith), l.invariant.1),
    )

pub shape_of-part : goal.shape_of-part
shape_of-part c = c.loop-i.invariant.0

pub returns : goal.returns
returns c = let l = c.loop-i in
    let s = c.args.source.now in
    sym (take_all l.i l.part (omega arith)) ∙ l.invariant.1 ∙ take_all l.i s (omega arith)
