-- `aplx_copy::copy::copy_words` meets its contract. The loop's invariant: the copy of the words left, from here on, gives what the whole copy gives.
use mathlib.Core.Path.{◌≡◌, sym, ◌∙◌}
use Prim.Native.Nat.{◌*◌, ◌/◌}
use native.Mathlib.Omega.{arith}
use Rattle.aplx_copy.specs.Copy.{copied}
use Rattle.aplx_copy.proofs.CopyLaws.{copy-next, copy-end}
use Rattle.aplx_copy.proofs.copy.copy_words.Goals as goal

pub loop-i-preserved : goal.loop-i-preserved
loop-i-preserved c = let l = c.loop-i in
    let x = c.args in
    let u : l.i * 4 ≡ 4 * l.i = omega arith in
    rw (c.copy_block.ensures, u) (sym (copy-next (x.size / 4) l.i x.to x.from l.memory (omega arith)) ∙ l.invariant)

pub returns : goal.returns
unfolding copied
returns c = let x = c.args in
    let l = c.loop-i in
    sym (copy-end (x.size / 4) l.i x.to x.from l.memory (omega arith)) ∙ l.invariant
