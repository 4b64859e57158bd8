-- `aplx_copy::copy::copy_groups` meets its contract. The loop's invariant: the copy of the groups left, from here on, gives what the whole copy gives.
use mathlib.Core.Path.{◌≡◌, sym, ◌∙◌}
use Prim.Native.Nat.{◌-◌, ◌*◌}
use native.Mathlib.Omega.{arith}
use Rattle.aplx_copy.specs.Copy.{copy_words}
use Rattle.aplx_copy.proofs.CopyLaws.{group-next}
use Rattle.aplx_copy.proofs.copy.copy_groups.Goals as goal

pub loop-i-preserved : goal.loop-i-preserved
loop-i-preserved c = let l = c.loop-i in
    let x = c.args in
    let u : l.i * 32 ≡ 32 * l.i = omega arith in
    let n = sym (group-next x.count l.i x.to x.from l.memory (omega arith) (omega arith) (omega arith) c.requires.2) in
    rw (c.copy_block.ensures, u) (n ∙ l.invariant)

pub returns : goal.returns
unfolding copy_words
returns c = let l = c.loop-i in
    let z : 8 * (c.args.count - l.i) ≡ 0 = omega arith in
    rw z at l.invariant
