-- `aplx_copy::copy::copy_block` meets its contract: the block has the bytes that are then stored.
use mathlib.Core.Path.{◌≡◌, ap, ◌∙◌}
use Prim.Native.Nat.{ℕ, ◌+◌, ◌-◌}
use native.Mathlib.Omega.{arith}
use lib.ListN.{take, drop}
use Rattle.words.specs.Store.{store}
use Rattle.words.proofs.StoreLaws.{store-part}
use Rattle.aplx_copy.proofs.copy.copy_block.Goals as goal

pub returns : goal.returns
returns g c = let x = c.args in
    let n = g.row.N in
    let m = x.memory.now in
    let w = c.copy_from_slice-2 in
    let z : x.from + n - x.from ≡ n = omega arith in
    store-part m x.to (x.to + n) w.new.self (omega arith) (omega arith) w.auto.self
    ∙ ap (store m x.to) (w.ensures.after ∙ c.copy_from_slice.ensures.after ∙ ap (λ (k : ℕ). take k (drop x.from m)) z)
