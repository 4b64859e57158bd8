-- `aplx_copy::copy::copy_inside` meets its contract: both of its ways copy the same.
use native.Mathlib.Omega.{arith}
use Rattle.aplx_copy.specs.Copy.{down, clear}
use Rattle.aplx_copy.proofs.copy.copy_inside.Goals as goal
use Rattle.aplx_copy.proofs.copy.copy_inside.Goals.{else-from-to-via-then-from-to+else-to-from-lt32, else-from-to-via-else-from-to}

pub copy_far-requires : goal.copy_far-requires
copy_far-requires c = elim c.else-from-to.branch [
  | else-from-to-via-then-from-to+else-to-from-lt32 w ↦ (omega arith, omega arith, clear (omega arith))
  | else-from-to-via-else-from-to w ↦ (omega arith, omega arith, down (omega arith))
]
