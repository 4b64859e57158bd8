use mathlib.Core.Path.{◌≡◌}
use Prim.Native.Nat.{◌+◌, ◌*◌, ◌≤◌}
use lib.ListN.{length}
use Rattle.plan.specs.Packed.{plan_pieces}
use Rattle.plan.proofs.CodeRows.{data_start, earlier, Written}
use Rattle.aplx_pack.proofs.Packing.{front}
use Rattle.aplx_pack.proofs.pack.AplxPacker.write.Given as goal

abbrev pub invariant-loop-i : goal.invariant-loop-i
invariant-loop-i l = Written (plan_pieces 32 l.plan) (front (plan_pieces 32 l.plan)) l.initial.output l.output l.i
    × ((l.place ≡ data_start (plan_pieces 32 l.plan) + earlier (plan_pieces 32 l.plan) l.i) × ((l.place ≤ 1040 + 65536 * l.i) × (length l.output ≡ length l.initial.output)))
