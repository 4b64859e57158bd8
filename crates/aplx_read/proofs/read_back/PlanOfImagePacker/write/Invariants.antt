use mathlib.Core.Path.{◌≡◌}
use Prim.Native.Nat.{◌*◌, ◌≤◌}
use lib.ListN.{length}
use Rattle.plan.proofs.CodeRows.{earlier, Written}
use Rattle.aplx_read.specs.Code.{image_pieces}
use Rattle.aplx_read.proofs.Writing.{front}
use Rattle.aplx_read.proofs.read_back.PlanOfImagePacker.write.Given as goal

abbrev pub invariant-loop-i : goal.invariant-loop-i
invariant-loop-i l = Written (image_pieces l.image) (front (image_pieces l.image)) l.initial.output l.output l.i
    × ((l.offset ≡ earlier (image_pieces l.image) l.i) × ((l.offset ≤ 65536 * l.i) × (length l.output ≡ length l.initial.output)))
