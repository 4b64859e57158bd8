use mathlib.Core.Path.{◌≡◌}
use lib.ListN.{length}
use Rattle.plan.specs.Packed.{plan_pieces}
use Rattle.srom_pack.specs.Image.{block_at}
use Rattle.srom_pack.proofs.Packing.{Written}
use Rattle.srom_pack.proofs.pack.SromPacker.write.Given as goal

abbrev pub invariant-loop-i : goal.invariant-loop-i
invariant-loop-i l = Written (plan_pieces 4 l.plan) l.initial.output l.output l.i × ((l.at ≡ block_at (plan_pieces 4 l.plan) l.i) × (length l.output ≡ length l.initial.output))
