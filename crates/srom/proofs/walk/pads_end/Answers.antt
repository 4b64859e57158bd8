-- `srom::walk::pads_end` meets its contract: the loop's invariant: the pads from `i` on end where those from the offset on do.
use mathlib.Core.Path.{sym, ◌∙◌}
use native.Mathlib.Omega.{arith}
use Rattle.srom.proofs.WalkLaws.{pads-next, pads-none, pads-past}
use Rattle.srom.proofs.walk.pads_end.Goals as goal

pub loop-i-preserved : goal.loop-i-preserved
loop-i-preserved c = let s = c in sym (pads-next s.args.s.now s.loop-i.i (omega arith) (omega arith)) ∙ s.loop-i.invariant

pub returns-then-i-s : goal.returns-then-i-s
returns-then-i-s c = let s = c in sym (pads-past s.args.s.now s.loop-i.i (omega arith)) ∙ s.loop-i.invariant

pub returns-then-s-i-ne-PAD : goal.returns-then-s-i-ne-PAD
returns-then-s-i-ne-PAD c = let s = c in sym (pads-none s.args.s.now s.loop-i.i (omega arith) c.if-s-i-ne-PAD.true) ∙ s.loop-i.invariant
