use Rattle.std.specs.Prelude.{◌≡◌}
use Rattle.words.specs.Store.{store}
use Rattle.plan.specs.Packed.{plan_pieces}
use Rattle.aplx_share.proofs.Entries.{front}
use Rattle.aplx_share.proofs.image.write_entries.Given as goal

abbrev pub invariant-loop-i : goal.invariant-loop-i
invariant-loop-i l = l.output ≡ store l.initial.output 0 (front (plan_pieces 32 l.plan) l.i)
