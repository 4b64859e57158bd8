-- `compare::block::block_at` meets its contract: where not both plans store, no byte need be compared.
use mathlib.Core.Path.{sym, ◌∙◌}
use Rattle.plan.proofs.CodeLaws.{known_bytes}
use Rattle.compare.proofs.CodeBlockLaws.{alike-without}
use Rattle.compare.proofs.block.block_at.Goals as goal

pub returns-clause-alike : goal.returns-clause-alike
returns-clause-alike c = let x = c.args in
    let o = c.byte_at-old_byte in
    let n = c.byte_at-new_byte in
    let b = known_bytes x.old.now c.type_inv.old in
    let d = known_bytes x.new.now c.type_inv.new in
    alike-without x.old.now x.new.now x.at x.sources c.requires o.result n.result o.ensures n.ensures b d (sym c.both_store.ensures ∙ c.if-both_store.false)
