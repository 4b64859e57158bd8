-- `aplx_check::end::first_end` meets its contract: the search from `entry` on finds what the whole search finds.
use Rattle.std.proofs.Common.{sym, ◌∙◌, arith}
use Rattle.aplx_check.proofs.CheckLaws.{end-here, end-next, end_none}
use Rattle.aplx_check.proofs.end.first_end.Goals as goal

pub returns-then-le_word_at : goal.returns-then-le_word_at
returns-then-le_word_at c = let l = c.loop-entry in
    let x = c.args in
    sym (end-here x.image.now x.count l.entry (omega arith) (sym c.le_word_at.ensures ∙ c.if-le_word_at.true)) ∙ l.invariant

pub loop-entry-preserved : goal.loop-entry-preserved
loop-entry-preserved c = let l = c.loop-entry in
    let x = c.args in
    sym (end-next x.image.now x.count l.entry (omega arith) (λ z. c.if-le_word_at.false (c.le_word_at.ensures ∙ z))) ∙ l.invariant

pub returns : goal.returns
returns c = let l = c.loop-entry in
    let x = c.args in
    sym (end_none x.image.now x.count l.entry (omega arith)) ∙ l.invariant
