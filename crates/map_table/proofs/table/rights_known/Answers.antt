-- `map_table::table::rights_known` meets its contract: the loop's invariant: the regions from `i` on decide what all decide.
use Rattle.std.proofs.Common.{sym, ◌∙◌, arith}
use Rattle.map_table.proofs.TableLaws.{rights-over, rights-next, rights-none}
use Rattle.map_table.proofs.table.rights_known.Goals as goal

pub returns-then-le_word_at-gt-ALL_RIGHTS : goal.returns-then-le_word_at-gt-ALL_RIGHTS
returns-then-le_word_at-gt-ALL_RIGHTS c = let l = c.loop-i in
    let x = c.args in
    sym (rights-over x.table.now x.count l.i (omega arith) (omega (arith, c.le_word_at.ensures))) ∙ l.invariant

pub loop-i-preserved : goal.loop-i-preserved
loop-i-preserved c = let l = c.loop-i in
    let x = c.args in
    sym (rights-next x.table.now x.count l.i (omega arith) (omega (arith, c.le_word_at.ensures))) ∙ l.invariant

pub returns : goal.returns
returns c = let l = c.loop-i in
    let x = c.args in
    sym (rights-none x.table.now x.count l.i (omega arith)) ∙ l.invariant
