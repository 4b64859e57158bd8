-- `map_table::table::put_table` meets its contract: the count, and then one region behind the other.
use Rattle.std.proofs.Common.{sym, arith}
use Rattle.words.proofs.StoreLaws.{store-nil}
use Rattle.map_table.specs.Table.{regions_bytes}
use Rattle.map_table.proofs.TablePut.{region-put, table-put}
use Rattle.map_table.proofs.table.put_table.Goals as goal

pub loop-i-init : goal.loop-i-init
unfolding regions_bytes
loop-i-init c = sym (store-nil c.le_word.new.s 4)

pub loop-i-preserved : goal.loop-i-preserved
loop-i-preserved c = let l = c.loop-i in
    region-put _ c.args.map (omega arith) (omega arith) l.i (omega arith) l.invariant c.put_region.ensures

pub returns : goal.returns
returns c = let l = c.loop-i in
    table-put c.args.table.now c.args.map (omega arith) c.requires.0 l.i (omega arith) c.le_word.ensures l.invariant
