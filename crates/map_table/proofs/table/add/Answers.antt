-- `map_table::table::add` meets its contract: a table that takes a region is regular, and the map with the region has at most eight.
use Rattle.std.proofs.Common.{◌≡◌, ap, sym, ◌∙◌, arith}
use Rattle.memory_map.specs.Map.{Addition, taken, add, verdict_of, addition_of}
use Rattle.memory_map.proofs.MapAdded.{taken-few}
use Rattle.map_table.specs.Table.{region_of, map_of}
use Rattle.map_table.proofs.TableLaws.{regular-whole, taken-regular}
use Rattle.map_table.proofs.table.add.Goals as goal

pub put_table-requires : goal.put_table-requires
put_table-requires c = let x = c.args in
    let t = x.table.now in
    let g = region_of x.base x.length x.place x.rights in
    let told : addition_of c.add-addition.result ≡ add (map_of t) g = rw (c.map_of.ensures, c.region_of.ensures) at c.add-addition.ensures in
    let v : (add (map_of t) g).verdict ≡ taken = sym (ap (λ (a : Addition). a.verdict) told) ∙ ap verdict_of c.in_ok-addition.was in
    let count = ap (λ (a : Addition). a.map.count) told in
    (regular-whole t (taken-regular t g v), omega (arith, taken-few (map_of t) g v))
