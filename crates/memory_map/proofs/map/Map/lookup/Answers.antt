-- `memory_map::map::Map::lookup` meets its contract: the loop's invariant: lookup in the regions from the index on gives what lookup in all gives.
use Rattle.std.proofs.Common.{◌≡◌, List, sym, ◌∙◌, ap, arith}
use Rattle.memory_region.specs.declared.region.Region.{Region}
use Rattle.memory_map.specs.Lookup.{at, lookup, lookup_in, lookup-computes}
use Rattle.memory_map.proofs.Loops.{search-hits, search-goes, search-end}
use Rattle.memory_map.proofs.map.Map.lookup.Goals as goal

pub returns-then-permits : goal.returns-then-permits
returns-then-permits c = let x = c.args in
    let l = c.in_use-region-items.result.now in
    let all : lookup_in l x.right x.address x.length ≡ lookup x.self x.right x.address x.length =
    ap (λ (m : List Region). lookup_in m x.right x.address x.length) c.in_use-region-items.ensures ∙ sym (lookup-computes x.self x.right x.address x.length) in
    ap at c.place_of.ensures
    ∙ sym (search-hits l c.loop-region.region-index _ x.right x.address x.length c.loop-region-test.true (sym c.permits.ensures ∙ c.if-permits.true)) ∙ c.loop-region.invariant
    ∙ all

pub loop-region-preserved : goal.loop-region-preserved
loop-region-preserved c = let x = c.args in
    sym (search-goes c.in_use-region-items.result.now c.loop-region.region-index _ x.right x.address x.length c.loop-region-test.true (sym c.permits.ensures ∙ c.if-permits.false))
    ∙ c.loop-region.invariant

pub returns : goal.returns
returns c = let x = c.args in
    let l = c.in_use-region-items.result.now in
    let all : lookup_in l x.right x.address x.length ≡ lookup x.self x.right x.address x.length =
    ap (λ (m : List Region). lookup_in m x.right x.address x.length) c.in_use-region-items.ensures ∙ sym (lookup-computes x.self x.right x.address x.length) in
    sym (search-end l c.loop-region.region-index (omega arith) x.right x.address x.length) ∙ c.loop-region.invariant ∙ all
