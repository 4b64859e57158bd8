-- `memory_map::map::Map::in_use` meets its contract: the array has eight regions, so a count above that takes all of them too.
use Rattle.std.proofs.Common.{◌≡◌, ◌∙◌, sym, ap, length, take, arith}
use Rattle.std.specs.Prelude.{ℕ, min}
use Rattle.std.proofs.lemmas.List.{take_min}
use Rattle.memory_map.specs.Map.{regions_of}
use Rattle.memory_map.proofs.map.Map.in_use.Goals as goal

pub returns : goal.returns
unfolding regions_of
returns c = let m = c.args.self.now in
    let whole : length m.regions ≡ 8 = omega arith in
    ap (λ (n : ℕ). take n m.regions) (c.min.ensures ∙ ap (min m.count) (sym whole)) ∙ take_min m.count m.regions
