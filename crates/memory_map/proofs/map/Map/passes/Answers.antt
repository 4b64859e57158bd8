-- `memory_map::map::Map::passes` meets its contract: the count is tested, then whether the regions ascend, then each with each, then their ends.
use Rattle.std.proofs.Common.{◌≡◌, true, false, sym, ◌∙◌, ap, arith}
use Rattle.std.specs.Prelude.{ℕ, Option, Some, None}
use Rattle.std.specs.Option.{option_map_or, unwrap_or}
use borrow.Author.Tests.{le-leb, lt-leb}
use Rattle.words.specs.Choice.{every}
use Rattle.memory_region.specs.Region.{ends_inside}
use Rattle.memory_map.specs.declared.map.Map.{Map}
use Rattle.memory_map.specs.Map.{regions_of, all_keep_rules, well_formed, sound}
use Rattle.memory_map.specs.Map.Ascending.{ascending, ascending-keep, ascending-inside}
use Rattle.memory_map.proofs.map.Map.passes.Goals as goal

module _ (m : Map) where
  -- a map that is not well formed is not sound either
  fails : (b : Option ℕ) → well_formed m ≡ false → false ≡ option_map_or (sound m) b (well_formed m)
  unfolding sound
  fails (Some n) e = sym (simp e)
  fails None e = sym e

  holds : (b : Option ℕ) (k : ℕ) → well_formed m ≡ true → every (ends_inside (unwrap_or b k)) (regions_of m) ≡ true
      → true ≡ option_map_or (sound m) b (well_formed m)
  unfolding sound
  holds (Some n) k e h = sym (simp (e, h))
  holds None k e h = sym e

pub returns-then-self-gt8 : goal.returns-then-self-gt8
unfolding well_formed
returns-then-self-gt8 c = fails c.args.self c.args.buffer (simp (lt-leb c.args.self.count 8 (omega arith)))

pub returns-then-ascend : goal.returns-then-ascend
unfolding well_formed
returns-then-ascend c = let m = c.args.self in
    let few = le-leb m.count 8 (omega arith) in
    let up : ascending c.unwrap_or.result 0 0 (regions_of m) ≡ true =
    ap (ascending c.unwrap_or.result 0 0) (sym c.in_use-regions.ensures) ∙ sym c.ascend.ensures ∙ c.if-ascend.true in
    holds m c.args.buffer 8589934592 (simp (few, ascending-keep c.unwrap_or.result 0 0 (regions_of m) up))
    (ap (λ (n : ℕ). every (ends_inside n) (regions_of m)) (sym c.unwrap_or.ensures) ∙ ascending-inside c.unwrap_or.result 0 0 (regions_of m) up)

pub returns-then-not-all_clear : goal.returns-then-not-all_clear
unfolding well_formed
returns-then-not-all_clear c = let m = c.args.self in
    let few = le-leb m.count 8 (omega arith) in
    fails m c.args.buffer (simp (few, ap all_keep_rules (sym c.in_use-regions.ensures) ∙ sym c.all_clear.ensures ∙ c.if-not-all_clear.true))

pub returns-in-Some : goal.returns-in-Some
unfolding well_formed sound
returns-in-Some c = let m = c.args.self in
    let few = le-leb m.count 8 (omega arith) in
    let clear = ap all_keep_rules (sym c.in_use-regions.ensures) ∙ sym c.all_clear.ensures ∙ c.if-not-all_clear.false in
    rw c.in-Some.is (simp (few, clear) (c.all_end_inside.ensures ∙ ap (every (ends_inside c.in-Some.size)) c.in_use-regions.ensures))

pub returns-in-None : goal.returns-in-None
unfolding well_formed
returns-in-None c = let few = le-leb c.args.self.count 8 (omega arith) in
    let clear = ap all_keep_rules (sym c.in_use-regions.ensures) ∙ sym c.all_clear.ensures ∙ c.if-not-all_clear.false in
    rw c.in-None.is (sym (simp (few, clear)))
