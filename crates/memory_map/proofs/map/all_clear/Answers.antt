-- `memory_map::map::all_clear` meets its contract: the loop's invariant: the regions from the index on decide what all do.
use Rattle.std.proofs.Common.{sym, ◌∙◌, arith, ◌+◌}
use Rattle.memory_map.proofs.Loops.{every-rest, rules-fail, meets-fail, rules-go, rules-end}
use Rattle.memory_map.proofs.map.all_clear.Goals as goal
use Rattle.memory_map.proofs.map.all_clear.Goals.{then-not-keeps_rules-via-then-not-keeps_rules, then-not-keeps_rules-via-else-not-keeps_rules+then-not-is_clear_of}

pub returns-then-not-keeps_rules : goal.returns-then-not-keeps_rules
returns-then-not-keeps_rules c = let l = c.args.regions.now in
    elim c.then-not-keeps_rules.branch [
      | then-not-keeps_rules-via-then-not-keeps_rules w ↦
          sym (rules-fail l c.loop-i.i _ c.loop-i-test.true (sym c.keeps_rules.ensures ∙ w.if-not-keeps_rules.true)) ∙ c.loop-i.invariant
      | then-not-keeps_rules-via-else-not-keeps_rules+then-not-is_clear_of w ↦
          sym (meets-fail l c.loop-i.i _ c.loop-i-test.true (sym (every-rest _ l (c.loop-i.i + 1)) ∙ sym w.is_clear_of.ensures ∙ w.if-not-is_clear_of.true)) ∙ c.loop-i.invariant
    ]

pub loop-i-preserved : goal.loop-i-preserved
loop-i-preserved c = let l = c.args.regions.now in
    sym (rules-go l c.loop-i.i _ c.loop-i-test.true (sym c.keeps_rules.ensures ∙ c.if-not-keeps_rules.false) (sym (every-rest _ l (c.loop-i.i + 1)) ∙ sym c.is_clear_of.ensures ∙ c.if-not-is_clear_of.false))
    ∙ c.loop-i.invariant

pub returns : goal.returns
returns c = sym (rules-end c.args.regions.now c.loop-i.i (omega arith)) ∙ c.loop-i.invariant
