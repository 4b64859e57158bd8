-- `compare::compare::compare_pieces` meets its contract: what was collected is limited and put into the output.
use mathlib.Core.Path.{◌≡◌, ap, sym, ◌∙◌}
use mathlib.Core.Bool.{Bool}
use mathlib.Core.List.{List}
use Prim.Native.Nat.{ℕ, ◌≤◌}
use native.Mathlib.Omega.{arith}
use lib.ListN.{length}
use Rattle.plan.specs.Plan.{Piece}
use Rattle.plan.specs.Packed.{plan_pieces}
use Rattle.stretches.specs.Stretches.{Stretch}
use Rattle.compare.specs.Reading.{addresses, Run, run_of, same_run}
use Rattle.compare.specs.Compare.{most_stretches, differences}
use Rattle.compare.specs.Code.{image_of, found, run_is}
use Rattle.compare.specs.Code.Collected.{Collected}
use Rattle.compare.proofs.CodeAnswers.{answered, same-run, limited-more, limited-few, both_read}
use Rattle.compare.proofs.compare.compare_pieces.Goals as goal
use Rattle.compare.proofs.compare.compare_pieces.Goals.{Start, After-collect}

-- of the pieces of two plans
module _ (s : Start) where
  abbrev old : List Piece
  old = plan_pieces 1 s.args.old.now

  abbrev new : List Piece
  new = plan_pieces 1 s.args.new.now

  abbrev stretches : List Stretch
  stretches = differences addresses old new

  abbrev same : Bool
  same = same_run (run_of old) (run_of new)

-- the list is that of the two plans
collected : (c : After-collect) → Collected c.collect.new.listing (image_of c.args.old.now) (image_of c.args.new.now) addresses
collected c = rw (c.stretch_of-old_stretch.ensures.same_plan, c.stretch_of-new_stretch.ensures.same_plan) at c.collect.ensures

pub returns-then-listing-gt-MOST_STRETCHES : goal.returns-then-listing-gt-MOST_STRETCHES
returns-then-listing-gt-MOST_STRETCHES c = let s = c in
    let a = answered _ _ s.args.output.now (sym (both_read addresses (old (goal.at.returns-then-listing-gt-MOST_STRETCHES c).Start) (new (goal.at.returns-then-listing-gt-MOST_STRETCHES c).Start) ∙ limited-more (stretches (goal.at.returns-then-listing-gt-MOST_STRETCHES c).Start) (same (goal.at.returns-then-listing-gt-MOST_STRETCHES c).Start) ((collected (goal.at.returns-then-listing-gt-MOST_STRETCHES c).After-collect).many (omega arith)))) in rw c.at.ensures (record { result_value = a.0; output_after = a.1 })

pub returns : goal.returns
returns c = let d = c in
    let s = d in
    let few : d.collect.new.listing.count ≤ most_stretches = omega (arith, c.if-listing-gt-MOST_STRETCHES.false) in
    let l = (collected (goal.at.returns c).After-collect).listing few in
    let k : d.collect.new.listing.count ≡ length (stretches (goal.at.returns c).Start) = l.0 in
    let o = d.stretch_of-old_stretch in
    let n = d.stretch_of-new_stretch in
    let e = both_read addresses (old (goal.at.returns c).Start) (new (goal.at.returns c).Start) ∙ limited-few (stretches (goal.at.returns c).Start) (same (goal.at.returns c).Start) (omega (arith, k, few)) in
    let a = answered _ _ s.args.output.now (sym e) in
    let r = c.eq.ensures ∙ same-run o.result.run n.result.run ∙ ap (λ (k : Run). same_run k (run_is n.result.run)) o.ensures.run_value ∙ ap (same_run (run_of (old (goal.at.returns c).Start))) n.ensures.run_value in record { result_value = ap (λ (n : ℕ). found n c.eq.result) k ∙ ap (found (length (stretches (goal.at.returns c).Start))) r ∙ a.0; output_after = c.put.ensures (stretches (goal.at.returns c).Start) l ∙ a.1 }
