-- What is said of refusals is false of comparisons that test in another order.
use Rattle.std.specs.Prelude.{◌≡◌, refl, [], ℕ, ◌*◌, ltb, if◌then◌else◌}
use Rattle.std.proofs.Common.{sym, ◌∙◌, arith}
use Rattle.plan.specs.Plan.{Read, refused, pieces}
use Rattle.plan.specs.Open as PlanGroup
use Rattle.compare.specs.Reading.{addresses, compared_at, compared_pieces, read_compared}
use Rattle.compare.specs.Compare.{Compared, neither, old_plan, new_plan, refuses, most_stretches, stretch_size, compared_below}
use Rattle.compare_claims.specs.Claims.{Comparison}
use Rattle.compare_claims.specs.Refusals.{Refusals}

-- ---- the comparisons
-- tests the new plan before the old one
unfoldable pub new_before : Read → Read → Compared
new_before old (refused x i) = refuses new_plan x i
new_before old (pieces new) = compared_below addresses old (pieces new)

unfoldable pub new_first : Comparison
new_first n old new = if ltb n (stretch_size * most_stretches) then refuses neither 10 0 else new_before (read_compared old) (read_compared new)

-- tests the old plan before the output
unfoldable pub plan_before : Read → Compared → Compared
plan_before (refused x i) c = refuses old_plan x i
plan_before (pieces old) c = c

unfoldable pub plans_first : Comparison
plans_first n old new =
    plan_before (read_compared old)
    (if ltb n (stretch_size * most_stretches) then refuses neither 10 0 else compared_below addresses (read_compared old) (read_compared new))

-- ---- the refutations
-- an empty plan is refused
empty : read_compared [] ≡ refused 2 0
unfolding PlanGroup.reader compared_at compared_pieces read_compared
empty = refl

pub record WrongRefusals : Type 0 where
  -- by two empty plans
  pub new-first-refuted : Refusals new_first → ⊥
  -- by an empty output and empty plans
  pub plans-first-refuted : Refusals plans_first → ⊥

new-first-empty : new_first 8192 [] [] ≡ refuses new_plan 2 0
unfolding new_first new_before
new-first-empty = rw empty

plans-first-empty : plans_first 0 [] [] ≡ refuses old_plan 2 0
unfolding plans_first plan_before
plans-first-empty = rw empty

pub wrong-refusals : WrongRefusals
wrong-refusals = record {
  new-first-refuted = λ r.
      let e = sym new-first-empty ∙ r.old-refused 8192 [] [] (omega arith) empty in
      let z : ◌≡◌ {A = ℕ} 0 1 = cc in
      omega arith;
  plans-first-refuted = λ r.
      let e = sym plans-first-empty ∙ r.no_room 0 [] [] (omega arith) in
      let z : ◌≡◌ {A = ℕ} 0 1 = cc in
      omega arith;
}
