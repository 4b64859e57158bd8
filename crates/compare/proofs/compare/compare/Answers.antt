-- `compare::compare::compare` meets its contract: the old plan is read, and then the new one.
use Rattle.std.proofs.Common.{◌≡◌, ◌*◌, ◌≤◌, List, ℕ, ap, sym, ◌∙◌, length, arith, rules, Ok, Err, Some}
use Rattle.plan.specs.Plan.{Read, pieces}
use Rattle.plan.specs.Packed.{plan_pieces}
use Rattle.compare.specs.Reading.{addresses, read_compared}
use Rattle.compare.specs.declared.compare.Side.TheVariants as side
use Rattle.compare.specs.Compare.{stretch_size, most_stretches, compared_below, compared}
use Rattle.compare.specs.Code.{reading_is, Comparable}
use Rattle.compare.proofs.CodeAnswers.{comparable, not-comparable, answered, old-refused, new-refused, too_small, large-enough}
use Rattle.compare.proofs.compare.compare.Goals as goal

pub returns-then-output-lt-OUTPUT_SIZE : goal.returns-then-output-lt-OUTPUT_SIZE
returns-then-output-lt-OUTPUT_SIZE c = let x = c.args in
    let a = answered _ _ x.output.now (sym (too_small (length x.output.now) x.old.now x.new.now (omega arith))) in
    rw c.at.ensures (record { result_value = a.0; output_after = a.1 })

-- an output that is large enough
module _ (n : ℕ) (old new : List ℕ) (h : stretch_size * most_stretches ≤ n) where
  -- both plans
  compared-both : compared n old new ≡ compared_below addresses (read_compared old) (read_compared new)
  compared-both = large-enough n old new h

  -- where the old one was read
  compared-new : {k : ℕ} → Comparable old k → compared n old new ≡ compared_below addresses (pieces (plan_pieces 1 old)) (read_compared new)
  compared-new c = compared-both ∙ ap (λ (r : Read). compared_below addresses r (read_compared new)) c.is_read

pub returns-in_err-old_count : goal.returns-in_err-old_count
returns-in_err-old_count c = let x = c.args in
    let m = c.map_err.ensures.cases in
    let q = c.from_residual.ensures in
    let r = c.in_err-old_count.field-0.0.refusal in
    let e : c.read.result ≡ Err r = search rules in
    let v : c.from_residual.result ≡ Err (record { which = Some side.Old; refusal = r }) = search rules in
    let f = not-comparable x.old.now (sym c.read.ensures ∙ ap reading_is e) in
    let b = compared-both (length x.output.now) x.old.now x.new.now (omega arith) ∙ old-refused addresses _ _ (read_compared x.old.now) (read_compared x.new.now) f in
    let a = answered _ _ x.output.now (sym b) in
    rw v (record { result_value = a.0; output_after = a.1 })

pub returns-in_err-new_count : goal.returns-in_err-new_count
returns-in_err-new_count c = let x = c.args in
    let l = c.map_err.ensures.cases in
    let m = c.map_err-2.ensures.cases in
    let q = c.from_residual-in_err-new_count.ensures in
    let r = c.in_err-new_count.field-0.0.refusal in
    let d : c.read.result ≡ Ok c.in_ok-old_count.old_count = search rules in
    let e : c.read-2.result ≡ Err r = search rules in
    let v : c.from_residual-in_err-new_count.result ≡ Err (record { which = Some side.New; refusal = r }) = search rules in
    let o = comparable x.old.now (sym c.read.ensures ∙ ap reading_is d) in
    let f = not-comparable x.new.now (sym c.read-2.ensures ∙ ap reading_is e) in
    let b = compared-new (length x.output.now) x.old.now x.new.now (omega arith) o ∙ new-refused addresses (plan_pieces 1 x.old.now) _ _ (read_compared x.new.now) f in
    let a = answered _ _ x.output.now (sym b) in
    rw v (record { result_value = a.0; output_after = a.1 })

pub compare_pieces-requires : goal.compare_pieces-requires
compare_pieces-requires c = let x = c.args in
    let l = c.map_err.ensures.cases in
    let m = c.map_err-2.ensures.cases in
    let d : c.read.result ≡ Ok c.in_ok-old_count.old_count = search rules in
    let e : c.read-2.result ≡ Ok c.in_ok-new_count.new_count = search rules in
    (comparable x.old.now (sym c.read.ensures ∙ ap reading_is d), comparable x.new.now (sym c.read-2.ensures ∙ ap reading_is e), omega arith)

pub returns : goal.returns
returns c = let x = c.args in
    let l = c.map_err.ensures.cases in
    let m = c.map_err-2.ensures.cases in
    let d : c.read.result ≡ Ok c.in_ok-old_count.old_count = search rules in
    let e : c.read-2.result ≡ Ok c.in_ok-new_count.new_count = search rules in
    let o = comparable x.old.now (sym c.read.ensures ∙ ap reading_is d) in
    let n = comparable x.new.now (sym c.read-2.ensures ∙ ap reading_is e) in
    let b = compared-new (length x.output.now) x.old.now x.new.now (omega arith) o ∙ ap (compared_below addresses (pieces (plan_pieces 1 x.old.now))) n.is_read in
    let a = answered _ _ x.output.now (sym b) in
    let r = c.compare_pieces.ensures in
    record { result_value = r.result_value ∙ a.0; output_after = r.output_after ∙ a.1 }
