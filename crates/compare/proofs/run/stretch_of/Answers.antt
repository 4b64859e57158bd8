-- `compare::run::stretch_of` meets its contract. The loop's invariant: the stretch and its run are those of the pieces from `i` on, with `i` more pieces.
use mathlib.Core.Path.{refl, ap, sym, ◌∙◌}
use mathlib.Core.List.{List}
use Prim.Native.Nat.{ℕ}
use native.Mathlib.Omega.{arith}
use Rattle.plan.specs.Packed.{plan_pieces}
use Rattle.plan.specs.declared.piece.Piece.{Piece}
use Rattle.plan.specs.Code.{piece_is}
use Rattle.plan.proofs.CodeLaws.{Found, found}
use Rattle.compare.specs.Reading.Stretch.{run_at, stretch-run, stretch-next, stretch-end}
use Rattle.compare.specs.Code.{was_read}
use Rattle.compare.proofs.CodeAnswers.{run-none}
use Rattle.compare.proofs.run.stretch_of.Goals as goal
use Rattle.compare.proofs.run.stretch_of.Goals.{After-accepted_at}

-- the piece at index i, and the run that it is
module _ (c : After-accepted_at) where
  abbrev s : List ℕ
  s = c.args.plan.now

  piece : Found 1 s (plan_pieces 1 s) c.loop-i.i c.accepted_at.result
  piece = found 1 s c.type_inv.plan c.requires.0 c.loop-i.i (omega arith) c.accepted_at.result c.accepted_at.ensures

pub returns-in-Run : goal.returns-in-Run
returns-in-Run c = let d = (goal.at.returns-in-Run c).After-accepted_at in
    let l = c.loop-i in
    let f = stretch-run (plan_pieces 1 (s d)) l.i (piece_is (s d) c.accepted_at.result) (piece d).from (ap (λ (p : Piece). run_at (piece_is (s d) p)) c.in-Run.is) in
    record { same_plan = refl; run_value = sym f.1 ∙ l.invariant.1 }

pub loop-i-preserved : goal.loop-i-preserved
loop-i-preserved c = let d = (goal.at.loop-i-preserved c).After-accepted_at in
    let l = c.loop-i in
    let f = stretch-next (plan_pieces 1 (s d)) l.i (piece_is (s d) c.accepted_at.result) (piece d).from (run-none (s d) c.accepted_at.result c.in_default.not-Run) in
    (omega (arith, l.invariant.0, f.0), sym f.1 ∙ l.invariant.1)

pub returns : goal.returns
returns c = let l = c.loop-i in
    let f = stretch-end (plan_pieces 1 c.args.plan.now) l.i (omega arith) in
    record { same_plan = refl; run_value = sym f.1 ∙ l.invariant.1 }

pub invariant_of-result : goal.invariant_of-result
invariant_of-result c = let d = (goal.at.invariant_of-result c).After-accepted_at in
    let f = stretch-run (plan_pieces 1 (s d)) c.loop-i.i (piece_is (s d) c.accepted_at.result) (piece d).from (ap (λ (p : Piece). run_at (piece_is (s d) p)) c.in-Run.is) in
    record { bytes = λ i. (c.type_inv.plan i).fits; accepted = ap was_read c.requires.0; whole = omega (arith, c.loop-i.invariant.0, f.0) }

pub invariant_of-result-2 : goal.invariant_of-result-2
invariant_of-result-2 c = let f = stretch-end (plan_pieces 1 c.args.plan.now) c.loop-i.i (omega arith) in
    record { bytes = λ i. (c.type_inv.plan i).fits; accepted = ap was_read c.requires.0; whole = omega (arith, c.loop-i.invariant.0, f.0) }
