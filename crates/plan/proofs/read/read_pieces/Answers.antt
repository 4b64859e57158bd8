-- `plan::read::read_pieces` meets its contract: the loop's invariant: the good pieces before `i` and their sums, with what reading the rest gives, have the outcome of the whole.
use mathlib.Core.Path.{◌≡◌, ap, sym, ◌∙◌}
use mathlib.Core.List.{List}
use Prim.Native.Nat.{ℕ}
use native.Mathlib.Omega.{arith}
use lib.ListN.{length}
use Rattle.plan.specs.Plan.{data_of, filled_by, good, piece_at}
use Rattle.plan.specs.Code.{unit_of, row_is, judged_is, piece_is}
use Rattle.plan.proofs.CodeLaws.{Lengths, read-lengths}
use Rattle.plan.proofs.Reading.{counts-good, counts-bad, counts_end}
use Rattle.plan.proofs.read.read_pieces.Goals as goal
use Rattle.plan.proofs.read.read_pieces.Goals.{In-Ok}

-- the piece read is the plan's, and its lengths are
module _ (c : In-Ok) where
  abbrev plan : List ℕ
  plan = c.args.plan.now

  abbrev unit : ℕ
  unit = unit_of c.args.target

  is-good : piece_at unit plan c.loop-i.i ≡ good (row_is c.in-Ok.piece)
  is-good = sym c.piece_at.ensures ∙ ap judged_is c.in-Ok.is

  piece-lengths : Lengths plan c.in-Ok.piece
  piece-lengths = read-lengths unit plan c.type_inv.plan c.requires.1 c.loop-i.i _ is-good

pub overflow_add-puts : goal.overflow_add-puts
overflow_add-puts c = let l = piece-lengths (goal.at.overflow_add-puts c).In-Ok in omega arith

pub overflow_add-fills : goal.overflow_add-fills
overflow_add-fills c = let l = piece-lengths (goal.at.overflow_add-fills c).In-Ok in omega arith

pub loop-i-preserved : goal.loop-i-preserved
loop-i-preserved c = let x = c.args in
    let p = piece_is x.plan.now c.in-Ok.piece in
    let l = piece-lengths (goal.at.loop-i-preserved c).In-Ok in
    let e : c.put_length-puts.result ≡ length (data_of p) = omega arith in
    let f : c.fill_length-fills.result ≡ filled_by p = omega arith in
    let more = counts-good (unit_of x.target) x.plan.now x.count c.loop-i.i c.loop-i.puts c.loop-i.fills (omega arith) (is-good (goal.at.loop-i-preserved c).In-Ok) in
    (rw (e, f) (sym more ∙ c.loop-i.invariant.0), omega arith)

pub returns-in-Err : goal.returns-in-Err
returns-in-Err c = let x = c.args in
    let e = sym c.piece_at.ensures ∙ ap judged_is c.in-Err.is in
    let z = counts-bad (unit_of x.target) x.plan.now x.count c.loop-i.i c.loop-i.puts c.loop-i.fills (omega arith) e in
    rw c.at.ensures (sym z ∙ c.loop-i.invariant.0)

pub returns : goal.returns
returns c = let x = c.args in
    let e : c.loop-i.i ≡ x.count = omega arith in
    rw e at (sym (counts_end (unit_of x.target) x.plan.now x.count c.loop-i.i c.loop-i.puts c.loop-i.fills (omega arith)) ∙ c.loop-i.invariant.0)
