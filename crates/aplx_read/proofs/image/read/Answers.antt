-- `aplx_read::image::read` meets its contract: the loop's invariant: the pieces before entry `i` and their sums, with what reading the rest gives, have the outcome of the whole.
use mathlib.Core.Path.{◌≡◌, ap, sym, ◌∙◌}
use mathlib.Core.List.{List}
use Prim.Native.Nat.{ℕ, ◌+◌, ◌-◌}
use native.Mathlib.Omega.{arith}
use lib.ListN.{length}
use Rattle.std.specs.Prelude.{Ok, Option}
use Rattle.plan.specs.declared.piece.Piece as CodePiece
use Rattle.plan.specs.Plan.{data_of, filled_by}
use Rattle.plan.specs.Code.{row_is, piece_is}
use Rattle.plan.proofs.CodeCounting.{outcome_after, after_none, after-piece, after-all}
use Rattle.plan.proofs.CodeLaws.{Lengths}
use Rattle.aplx_read.specs.ReadBack.{piece, entry_at, read_entries, read_image}
use Rattle.aplx_read.proofs.ReadBackLaws.{read-piece, read-end, read-bad, read-no-more}
use Rattle.aplx_read.specs.Code.{entry_is}
use Rattle.aplx_read.proofs.CodeLaws.{entry-lengths}
use Rattle.aplx_read.proofs.image.read.Goals as goal
use Rattle.aplx_read.proofs.image.read.Goals.{In-Ok-Some}

pub loop-i-init : goal.loop-i-init
unfolding read_image
loop-i-init c = (after_none (read_entries c.args.image.now 65 0), omega arith)

-- the entry read is a piece
module _ (c : In-Ok-Some) where
  abbrev image : List ℕ
  image = c.args.image.now

  is-piece : entry_at image c.loop-i.i ≡ piece (row_is c.in-Ok-Some.piece)
  is-piece = sym c.in-Ok-Some.ensures ∙ ap (λ (p : Option CodePiece.Piece). entry_is (Ok p)) c.in-Ok-Some.field-0-is

  piece-lengths : Lengths image c.in-Ok-Some.piece
  piece-lengths = entry-lengths image c.type_inv.image c.loop-i.i _ is-piece

pub overflow_add-puts : goal.overflow_add-puts
overflow_add-puts c = let l = piece-lengths (goal.at.overflow_add-puts c).In-Ok-Some in omega arith

pub overflow_add-fills : goal.overflow_add-fills
overflow_add-fills c = let l = piece-lengths (goal.at.overflow_add-fills c).In-Ok-Some in omega arith

pub loop-i-preserved : goal.loop-i-preserved
loop-i-preserved c = let d = c in
    let s = c in
    let i = s.loop-i.i in
    let p = piece_is (image (goal.at.loop-i-preserved c).In-Ok-Some) d.in-Ok-Some.piece in
    let l = piece-lengths (goal.at.loop-i-preserved c).In-Ok-Some in
    let e : c.put_length-puts.result ≡ length (data_of p) = omega arith in
    let f : c.fill_length-fills.result ≡ filled_by p = omega arith in
    let step = read-piece (image (goal.at.loop-i-preserved c).In-Ok-Some) 65 i (omega arith) (is-piece (goal.at.loop-i-preserved c).In-Ok-Some) in
    let more = ap (outcome_after i s.loop-i.puts s.loop-i.fills) step ∙ after-piece i s.loop-i.puts s.loop-i.fills p (read_entries (image (goal.at.loop-i-preserved c).In-Ok-Some) (65 - (i + 1)) (i + 1)) in
    (rw (e, f) (sym more ∙ s.loop-i.invariant.0), omega arith)

pub returns-in-Ok-None : goal.returns-in-Ok-None
returns-in-Ok-None c = let s = c in
    let x = s.args in
    let i = s.loop-i.i in
    let e = sym c.in-Ok-None.ensures ∙ ap (λ (p : Option CodePiece.Piece). entry_is (Ok p)) c.in-Ok-None.field-0-is in
    let all = ap (outcome_after i s.loop-i.puts s.loop-i.fills) (read-end x.image.now 65 i (omega arith) e) ∙ after-all i s.loop-i.puts s.loop-i.fills in
    sym all ∙ s.loop-i.invariant.0

pub returns-in-Err : goal.returns-in-Err
returns-in-Err c = let s = c in
    let x = s.args in
    let i = s.loop-i.i in
    let e = sym c.in-Err.ensures in
    rw c.at.ensures (sym (ap (outcome_after i s.loop-i.puts s.loop-i.fills) (read-bad x.image.now 65 i (omega arith) e)) ∙ s.loop-i.invariant.0)

pub returns : goal.returns
returns c = let s = c in
    let x = s.args in
    let i = s.loop-i.i in
    let e : i ≡ 65 = omega arith in
    rw c.at-2.ensures (rw e at (sym (ap (outcome_after i s.loop-i.puts s.loop-i.fills) (read-no-more x.image.now 65 i (omega arith))) ∙ s.loop-i.invariant.0))
