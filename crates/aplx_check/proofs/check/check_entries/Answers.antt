-- `aplx_check::check::check_entries` meets its contract: the check from `entry` on, of what is due there, gives what the whole check gives.
use Rattle.std.proofs.Common.{◌≡◌, ℕ, suc, ◌+◌, ◌*◌, ◌<◌, ◌≤◌, true, List, [], length, drop, sym, ap, ◌∙◌, arith, drop_of_length-le, drop-cons}
use borrow.Author.Tests.{not-true, not-false}
use Rattle.plan.specs.Plan.{Piece, run}
use Rattle.plan.specs.Packed.{plan_pieces}
use Rattle.plan.specs.Code.{put_length, fill_length, piece_is}
use Rattle.plan.proofs.CodeLaws.{Found, found}
use Rattle.aplx_check.specs.declared.due.Due.{Due}
use Rattle.aplx_check.specs.Parts.{size_of, rest_of}
use Rattle.aplx_check.specs.Check.{refuses, is_due, part_length}
use Rattle.aplx_check.proofs.CheckLaws.{entry-wrong, entry-late, end-due, end-early}
use Rattle.aplx_check.proofs.CodeLaws.{size-sum, piece_due, piece-due, part-ends, due-next}
use Rattle.aplx_check.proofs.check.check_entries.Goals as goal
use Rattle.aplx_check.proofs.check.check_entries.Goals.{After-accepted_at-piece, After-part_length-length}

-- no piece is left
none_left : (ps : List Piece) (i n : ℕ) → i ≡ n → n ≡ length ps → drop i ps ≡ []
none_left ps i n e f = drop_of_length-le ps {i = i} (omega arith)

pub returns-then-due-count : goal.returns-then-due-count
returns-then-due-count c = let k = c in
    let x = k.args in
    let l = k.loop-entry in
    let ps = plan_pieces 1 x.plan.now in
    let e = none_left ps l.due.index x.count c.if-due-count.true k.requires.0.counts in
    let i = rw e at l.invariant.1 in
    c.refused_at.ensures ∙ sym (entry-late x.image.now (16 * (x.end + 1)) x.end l.entry 0 ps (omega arith)) ∙ i

-- the piece that is due
module _ (c : After-accepted_at-piece) where
  abbrev ps : List Piece
  ps = plan_pieces 1 c.args.plan.now

  abbrev due : Due
  due = c.loop-entry.due

  more : due.index < length ps
  more = omega (arith, c.requires.0.counts)

  found_here : Found 1 c.args.plan.now ps due.index c.accepted_at-piece.result
  found_here =
      found 1 c.args.plan.now c.type_inv.plan c.requires.0.accepted due.index more c.accepted_at-piece.result
      c.accepted_at-piece.ensures

  is-piece : piece_due ps due ≡ piece_is c.args.plan.now c.accepted_at-piece.result
  is-piece = piece-due ps due found_here.from

  size-here : size_of (piece_due ps due) ≡ put_length c.accepted_at-piece.result + fill_length c.accepted_at-piece.result
  size-here =
      let s = found_here.sizes in
      rw is-piece (omega (arith, size-sum (piece_is c.args.plan.now c.accepted_at-piece.result), s.of-put, s.of-fill))

pub is_due-requires : goal.is_due-requires
is_due-requires c = ((found_here (goal.at.is_due-requires c).After-accepted_at-piece).writable, omega (arith, size-here (goal.at.is_due-requires c).After-accepted_at-piece), omega arith)

pub returns-then-not-is_due : goal.returns-then-not-is_due
returns-then-not-is_due c = let d = c in
    let x = c.args in
    let l = c.loop-entry in
    let w = sym c.is_due.ensures ∙ not-true _ c.if-not-is_due.true-raw in
    let e = entry-wrong x.image.now (16 * (x.end + 1)) x.end l.entry l.due.done (drop (suc l.due.index) (ps (goal.at.returns-then-not-is_due c).After-accepted_at-piece)) (omega arith)
    (piece_is x.plan.now d.accepted_at-piece.result) w in
    c.refused_at-then-not-is_due.ensures ∙ sym e ∙ (rw (found_here (goal.at.returns-then-not-is_due c).After-accepted_at-piece).from at l.invariant.1)

-- the entry is what is due
module _ (c : After-part_length-length)
    (more-left : c.loop-entry.due.index < length (plan_pieces 1 c.args.plan.now))
    (piece-there : piece_due (plan_pieces 1 c.args.plan.now) c.loop-entry.due ≡ piece_is c.args.plan.now c.accepted_at-piece.result)
  where
    is-due-here : let x = c.args in
        is_due x.image.now (16 * (x.end + 1)) (16 * c.loop-entry.entry) (rest_of c.loop-entry.due.done (piece_due (plan_pieces 1 x.plan.now) c.loop-entry.due))
        ≡ true
    is-due-here = rw piece-there (sym c.is_due.ensures ∙ not-false _ c.if-not-is_due.false-raw)

    length_here : c.part_length-length.result
        ≡ part_length c.args.image.now (16 * c.loop-entry.entry) (piece_due (plan_pieces 1 c.args.plan.now) c.loop-entry.due)
    length_here = rw piece-there (c.part_length-length.ensures _)

    ends-here : size_of (piece_due (plan_pieces 1 c.args.plan.now) c.loop-entry.due)
        ≡ put_length c.accepted_at-piece.result + fill_length c.accepted_at-piece.result
        → c.loop-entry.due.done + c.part_length-length.result ≤ put_length c.accepted_at-piece.result + fill_length c.accepted_at-piece.result
    ends-here size =
        let x = c.args in
        let l = c.loop-entry in
        let e = part-ends x.image.now (16 * (x.end + 1)) x.end l.entry (omega arith) (plan_pieces 1 x.plan.now) l.due more-left is-due-here l.invariant.0.1 in
        omega (arith, size, length_here, e)

pub after_part-due-requires : goal.after_part-due-requires
after_part-due-requires c =
    let p = c.requires.0 in
    let d = (goal.at.after_part-due-requires c).After-accepted_at-piece in
    let f = (goal.at.after_part-due-requires c).After-part_length-length in
    (omega (arith, more d, p.few, p.counts), omega (arith, ends-here f (more d) (is-piece d) (size-here d)))

pub loop-entry-preserved : goal.loop-entry-preserved
loop-entry-preserved c =
    let d = (goal.at.loop-entry-preserved c).After-accepted_at-piece in
    let f = (goal.at.loop-entry-preserved c).After-part_length-length in
    let x = c.args in
    let l = c.loop-entry in
    let a = due-next x.image.now (16 * (x.end + 1)) x.end l.entry (omega arith) (ps d) (due d) (more d) (is-due-here f (more d) (is-piece d)) l.invariant.0.1 in
    let s : c.put_length.result + c.fill_length.result ≡ size_of (piece_due (ps d) (due d)) = omega (arith, size-here d) in
    let e = rw (length_here f (more d) (is-piece d), s) at c.after_part-due.ensures in
    (rw e a.within, rw e (sym a.same ∙ l.invariant.1))

pub returns-then-due-count-2 : goal.returns-then-due-count-2
returns-then-due-count-2 c = let l = c.loop-entry in
    let k = c in
    let x = k.args in
    let ps = plan_pieces 1 x.plan.now in
    let e = none_left ps l.due.index x.count c.if-due-count-2.true k.requires.0.counts in
    sym (end-due x.image.now (16 * (x.end + 1)) x.end l.entry 0 ps (omega arith)) ∙ (rw e at l.invariant.1)

pub returns : goal.returns
returns c = let l = c.loop-entry in
    let k = c in
    let x = k.args in
    let ps = plan_pieces 1 x.plan.now in
    let p = piece_due ps l.due in
    let h : l.due.index < length ps = omega (arith, k.requires.0.counts, c.if-due-count-2.false) in
    let e = rw (drop-cons ps l.due.index (run 0) h) at l.invariant.1 in
    let z : l.entry ≡ x.end = omega arith in
    c.refused_at-2.ensures ∙ ap (refuses 30) (sym z)
    ∙ sym (end-early x.image.now (16 * (x.end + 1)) x.end l.entry l.due.done (drop (suc l.due.index) ps) (omega arith) p) ∙ e
