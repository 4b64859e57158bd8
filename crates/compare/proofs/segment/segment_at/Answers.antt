-- `compare::segment::segment_at` meets its contract. The loop's invariant: what the pieces from `i` on make of the segment so far is what all pieces make of none.
use mathlib.Core.Path.{◌≡◌, ap, sym, ◌∙◌}
use mathlib.Core.List.{List, ◌∷◌}
use Prim.Native.Nat.{ℕ, suc, ◌+◌, ◌≤◌, ◌<◌}
use native.Mathlib.Omega.{arith}
use lib.ListN.{length, drop}
use Rattle.plan.specs.Plan.{Piece}
use Rattle.plan.specs.Packed.{plan_pieces}
use Rattle.plan.specs.Meaning.{stretch}
use Rattle.plan.specs.Code.{piece_is}
use Rattle.plan.proofs.CodeLaws.{Found, found}
use Rattle.compare.specs.LastByte.Segment.{covering, border, covering-step, border-step, covering-end, border-end}
use Rattle.compare.specs.Reading.Stretch.{stretch-shorter, stretch-piece}
use Rattle.compare.specs.Code.Segment.{source_is, writable-short, narrows}
use Rattle.compare.proofs.CodeAnswers.{accepted-from}
use Rattle.compare.proofs.segment.segment_at.Goals as goal
use Rattle.compare.proofs.segment.segment_at.Goals.{After-accepted_at}

-- the piece at index i
module _ (c : After-accepted_at) where
  abbrev s : List ℕ
  s = c.args.first.plan.now

  abbrev ps : List Piece
  ps = stretch (plan_pieces 1 s)

  below-count : c.loop-i.i < length ps
  below-count = omega arith

  piece : Found 1 s (plan_pieces 1 s) c.loop-i.i c.accepted_at.result
  piece =
      found 1 s (λ i. record { fits = c.args.first.bytes i }) (accepted-from c.args.first.plan.now c.args.first.accepted) c.loop-i.i (omega (arith, below-count, stretch-shorter (plan_pieces 1 s))) c.accepted_at.result
      c.accepted_at.ensures

  in-stretch : drop c.loop-i.i ps ≡ piece_is s c.accepted_at.result ∷ drop (suc c.loop-i.i) ps
  in-stretch = stretch-piece (plan_pieces 1 s) c.loop-i.i below-count piece.from

pub narrow-segment-requires : goal.narrow-segment-requires
narrow-segment-requires c = writable-short (s (goal.at.narrow-segment-requires c).After-accepted_at) c.accepted_at.result (piece (goal.at.narrow-segment-requires c).After-accepted_at).writable

pub loop-i-preserved : goal.loop-i-preserved
loop-i-preserved c = let d = (goal.at.loop-i-preserved c).After-accepted_at in
    let l = c.loop-i in
    let x = c.args in
    let p = piece_is (s d) c.accepted_at.result in
    let n = rw (sym c.narrow-segment.ensures) at (narrows (s d) c.accepted_at.result (piece d).writable x.at l.segment l.invariant.2) in (
      ap (covering (drop (l.i + 1) (ps d)) x.at) n.source-is ∙ sym (covering-step (ps d) l.i x.at p (in-stretch d) (source_is (s d) l.segment.source)) ∙ l.invariant.0,
      ap (border (drop (l.i + 1) (ps d)) x.at) n.end_is ∙ sym (border-step (ps d) l.i x.at p (in-stretch d) l.segment.end) ∙ l.invariant.1,
      n.reaches,
    )

pub returns : goal.returns
returns c = let l = c.loop-i in
    let x = c.args in
    let ps = stretch (plan_pieces 1 x.first.plan.now) in
    let h : length ps ≤ l.i = omega arith in record {
      source_value = sym (covering-end ps l.i x.at h (source_is x.first.plan.now l.segment.source)) ∙ l.invariant.0;
      end_value = sym (border-end ps l.i x.at h l.segment.end) ∙ l.invariant.1;
      reaches = l.invariant.2;
    }
