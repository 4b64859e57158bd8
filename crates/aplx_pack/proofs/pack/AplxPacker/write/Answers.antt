-- `aplx_pack::pack::AplxPacker::write` meets its contract: the loop's invariant: the entries and the data before piece `i` are written, and the next data's place is that of piece `i`.
use mathlib.Core.Path.{◌≡◌, refl, sym}
use mathlib.Core.List.{List}
use Prim.Native.Nat.{◌+◌, ◌-◌, ◌*◌, ◌≤◌}
use native.Mathlib.Omega.{arith}
use lib.ListN.{length}
use Rattle.words.proofs.FourLaws.{four-fits}
use Rattle.words.proofs.StoreLaws.{store-nil, store-fits}
use Rattle.plan.specs.Plan.{Piece, data_of, put_bytes, datas}
use Rattle.plan.specs.Packed.{plan_pieces}
use Rattle.plan.specs.Code.{piece_is}
use Rattle.plan.proofs.CodeLaws.{Found, found}
use Rattle.plan.proofs.CodeRows.{data_start, earlier-most, put-most, datas-through, earlier-next, Written, length-written, written-more}
use Rattle.aplx_pack.specs.Image.{entry_of, aplx_image}
use Rattle.aplx_pack.proofs.ImageLaws.{length-entry_of}
use Rattle.aplx_pack.proofs.Packing.{front, length_front, front-through, image-end, written_all}
use Rattle.aplx_pack.proofs.pack.AplxPacker.write.Goals as goal
use Rattle.aplx_pack.proofs.pack.AplxPacker.write.Goals.{After-accepted_at-piece}

pub loop-i-init : goal.loop-i-init
unfolding datas
loop-i-init c = (simp store-nil, (omega (arith, c.args.read.now.counted.count), (omega arith, refl)))

-- the piece read is the plan's
module _ (c : After-accepted_at-piece) where
  abbrev ps : List Piece
  ps = plan_pieces 32 c.args.read.now.source.now

  next-piece : Found 32 c.args.read.now.source.now ps c.loop-i.i c.accepted_at-piece.result
  next-piece = found 32 c.args.read.now.source.now (λ i. record { fits = c.args.read.now.bytes i }) c.args.read.now.counted.accepted c.loop-i.i (omega arith) _ c.accepted_at-piece.ensures

pub write_piece-requires : goal.write_piece-requires
write_piece-requires c = let here = (goal.at.write_piece-requires c).After-accepted_at-piece in
    let n = next-piece here in
    (n.writable, omega arith, omega arith, omega (arith, earlier-next n, earlier-most (ps here) (c.loop-i.i + 1), image-end (ps here)))

pub overflow_add-place-in-loop-i : goal.overflow_add-place-in-loop-i
overflow_add-place-in-loop-i c = omega (arith, put-most (next-piece (goal.at.overflow_add-place-in-loop-i c).After-accepted_at-piece), c.put_length-place.ensures)

pub loop-i-preserved : goal.loop-i-preserved
loop-i-preserved c = let here = (goal.at.loop-i-preserved c).After-accepted_at-piece in
    let n = next-piece here in
    let x = c.args in
    let i = c.loop-i.i in
    let w = c.write_piece in
    let fits : data_start (ps here) + put_bytes (ps here) ≤ length x.output.now = omega (arith, image-end (ps here)) in
    let p = piece_is x.read.now.source.now c.accepted_at-piece.result in
    let at = length_front (ps here) i (omega arith) in
    let place = c.loop-i.invariant.1.0 in
    let entry = entry_of p (c.loop-i.place - 16 * i) in
    let more : Written (ps here) (front (ps here)) x.output.now w.new.output (i + 1) =
    rw w.ensures (written-more (ps here) (front (ps here)) x.output.now fits i c.loop-i.invariant.0 entry (data_of p) (sym at)
    (omega (arith, length-entry_of p (c.loop-i.place - 16 * i))) place (front-through n _ place) (datas-through n)) in
    (more, (omega (arith, earlier-next n), (omega (arith, put-most n), length-written (ps here) (front (ps here)) x.output.now fits (i + 1) more (omega (arith, length_front (ps here) (i + 1) (omega arith))))))

pub returns : goal.returns
returns c = let x = c.args in
    let ps = plan_pieces 32 x.read.now.source.now in
    let fits : length (aplx_image ps) ≤ length x.output.now = omega arith in
    let e : c.loop-i.i ≡ length ps = omega arith in
    let h : 16 * x.read.now.pieces.count + 16 ≤ length c.loop-i.output = omega (arith, image-end ps) in
    rw (c.put.ensures, four-fits, x.read.now.counted.count, store-fits x.output.now 0 (aplx_image ps) (omega arith)) (written_all ps x.output.now fits c.loop-i.output (rw e at c.loop-i.invariant.0))
