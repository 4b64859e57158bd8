-- `aplx_read::read_back::PlanOfImagePacker::write` meets its contract: the loop's invariant: the header, and the rows and the data before piece `i` are written, and the next data's offset is that of piece `i`.
use mathlib.Core.Path.{◌≡◌, refl, ap, sym, ◌∙◌}
use mathlib.Core.List.{List}
use Prim.Native.Nat.{ℕ, ◌+◌, ◌*◌, ◌≤◌}
use native.Mathlib.Omega.{arith}
use lib.ListN.{length}
use Rattle.words.proofs.FourLaws.{four-fits}
use Rattle.words.proofs.StoreLaws.{store-fits}
use Rattle.words.specs.Store.{store}
use Rattle.plan.specs.Plan.{Piece, data_of, put_bytes, datas}
use Rattle.plan.specs.Code.{piece_is}
use Rattle.plan.proofs.CodeLaws.{Found}
use Rattle.plan.proofs.CodeRows.{data_start, earlier-most, put-most, datas-through, earlier-next, Written, length-written, written-more}
use Rattle.aplx_read.specs.PlanBytes.{row_bytes, plan_bytes}
use Rattle.aplx_read.proofs.PlanBytesLaws.{length-row_bytes}
use Rattle.aplx_read.specs.Code.{image_pieces}
use Rattle.aplx_read.proofs.CodeLaws.{found}
use Rattle.aplx_read.proofs.Writing as written
use Rattle.aplx_read.proofs.Writing.{header, header_is, front, length_front, front-through, plan-end}
use Rattle.aplx_read.proofs.read_back.PlanOfImagePacker.write.Goals as goal
use Rattle.aplx_read.proofs.read_back.PlanOfImagePacker.write.Goals.{After-accepted_at-piece, After-put}

-- the header was written
module _ (c : After-put) where
  abbrev ps : List Piece
  ps = image_pieces c.args.read.now.source.now

  -- the output when the loop begins
  abbrev begun : List ℕ
  begun = c.put.new.s

  plan-fits : length (plan_bytes ps) ≤ length c.args.output.now
  plan-fits = omega arith

  room : data_start ps + put_bytes ps ≤ length c.args.output.now
  room = omega (arith, plan-end ps)

  header-written : begun ≡ store c.args.output.now 0 (header ps)
  header-written =
      let x = c.args in
      c.put.ensures ∙ four-fits x.output.now 0 x.read.now.pieces.count 16 (16 * (x.read.now.pieces.count + 1)) x.read.now.pieces.puts (omega (arith, room))
      ∙ ap (store x.output.now 0) (header_is ps c.args.read.now.counted.count c.args.read.now.counted.puts)

  length-begun : length begun ≡ length c.args.output.now
  length-begun = written.length-begun ps c.args.output.now begun plan-fits header-written

pub loop-i-init : goal.loop-i-init
unfolding datas
loop-i-init c = let d = c in
    let none = written.written_none (ps (goal.at.loop-i-init c).After-put) c.args.output.now (begun (goal.at.loop-i-init c).After-put) (plan-fits (goal.at.loop-i-init c).After-put) (header-written (goal.at.loop-i-init c).After-put) in
    (none, (refl, (omega arith, refl)))

-- the piece read is the image's
module _ (c : After-accepted_at-piece) where
  next-piece : Found 32 c.args.read.now.source.now (image_pieces c.args.read.now.source.now) c.loop-i.i c.accepted_at-piece.result
  next-piece = found c.args.read.now.source.now (λ i. record { fits = c.args.read.now.bytes i }) c.args.read.now.counted.accepted c.loop-i.i (omega arith) _ c.accepted_at-piece.ensures

pub write_row-requires : goal.write_row-requires
write_row-requires c = let d = c in
    let n = next-piece (goal.at.write_row-requires c).After-accepted_at-piece in
    let h = c in
    (n.writable, omega arith, omega arith, omega (arith, earlier-next n, earlier-most (ps (goal.at.write_row-requires c).After-put) (c.loop-i.i + 1), room (goal.at.write_row-requires c).After-put, length-begun (goal.at.write_row-requires c).After-put))

pub overflow_add-offset : goal.overflow_add-offset
overflow_add-offset c = omega (arith, put-most (next-piece (goal.at.overflow_add-offset c).After-accepted_at-piece), c.put_length-offset.ensures)

pub loop-i-preserved : goal.loop-i-preserved
loop-i-preserved c = let d = c in
    let n = next-piece (goal.at.loop-i-preserved c).After-accepted_at-piece in
    let h = c in
    let i = c.loop-i.i in
    let offset = c.loop-i.invariant.1.0 in
    let w = c.write_row in
    let p = piece_is c.args.read.now.source.now d.accepted_at-piece.result in
    let row = row_bytes p c.loop-i.offset in
    let fits : data_start (ps (goal.at.loop-i-preserved c).After-put) + put_bytes (ps (goal.at.loop-i-preserved c).After-put) ≤ length (begun (goal.at.loop-i-preserved c).After-put) = omega (arith, room (goal.at.loop-i-preserved c).After-put, length-begun (goal.at.loop-i-preserved c).After-put) in
    let more : Written (ps (goal.at.loop-i-preserved c).After-put) (front (ps (goal.at.loop-i-preserved c).After-put)) (begun (goal.at.loop-i-preserved c).After-put) w.new.output (i + 1) =
    rw w.ensures (written-more (ps (goal.at.loop-i-preserved c).After-put) (front (ps (goal.at.loop-i-preserved c).After-put)) (begun (goal.at.loop-i-preserved c).After-put) fits i c.loop-i.invariant.0 row (data_of p) (sym (length_front (ps (goal.at.loop-i-preserved c).After-put) i (omega arith)))
    (omega (arith, length-row_bytes p c.loop-i.offset)) (omega arith) (front-through n _ offset (omega arith)) (datas-through n)) in
    (more, (omega (arith, earlier-next n), (omega (arith, put-most n), (length-written (ps (goal.at.loop-i-preserved c).After-put) (front (ps (goal.at.loop-i-preserved c).After-put)) (begun (goal.at.loop-i-preserved c).After-put) fits (i + 1) more (omega (arith, length_front (ps (goal.at.loop-i-preserved c).After-put) (i + 1) (omega arith)))))))

pub returns : goal.returns
returns c = let h = c in
    let e : c.loop-i.i ≡ length (ps (goal.at.returns c).After-put) = omega arith in
    let all = written.written_all (ps (goal.at.returns c).After-put) c.args.output.now (begun (goal.at.returns c).After-put) (plan-fits (goal.at.returns c).After-put) (header-written (goal.at.returns c).After-put) c.loop-i.output (rw e at c.loop-i.invariant.0) in
    rw (store-fits c.args.output.now 0 (plan_bytes (ps (goal.at.returns c).After-put)) (omega arith)) all
