-- `srom_pack::pack::SromPacker::write` meets its contract: the loop's invariant: behind the pad stand the blocks before piece `i`, and the next place is that of piece `i`.
use mathlib.Core.Path.{◌≡◌, refl, sym}
use mathlib.Core.List.{List}
use Prim.Native.Nat.{◌+◌, ◌≤◌, ◌<◌}
use native.Mathlib.Omega.{arith}
use lib.ListN.{length, set, length-set}
use Rattle.words.proofs.StoreLaws.{store-fits}
use Rattle.plan.specs.Plan.{Piece}
use Rattle.plan.specs.Packed.{plan_pieces}
use Rattle.plan.specs.Code.{piece_is}
use Rattle.plan.proofs.CodeLaws.{Found, found}
use Rattle.srom_pack.specs.Image.{block_of, block_at, srom_image}
use Rattle.srom_pack.proofs.ImageLaws.{first_block}
use Rattle.srom_pack.proofs.Packing.{next_place, blocks-through, block_inside, Written, written_none, length-written, written-more, written_all}
use Rattle.srom_pack.proofs.pack.SromPacker.write.Goals as goal
use Rattle.srom_pack.proofs.pack.SromPacker.write.Goals.{After-accepted_at-piece}

pub bounds-output-0 : goal.bounds-output-0
bounds-output-0 c = omega (arith, block_inside (plan_pieces 4 c.args.read.now.source.now) 0)

pub loop-i-init : goal.loop-i-init
loop-i-init c = let x = c.args in
    let ps = plan_pieces 4 x.read.now.source.now in
    (written_none ps (set x.output.now 0 0x55), (sym (first_block ps), refl))

-- the piece read is the plan's, and its block is inside the output
module _ (c : After-accepted_at-piece) where
  abbrev ps : List Piece
  ps = plan_pieces 4 c.args.read.now.source.now

  next-piece : Found 4 c.args.read.now.source.now ps c.loop-i.i c.accepted_at-piece.result
  next-piece = found 4 c.args.read.now.source.now (λ i. record { fits = c.args.read.now.bytes i }) c.args.read.now.counted.accepted c.loop-i.i (omega arith) _ c.accepted_at-piece.ensures

  next-inside : block_at ps (c.loop-i.i + 1) < length c.args.output.now
  next-inside = omega (arith, block_inside ps (c.loop-i.i + 1))

pub write_block-requires : goal.write_block-requires
write_block-requires c = let here = (goal.at.write_block-requires c).After-accepted_at-piece in
    let n = next-piece here in
    (n.writable, omega (arith, next_place n, next-inside here, length-set c.args.output.now 0 0x55))

pub overflow_add-at : goal.overflow_add-at
overflow_add-at c = omega (arith, (next-piece (goal.at.overflow_add-at c).After-accepted_at-piece).sizes.most)

pub overflow_add-at-in-loop-i : goal.overflow_add-at-in-loop-i
overflow_add-at-in-loop-i c = omega (arith, (next-piece (goal.at.overflow_add-at-in-loop-i c).After-accepted_at-piece).sizes.most)

pub overflow_add-at-in-loop-i-2 : goal.overflow_add-at-in-loop-i-2
overflow_add-at-in-loop-i-2 c = let here = (goal.at.overflow_add-at-in-loop-i-2 c).After-accepted_at-piece in omega (arith, next_place (next-piece here), next-inside here)

pub loop-i-preserved : goal.loop-i-preserved
loop-i-preserved c = let here = (goal.at.loop-i-preserved c).After-accepted_at-piece in
    let n = next-piece here in
    let x = c.args in
    let i = c.loop-i.i in
    let w = c.write_block in
    let m = set x.output.now 0 0x55 in
    let fits : length (srom_image (ps here)) ≤ length m = omega (arith, length-set x.output.now 0 0x55) in
    let block = block_of (piece_is x.read.now.source.now c.accepted_at-piece.result) in
    let more : Written (ps here) m w.new.output (i + 1) =
    rw w.ensures (written-more (ps here) m i block fits c.loop-i.invariant.0 c.loop-i.invariant.1.0 (blocks-through n)) in
    (more, (omega (arith, next_place n), length-written (ps here) m (i + 1) fits more))

pub bounds-output-at : goal.bounds-output-at
bounds-output-at c = let x = c.args in
    omega (arith, block_inside (plan_pieces 4 x.read.now.source.now) c.loop-i.i, length-set x.output.now 0 0x55)

pub returns : goal.returns
returns c = let x = c.args in
    let ps = plan_pieces 4 x.read.now.source.now in
    let fits : length (srom_image ps) ≤ length x.output.now = omega arith in
    let e : c.loop-i.i ≡ length ps = omega arith in
    rw (c.loop-i.invariant.1.0, e, store-fits x.output.now 0 (srom_image ps) (omega arith)) (written_all ps x.output.now c.loop-i.output fits (rw e at c.loop-i.invariant.0))
