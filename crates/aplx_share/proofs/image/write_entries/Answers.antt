-- `aplx_share::image::write_entries` meets its contract: the loop's invariant: the entries before piece `i` are written.
use mathlib.Core.Path.{◌≡◌, ap, sym, ◌∙◌}
use mathlib.Core.List.{List}
use Prim.Native.Nat.{◌+◌, ◌-◌, ◌*◌, ◌≤◌}
use native.Mathlib.Omega.{arith}
use lib.ListN.{length, get_or}
use Rattle.words.specs.Four.{four_bytes}
use Rattle.words.proofs.FourLaws.{length-four_bytes}
use Rattle.words.specs.Store.{store}
use Rattle.words.proofs.StoreLaws.{store-nil, store-behind}
use Rattle.plan.specs.Plan.{Piece}
use Rattle.plan.specs.Packed.{plan_pieces}
use Rattle.plan.specs.Code.{piece_is}
use Rattle.plan.proofs.CodeLaws.{Found, found}
use Rattle.aplx_pack.specs.Image.{entry_of}
use Rattle.aplx_pack.proofs.ImageLaws.{length-entry_of}
use Rattle.aplx_pack.proofs.CodeLaws.{row-entry}
use Rattle.aplx_share.specs.Contents.{kept_contents}
use Rattle.aplx_share.specs.SharedImage.{place_of}
use Rattle.aplx_share.proofs.CollectedLaws.{found_here, place-low}
use Rattle.aplx_share.proofs.Entries.{front, length_front, front-next, front-all}
use Rattle.aplx_share.proofs.image.write_entries.Goals as goal
use Rattle.aplx_share.proofs.image.write_entries.Goals.{After-accepted_at-piece}

pub loop-i-init : goal.loop-i-init
loop-i-init c = sym (store-nil c.args.output.now 0)

-- the piece read is the plan's
module _ (c : After-accepted_at-piece) where
  abbrev ps : List Piece
  ps = plan_pieces 32 c.args.plan.now

  next-piece : Found 32 c.args.plan.now ps c.loop-i.i c.accepted_at-piece.result
  next-piece = found 32 c.args.plan.now c.type_inv.plan c.requires.0.accepted c.loop-i.i (omega (arith, c.requires.0.counts)) _ c.accepted_at-piece.ensures

  place_is : get_or c.args.places.now c.loop-i.i 0 ≡ place_of (kept_contents ps) (piece_is c.args.plan.now c.accepted_at-piece.result)
  place_is = c.requires.1 c.loop-i.i (omega (arith, c.requires.0.counts)) ∙ ap (place_of (kept_contents ps)) (found_here next-piece)

  low : place_of (kept_contents ps) (piece_is c.args.plan.now c.accepted_at-piece.result) ≤ 4194304
  low = place-low c.args.plan.now c.type_inv.plan c.requires.0 (piece_is c.args.plan.now c.accepted_at-piece.result)

pub overflow_add-offset-in-loop-i : goal.overflow_add-offset-in-loop-i
overflow_add-offset-in-loop-i c = let d = c in omega (arith, c.requires.0.few, place_is (goal.at.overflow_add-offset-in-loop-i c).After-accepted_at-piece, low (goal.at.overflow_add-offset-in-loop-i c).After-accepted_at-piece)

pub overflow_cast-offset-in-loop-i-2 : goal.overflow_cast-offset-in-loop-i-2
overflow_cast-offset-in-loop-i-2 c = let d = c in omega (arith, c.requires.0.few, place_is (goal.at.overflow_cast-offset-in-loop-i-2 c).After-accepted_at-piece, low (goal.at.overflow_cast-offset-in-loop-i-2 c).After-accepted_at-piece)

pub loop-i-preserved : goal.loop-i-preserved
loop-i-preserved c =
    let here = (goal.at.loop-i-preserved c).After-accepted_at-piece in
    let n = next-piece here in
    let x = c.args in
    let i = c.loop-i.i in
    let all = ps here in
    let p = piece_is x.plan.now c.accepted_at-piece.result in
    let off : 16 * (x.pieces - i + 1) + get_or x.places.now i 0 ≡ 16 * (length all - i + 1) + place_of (kept_contents all) p = omega (arith, c.requires.0.counts, place_is here) in
    let offset = 16 * (length all - i + 1) + place_of (kept_contents all) p in
    let entry = entry_of p offset in
    let e = rw (off, row-entry 32 x.plan.now c.accepted_at-piece.result offset n.writable) at c.write_entry.ensures in
    let fits : 16 * i + length entry ≤ length x.output.now = omega (arith, length-entry_of p offset, c.requires.3) in
    let at : 0 + length (front all i) ≡ 16 * i = omega (arith, length_front all i (omega (arith, c.requires.0.counts))) in
    rw (front-next all i p n.from (omega (arith, c.requires.0.counts))) (store-behind x.output.now 0 (front all i) entry (16 * i) c.loop-i.output _ at fits c.loop-i.invariant e)

pub returns : goal.returns
returns c = let x = c.args in
    let ps = plan_pieces 32 x.plan.now in
    let e : c.loop-i.i ≡ length ps = omega (arith, c.requires.0.counts) in
    let at : 0 + length (front ps (length ps)) ≡ 16 * x.pieces = omega (arith, length_front ps (length ps) (omega arith), c.requires.0.counts) in
    let fits : 16 * x.pieces + length (four_bytes 0xffffffff 0 0 0) ≤ length x.output.now = omega (arith, length-four_bytes 0xffffffff 0 0 0, c.requires.3) in
    store-behind x.output.now 0 (front ps (length ps)) (four_bytes 0xffffffff 0 0 0) (16 * x.pieces) c.loop-i.output _ at fits (rw e at c.loop-i.invariant) c.put.ensures
    ∙ ap (store x.output.now 0) (front-all ps)
