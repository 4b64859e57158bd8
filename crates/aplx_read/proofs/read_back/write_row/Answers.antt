-- `aplx_read::read_back::write_row` meets its contract: each arm writes the row of its kind of piece, and a put its data.
use mathlib.Core.Path.{◌≡◌}
use Prim.Native.Nat.{◌+◌, ◌-◌, ◌≤◌}
use native.Mathlib.Omega.{arith}
use lib.ListN.{length, take, drop}
use Rattle.words.specs.Four.{four_bytes}
use Rattle.words.proofs.FourLaws.{length-four_bytes, four-fits}
use Rattle.words.proofs.StoreLaws.{store-nil}
use Rattle.words.proofs.StoreGrowing.{both-fit}
use Rattle.plan.specs.declared.piece.Piece.TheVariants.{Put}
use Rattle.plan.specs.Code.Packer.{Writable}
use Rattle.plan.proofs.PlanLaws.{data-length}
use Rattle.aplx_read.specs.PlanBytes.{row_bytes}
use Rattle.aplx_read.proofs.read_back.write_row.Goals as goal
use Rattle.aplx_read.proofs.read_back.write_row.Goals.{In-Fill, In-Put}

-- what is required of a put
put-fits : (c : In-Put) → let x = c.args in
    Writable 32 x.image.now (Put c.in-Put.address c.in-Put.from c.in-Put.length) × (x.start + x.offset + c.in-Put.length ≤ length x.output.now)
put-fits c =
    let h = rw c.in-Put.is at c.requires in
    (h.0, h.3)

pub returns-in-Put : goal.returns-in-Put
unfolding row_bytes
returns-in-Put c = let d = c in
    let start = d in
    let x = start.args in
    let h = put-fits (goal.at.returns-in-Put c).In-Put in
    let e : c.in-Put.from + c.in-Put.length - c.in-Put.from ≡ c.in-Put.length = omega arith in
    let bytes = take c.in-Put.length (drop c.in-Put.from x.image.now) in
    let l : length bytes ≡ c.in-Put.length = data-length x.image.now c.in-Put.from c.in-Put.length h.0.0 in
    rw d.in-Put.is
    (both-fit x.output.now _ _ x.at (four_bytes 1 c.in-Put.address (length bytes) x.offset) (x.start + x.offset) bytes
    (omega (arith, length-four_bytes 1 c.in-Put.address (length bytes) x.offset)) (omega arith)
    (rw l c.put.ensures) (rw e at c.bytes.ensures))

pub returns-in-Fill : goal.returns-in-Fill
unfolding row_bytes
returns-in-Fill c = let d = c in
    let x = d.args in
    let h : x.at + 16 ≤ length x.output.now = omega arith in
    simp (c.put-in-Fill.ensures, four-fits, d.in-Fill.is, store-nil)

pub returns-in-Run : goal.returns-in-Run
unfolding row_bytes
returns-in-Run c = let d = c in
    let x = d.args in
    let h : x.at + 16 ≤ length x.output.now = omega arith in
    simp (c.put-in-Run.ensures, four-fits, d.in-Run.is, store-nil)
