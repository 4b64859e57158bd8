-- `srom_pack::block::write_block` meets its contract: each arm writes the block of its kind of piece.
use mathlib.Core.Path.{◌≡◌, ◌∙◌}
use mathlib.Core.List.{append-nil}
use Prim.Native.Nat.{◌+◌, ◌-◌, ◌≤◌}
use native.Mathlib.Omega.{arith}
use lib.ListN.{length}
use Rattle.word_blocks.specs.Swap.{swap_words}
use Rattle.plan.specs.declared.piece.Piece.TheVariants.{Put, Fill}
use Rattle.plan.specs.Code.Packer.{Writable}
use Rattle.srom_pack.specs.Image.{block, block_of}
use Rattle.srom_pack.proofs.block.write_block.Goals as goal
use Rattle.srom_pack.proofs.block.write_block.Goals.{In-Fill, In-Put}

-- what is required, of a put and of a fill
put-fits : (c : In-Put) → let x = c.args in
    Writable 4 x.plan.now (Put c.in-Put.address c.in-Put.from c.in-Put.length) × (x.at + (7 + c.in-Put.length) ≤ length x.output.now)
put-fits c = let h = rw c.in-Put.is at c.requires in (h.0, omega arith)

fill-fits : (c : In-Fill) → let x = c.args in
    Writable 4 x.plan.now (Fill c.in-Fill.address c.in-Fill.length c.in-Fill.word) × (x.at + (7 + c.in-Fill.length) ≤ length x.output.now)
fill-fits c = let h = rw c.in-Fill.is at c.requires in (h.0, omega arith)

pub returns-in-Put : goal.returns-in-Put
unfolding block_of
returns-in-Put c = let d = c in
    let e : c.in-Put.from + c.in-Put.length - c.in-Put.from ≡ c.in-Put.length = omega arith in
    c.data_block.ensures ∙ simp (e, d.in-Put.is)

pub returns-in-Fill : goal.returns-in-Fill
unfolding block_of
returns-in-Fill c = c.fill_block.ensures ∙ simp c.in-Fill.is

pub returns-in-Run : goal.returns-in-Run
unfolding block_of block swap_words
returns-in-Run c = c.put_header.ensures ∙ simp (c.in-Run.is, append-nil)
