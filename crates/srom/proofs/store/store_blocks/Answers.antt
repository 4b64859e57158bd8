-- `srom::store::store_blocks` meets its contract: the loop's invariant: the rest of the blocks, stored over memory as it now is, leave what all leave.
use mathlib.Core.Path.{◌≡◌, ap, sym, ◌∙◌}
use native.Mathlib.Omega.{arith}
use Prim.Native.Nat.{◌+◌, ◌-◌, ◌≤◌}
use lib.ListN.{length}
use Rattle.std.specs.Prelude.{Ok}
use Rattle.srom.specs.declared.walk.Item as code
use Rattle.srom.proofs.Loops.{Located, located, stores-on, stores-end}
use Rattle.srom.specs.Code.{item_of}
use Rattle.srom.specs.Walk.{block, block_in, item_at, pads_end}
use Rattle.memory_map.proofs.LookupLaws.{lawful}
use Rattle.memory_map.specs.Lookup.{lookup}
use Rattle.memory_region.specs.declared.region.Right.TheVariants.{Write}
use Rattle.words.proofs.StoreLaws.{length-store, store-fits}
use Rattle.srom.proofs.store.store_blocks.Goals as goal
use Rattle.srom.proofs.store.store_blocks.Goals.{In-Block}

-- the block where the pads end, as the code has it
block-there : (c : In-Block)
    → let x = c.args in
    let b = c.in-Block in
    item_at (lookup x.rom.now.map) x.rom.now.bytes.now (pads_end x.rom.now.bytes.now c.loop-item.next) ≡ block b.address b.place b.from b.to
block-there c = sym c.in-Ok.ensures ∙ ap (λ (i : code.Item). item_of (Ok i)) c.in-Block.is

there : (c : In-Block)
    → let x = c.args in
    let b = c.in-Block in
    Located (lookup x.rom.now.map) x.rom.now.bytes.now c.loop-item.next b.address b.place b.from b.to
there c =
    let x = c.args in
    let b = c.in-Block in
    located (lookup x.rom.now.map) x.rom.now.bytes.now _ b.address b.place b.from b.to (block-there c)

-- its range ends inside memory
inside : (c : In-Block)
    → c.in-Block.place + (c.in-Block.to - c.in-Block.from) ≤ length c.loop-item.memory
inside c =
    let b = c.in-Block in
    let h = (lawful c.args.rom.now.map (length c.args.memory.now) c.requires).inside Write b.address _ b.place (there c).facts.found in
    let g = c.loop-item.invariant.1 in
    omega (arith, h, g)

pub slice_bounds-put-count : goal.slice_bounds-put-count
slice_bounds-put-count c = omega (arith, (there (goal.at.slice_bounds-put-count c).In-Block).facts)

pub slice_bounds-put-start : goal.slice_bounds-put-start
slice_bounds-put-start c = omega (arith, (there (goal.at.slice_bounds-put-start c).In-Block).facts)

pub slice_bounds-put-end : goal.slice_bounds-put-end
slice_bounds-put-end c = omega (arith, (there (goal.at.slice_bounds-put-end c).In-Block).facts)

pub loop-item-smaller : goal.loop-item-smaller
loop-item-smaller c = let i = (goal.at.loop-item-smaller c).In-Block in omega (arith, there i, (there i).facts)

pub loop-item-preserved : goal.loop-item-preserved
loop-item-preserved c = let x = c.args in
    let n = c.loop-item in
    let i = (goal.at.loop-item-preserved c).In-Block in
    let b = c.in-Block in
    let w = (block_in x.rom.now.bytes.now b.address b.place b.from b.to).bytes in
    let stored = c.put.ensures ∙ store-fits n.memory b.place w (rw (there i).facts.size (inside i)) in (
      rw stored (sym (stores-on (lookup x.rom.now.map) x.rom.now.bytes.now n.next n.memory (block-there i)) ∙ n.invariant.0),
      rw stored (length-store n.memory b.place w (rw (there i).facts.size (inside i)) ∙ n.invariant.1),
    )

pub returns-in_default-item : goal.returns-in_default-item
returns-in_default-item c = let x = c.args in
    let n = c.loop-item in
    sym (stores-end (lookup x.rom.now.map) x.rom.now.bytes.now n.next n.memory (sym c.in-Ok.ensures ∙ ap (λ (i : code.Item). item_of (Ok i)) c.in_default-item.is)) ∙ n.invariant.0

pub returns : goal.returns
returns c = let x = c.args in
    let n = c.loop-item in
    sym (stores-end (lookup x.rom.now.map) x.rom.now.bytes.now n.next n.memory (sym c.in_default.ensures)) ∙ n.invariant.0
