-- `srom::walk::walk_blocks` meets its contract: the loop's invariant: the rest of the walk, with what was counted before it, has the outcome of the whole.
use mathlib.Core.Path.{◌≡◌, ap, sym, ◌∙◌}
use native.Mathlib.Omega.{arith}
use Rattle.srom.proofs.Loops.{Located, located, counts-on, counts_end}
use Rattle.srom.specs.Code.{item_of}
use Rattle.srom.specs.Walk.{block, item_at, pads_end}
use Rattle.srom.specs.declared.walk.Item as code
use Rattle.memory_map.specs.Lookup.{lookup}
use Rattle.srom.proofs.walk.walk_blocks.Goals as goal
use Rattle.srom.proofs.walk.walk_blocks.Goals.{In-Block}
use Rattle.std.specs.Prelude.{Ok}
use Rattle.std.proofs.lemmas.Result.{err_from_is_err_and}

-- the block where the pads end, as the code has it
block-there : (c : In-Block)
    → let x = c.args in
    let b = c.in-Block in
    item_at (lookup x.rom.now.map) x.rom.now.bytes.now (pads_end x.rom.now.bytes.now c.loop-from.next) ≡ block b.address b.place b.from b.to
block-there c = sym c.in_ok-from.ensures ∙ ap (λ (i : code.Item). item_of (Ok i)) c.in-Block.is

there : (c : In-Block)
    → let x = c.args in
    let b = c.in-Block in
    Located (lookup x.rom.now.map) x.rom.now.bytes.now c.loop-from.next b.address b.place b.from b.to
there c =
    let x = c.args in
    let b = c.in-Block in
    located (lookup x.rom.now.map) x.rom.now.bytes.now _ b.address b.place b.from b.to (block-there c)

pub overflow_add-taken : goal.overflow_add-taken
overflow_add-taken c = omega (arith, there c, (there c).facts)

pub overflow_sub-stored : goal.overflow_sub-stored
overflow_sub-stored c = omega (arith, (there c).facts)

pub overflow_add-stored : goal.overflow_add-stored
overflow_add-stored c = omega (arith, there c, (there c).facts)

pub loop-from-smaller : goal.loop-from-smaller
loop-from-smaller c = omega (arith, there c, (there c).facts)

pub loop-from-preserved : goal.loop-from-preserved
loop-from-preserved c = let x = c.args in
    let l = c.loop-from in (
      sym (counts-on (lookup x.rom.now.map) x.rom.now.bytes.now l.next l.taken l.stored (block-there c)) ∙ l.invariant.0,
      omega (arith, there c, (there c).facts),
      omega (arith, there c, (there c).facts),
    )

pub returns-in-Halt : goal.returns-in-Halt
returns-in-Halt c = let x = c.args in
    let l = c.loop-from in
    sym (counts_end (lookup x.rom.now.map) x.rom.now.bytes.now l.next l.taken l.stored (sym c.in_ok-from.ensures ∙ ap (λ (i : code.Item). item_of (Ok i)) c.in-Halt.is)) ∙ l.invariant.0

pub returns-in_err-from : goal.returns-in_err-from
returns-in_err-from c = let x = c.args in
    let l = c.loop-from in
    let p = err_from_is_err_and c.from_residual.result c.from_residual.ensures.1 in
    rw (p.1, p.2) (sym (counts_end (lookup x.rom.now.map) x.rom.now.bytes.now l.next l.taken l.stored (sym c.in_err-from.ensures)) ∙ l.invariant.0)
