-- `aplx_look::walk::walk_entries` meets its contract: the loop's invariant: the walk from the entry `i` on gives what the whole walk gives.
use Rattle.std.proofs.Common.{◌≡◌, sym, ◌∙◌, arith, length}
use Rattle.memory_map.specs.Lookup.{lookup}
use Rattle.memory_map.proofs.LookupLaws.{lawful}
use Rattle.memory_region.specs.declared.region.Right.TheVariants.{Read}
use Rattle.aplx_look.specs.Walk.{goes, judge}
use Rattle.aplx_look.proofs.WalkLaws.{goes-found, walk-goes, walk-halts, walk-tired}
use Rattle.aplx_look.proofs.walk.walk_entries.Goals as goal
use Rattle.aplx_look.proofs.walk.walk_entries.Goals.{In-Ok-None}

-- the entry passed its tests
passed : (c : In-Ok-None) → judge (lookup c.args.board.now.map) c.args.board.now.memory.now c.loop-i.address c.loop-i.i ≡ goes
passed c = sym (rw c.in-Ok-None.field-0-is at c.in-Ok-None.ensures)

pub overflow_add-address : goal.overflow_add-address
overflow_add-address c = let x = c.args in
    let f = goes-found (lookup x.board.now.map) x.board.now.memory.now c.loop-i.address c.loop-i.i (passed c) in
    let h = (lawful x.board.now.map (length x.board.now.memory.now) x.board.now.is_sound).below Read c.loop-i.address 16 _ f.found-there in
    omega arith

pub loop-i-preserved : goal.loop-i-preserved
loop-i-preserved c = let x = c.args in
    sym (walk-goes (lookup x.board.now.map) x.board.now.memory.now c.loop-i.address c.loop-i.i (omega arith) (passed c)) ∙ c.loop-i.invariant

pub returns-in-Ok-Some : goal.returns-in-Ok-Some
returns-in-Ok-Some c = let x = c.args in
    sym (walk-halts (lookup x.board.now.map) x.board.now.memory.now c.loop-i.address c.loop-i.i (omega arith) (sym (rw c.in-Ok-Some.field-0-is at c.in-Ok-Some.ensures))) ∙ c.loop-i.invariant

pub returns-in-Err : goal.returns-in-Err
returns-in-Err c = let x = c.args in
    rw c.at.ensures (sym (walk-halts (lookup x.board.now.map) x.board.now.memory.now c.loop-i.address c.loop-i.i (omega arith) (sym c.in-Err.ensures)) ∙ c.loop-i.invariant)

pub returns : goal.returns
returns c = let x = c.args in
    let e : c.loop-i.i ≡ 256 = omega arith in
    rw c.at-2.ensures (rw e at (sym (walk-tired (lookup x.board.now.map) x.board.now.memory.now c.loop-i.address c.loop-i.i (omega arith)) ∙ c.loop-i.invariant))
