-- `aplx::perform::perform_command` meets its contract: the ranges of a command that may be performed lie in memory, at the places that lookup gives.
use Rattle.std.proofs.Common.{◌≡◌, ap, ◌∙◌, ◌+◌, ◌≤◌, arith, length}
use Rattle.word_blocks.proofs.RepeatLaws.{filling-whole, fill-part}
use Rattle.words.specs.Store.{store}
use Rattle.memory_region.specs.declared.region.Right.TheVariants.{Read, Write}
use Rattle.memory_map.specs.Lookup.{lookup, place_of}
use Rattle.memory_map.proofs.LookupLaws.{lawful, range_inside}
use Rattle.aplx_copy.proofs.CopyLaws.{copied-fits}
use Rattle.aplx.specs.Load.{perform}
use Rattle.aplx.proofs.perform.perform_command.Goals as goal
use Rattle.aplx.proofs.perform.perform_command.Goals.{After-place-target-in-Fill}

-- where a fill's destination stands in memory
target : (c : After-place-target-in-Fill) → c.place-target-in-Fill.result ≡ place_of (lookup c.args.map Write c.in-Fill.to c.in-Fill.length)
target c = c.place-target-in-Fill.ensures ∙ ap place_of c.lookup-in-Fill.ensures

-- it lies in memory
inside : (c : After-place-target-in-Fill) → c.place-target-in-Fill.result + c.in-Fill.length ≤ length c.args.memory.now
inside c =
    let g = rw c.in-Fill.is at c.requires.1 in
    range_inside (lawful c.args.map (length c.args.memory.now) c.requires.0) Write c.in-Fill.to c.in-Fill.length (target c) g.0

pub overflow_add-end : goal.overflow_add-end
overflow_add-end c = omega (arith, inside c)

pub slice_bounds-fill-end : goal.slice_bounds-fill-end
slice_bounds-fill-end c = inside (goal.at.slice_bounds-fill-end c).After-place-target-in-Fill

pub returns-in-Copy : goal.returns-in-Copy
unfolding perform
returns-in-Copy c = let i = c.in-Copy in
    let g = rw i.is at c.requires.1 in
    let m = c.args.memory.now in
    let l = lawful c.args.map (length m) c.requires.0 in
    let t = c.place-target.ensures ∙ ap place_of c.lookup.ensures in
    let s = c.place-source.ensures ∙ ap place_of c.lookup-in-Copy.ensures in
    simp (i.is, ← t, ← s)
    (c.copy.ensures
    ∙ copied-fits i.length c.place-target.result c.place-source.result m (range_inside l Write i.to i.length t g.0.0) (range_inside l Read i.from i.length s g.0.1))

pub returns-in-Fill : goal.returns-in-Fill
unfolding perform
returns-in-Fill c = let i = c.in-Fill in
    let g = rw i.is at c.requires.1 in
    let m = c.args.memory.now in
    let k = (goal.at.returns-in-Fill c).After-place-target-in-Fill in
    let p = c.place-target-in-Fill.result in
    simp (i.is, ← target k)
    (fill-part m p i.length i.word c.fill.new.part (inside k) c.fill.ensures ∙ ap (store m p) (filling-whole i.length i.word g.1))
