-- `aplx::load::load` meets its contract: a refused load leaves memory alone; the entries of an accepted one passed the tests that performing them asks for.
use Rattle.std.proofs.Common.{sym}
use Rattle.outcome.proofs.OutcomeLaws.{accepted-leaves}
use Rattle.memory_map.specs.Lookup.{lookup}
use Rattle.aplx_look.specs.Look.{aplx_look}
use Rattle.aplx_look.proofs.LookLaws.{Accepted, accepted-look}
use Rattle.aplx.specs.Load.{perform_all, aplx_load}
use Rattle.aplx.proofs.load.load.Goals as goal
use Rattle.aplx.proofs.load.load.Goals.{In_ok-load}

-- an accepted look: the tests that it passed
passed : (c : In_ok-load) → let x = c.args in Accepted x.map x.memory.now x.header c.in_ok-load.load.taken
passed c = let x = c.args in accepted-look x.map x.memory.now x.header (sym c.in_ok-load.ensures)

pub perform_all-requires : goal.perform_all-requires
perform_all-requires c = let p = passed (goal.at.perform_all-requires c).In_ok-load in (p.sound-map, p.is-ready)

pub returns : goal.returns
unfolding aplx_load
returns c = let x = c.args in
    let l = aplx_look x.map x.memory.now x.header in
    let e = c.in_ok-load.ensures in
    rw (c.perform_all.ensures, ← (passed (goal.at.returns c).In_ok-load).commands-are)
    (simp (sym e, accepted-leaves _ _ x.memory.now (perform_all (lookup x.map) l.commands x.memory.now) l.ending (sym e)))
