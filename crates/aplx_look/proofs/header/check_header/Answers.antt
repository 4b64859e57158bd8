-- `aplx_look::header::check_header` meets its contract: the loop's invariant: the test over the entries left gives what the test over all of them gives, and the bytes counted with those left are the bytes of all.
use Rattle.std.proofs.Common.{◌≡◌, ap, sym, ◌∙◌, ◌+◌, ◌*◌, ◌≤◌, arith, List, length, ℕ}
use Rattle.memory_region.specs.declared.region.Right.TheVariants.{Read}
use Rattle.outcome.specs.Outcome.{stop_of}
use Rattle.outcome.specs.Destinations.{stored_in}
use Rattle.memory_map.specs.declared.map.Map.{Map}
use Rattle.memory_map.specs.Lookup.{lookup, place_of}
use Rattle.memory_map.proofs.LookupLaws.{lawful, found-place}
use Rattle.aplx_command.specs.Command.{Command, command_at}
use Rattle.aplx_look.specs.Walk.{commands}
use Rattle.aplx_look.specs.Look.{destinations, meets_header}
use Rattle.aplx_look.specs.Look.Header.{bytes_of}
use Rattle.aplx_look.proofs.WalkLaws.{goes-found}
use Rattle.aplx_look.proofs.LookHeader.{header-met, header-on, header-end, bytes_on, bytes-end}
use Rattle.aplx_look.proofs.LookLaws.{goes-bytes}
use Rattle.aplx_look.proofs.Looking.{outcome-tested}
use Rattle.aplx_look.proofs.header.check_header.Goals as goal
use Rattle.aplx_look.proofs.header.check_header.Goals.{After-bytes_of-stored, After-meets_header}

-- the command at an address
abbrev command_there : Map → List ℕ → ℕ → Command
command_there map m a = command_at m (place_of (lookup map Read a 16)) a

-- whether the destination of the entry's command meets the entries
met : (c : After-meets_header) → meets_header c.args.header (16 * (c.args.count + 1)) (command_there c.args.board.now.map c.args.board.now.memory.now c.loop-i.address) ≡ c.meets_header.result
met c = rw (← (rw (c.place-entry.ensures ∙ ap place_of c.lookup.ensures) at c.command_at-command.ensures)) (sym c.meets_header.ensures)

-- its bytes, counted
bytes : (c : After-bytes_of-stored) → c.bytes_of-stored.result ≡ bytes_of (command_there c.args.board.now.map c.args.board.now.memory.now c.loop-i.address)
bytes c = c.bytes_of-stored.ensures ∙ ap bytes_of (rw (c.place-entry.ensures ∙ ap place_of c.lookup.ensures) at c.command_at-command.ensures)

-- they fit the address space, as does the entry
few : (c : After-bytes_of-stored) → (c.bytes_of-stored.result ≤ 4294967280) × (c.loop-i.address + 16 ≤ 4294967280)
few c =
    let x = c.args in
    let a = c.loop-i.address in
    let e = goes-found (lookup x.board.now.map) x.board.now.memory.now a c.loop-i.i (rw c.loop-i.invariant.at (c.requires.0 c.loop-i.i (omega arith))) in
    let laws = lawful x.board.now.map (length x.board.now.memory.now) x.board.now.is_sound in (
      rw (bytes c, found-place e.found-there) (goes-bytes laws a c.loop-i.i (command_at x.board.now.memory.now e.place a) e.passes),
      laws.below Read a 16 e.place e.found-there,
    )

pub returns-then-meets_header : goal.returns-then-meets_header
returns-then-meets_header c = let l = c.loop-i in
    let x = c.args in
    let t = header-met (lookup x.board.now.map) x.board.now.memory.now l.address x.count l.i x.header (16 * (x.count + 1)) _ (omega arith) (met (goal.at.returns-then-meets_header c).After-meets_header ∙ c.if-meets_header.true) in
    rw c.at.ensures (sym (outcome-tested (lookup x.board.now.map) x.board.now.memory.now x.header x.count (stop_of x.stop) (sym l.invariant.tests ∙ t)))

pub overflow_add-stored : goal.overflow_add-stored
overflow_add-stored c = let h = few c in omega arith

pub overflow_add-address : goal.overflow_add-address
overflow_add-address c = let h = few c in omega arith

pub loop-i-preserved : goal.loop-i-preserved
loop-i-preserved c = let l = c.loop-i in
    let x = c.args in
    let h = few c in
    let b = bytes_on (lookup x.board.now.map) x.board.now.memory.now l.address x.count l.i (omega arith) in
    let k = bytes c in
    record {
      at = omega arith;
      few = omega arith;
      bytes = omega arith;
      tests =
          sym (header-on (lookup x.board.now.map) x.board.now.memory.now l.address x.count l.i x.header (16 * (x.count + 1)) _ (omega arith) (met (goal.at.loop-i-preserved c).After-meets_header ∙ c.if-meets_header.false)) ∙ l.invariant.tests;
    }

pub returns : goal.returns
returns c = let l = c.loop-i in
    let x = c.args in
    let b = bytes-end (lookup x.board.now.map) x.board.now.memory.now l.address x.count l.i (omega arith) in
    let n : l.stored ≡ stored_in (destinations (commands (lookup x.board.now.map) x.board.now.memory.now x.header x.count)) = omega arith in
    let t = header-end (lookup x.board.now.map) x.board.now.memory.now l.address x.count l.i x.header (16 * (x.count + 1)) _ (omega arith) in
    rw n (sym (outcome-tested (lookup x.board.now.map) x.board.now.memory.now x.header x.count (stop_of x.stop) (sym l.invariant.tests ∙ t)))
