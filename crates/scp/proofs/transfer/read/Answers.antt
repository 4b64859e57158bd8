-- `scp::transfer::read` meets its contract: a permitted range lies in memory, and its bytes are put behind the header.
use Rattle.std.proofs.Common.{◌≡◌, false, sym, ◌+◌, ◌-◌, ◌≤◌, arith, length}
use Rattle.memory_region.specs.declared.region.Right.TheVariants.{Read}
use Rattle.memory_map.specs.Lookup.{at, lookup}
use Rattle.memory_map.proofs.LookupLaws.{lawful}
use Rattle.scp_packet.specs.Packet.{arg1, arg2}
use Rattle.scp_packet.proofs.TransferLaws.{moved}
use Rattle.scp.specs.Answer.{read_packet}
use Rattle.scp.proofs.Transfers.{data-return}
use Rattle.scp.proofs.transfer.read.Goals as goal
use Rattle.scp.proofs.transfer.read.Goals.{In-Ok}

-- the place of the range
placed : (c : In-Ok) → lookup c.args.board.now.map Read (arg1 c.args.packet.now) (arg2 c.args.packet.now) ≡ at c.in-Ok.place
placed c = rw (c.le_word_at-address.ensures, c.le_word_at-size.ensures) at (sym c.in-Ok.ensures)

-- it lies in memory
inside : (c : In-Ok) → c.in-Ok.place + arg2 c.args.packet.now ≤ length c.args.board.now.memory.now
inside c = (lawful c.args.board.now.map (length c.args.board.now.memory.now) c.args.board.now.is_sound).inside Read _ _ _ (placed c)

pub overflow_add-end : goal.overflow_add-end
overflow_add-end c = omega (arith, inside c)

pub slice_bounds-bytes-end : goal.slice_bounds-bytes-end
slice_bounds-bytes-end c = let i = inside (goal.at.slice_bounds-bytes-end c).In-Ok in omega arith

pub returns : goal.returns
unfolding read_packet
returns c = let x = c.args in
    let k = (goal.at.returns c).In-Ok in
    let p = c.in-Ok.place in
    let n = arg2 x.packet.now in
    let q : p + c.le_word_at-size.result - p ≡ n = omega arith in
    let m = moved false x.packet.now (sym c.in_ok-judge.ensures) in
    let e = rw (q, c.coded.ensures.output_after) at c.bytes.ensures in
    rw c.le_word_at-size.ensures
    (data-return x.packet.now x.board.now.memory.now x.output.now (omega arith) p n (inside k) (omega (arith, m.small)) (simp (sym c.in_ok-judge.ensures, placed k)) e)
