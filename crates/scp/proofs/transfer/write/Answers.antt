-- `scp::transfer::write` meets its contract: a permitted range lies in memory, and the packet's data fill it.
use Rattle.std.proofs.Common.{◌≡◌, refl, true, sym, ◌∙◌, List, ℕ, length}
use Rattle.memory_region.specs.declared.region.Right.TheVariants.{Write}
use Rattle.memory_map.specs.Lookup.{at, lookup}
use Rattle.memory_map.proofs.LookupLaws.{lawful}
use Rattle.scp_packet.specs.Packet.{arg1, arg2}
use Rattle.scp_packet.proofs.TransferLaws.{moved}
use Rattle.scp.specs.Answer.{write_packet}
use Rattle.scp.proofs.Transfers.{data-stored}
use Rattle.scp.proofs.transfer.write.Goals as goal

pub slice_bounds-bytes-count : goal.slice_bounds-bytes-count
slice_bounds-bytes-count c = (moved true c.args.packet.now (sym c.in_ok-judge.ensures)).long

pub slice_bounds-bytes-start : goal.slice_bounds-bytes-start
slice_bounds-bytes-start c = (moved true c.args.packet.now (sym c.in_ok-judge.ensures)).long

pub returns-clause-outcome : goal.returns-clause-outcome
unfolding write_packet
returns-clause-outcome c = λ (o : List ℕ). let x = c.args in
    let s = x.packet.now in
    let p = c.in-Ok.place in
    let f : lookup x.board.now.map Write (arg1 s) (arg2 s) ≡ at p = rw (c.le_word_at-address.ensures, c.le_word_at-size.ensures) at (sym c.in-Ok.ensures) in
    let i = (lawful x.board.now.map (length x.board.now.memory.now) x.board.now.is_sound).inside Write _ _ _ f in
    let m = moved true s (sym c.in_ok-judge.ensures) in
    simp (sym c.in_ok-judge.ensures, f, c.bytes.ensures ∙ data-stored s x.board.now.memory.now p (arg2 s) (m.whole refl) i)
