-- `scp::reply::version` meets its contract: the bytes put are those of the response, one behind the other.
use Rattle.std.proofs.Common.{refl, ◌∙◌, append_assoc, ◌≤◌, arith, length}
use Rattle.words.proofs.BytesLaws.{length-little_endian}
use Rattle.scp.specs.Reply.{header, name, version}
use Rattle.scp.proofs.ReplyLaws.{length-header}
use Rattle.scp.proofs.Replies.{Put, put-behind}
use Rattle.scp_packet.specs.Packet.{OK}
use Rattle.scp.proofs.reply.version.Goals as goal

pub returns : goal.returns
unfolding version
returns c = let s = c.args.packet.now in
    let out = c.args.output.now in
    let h : 31 ≤ length out = c.requires.1 in
    let p : Put out (header OK s) 4 _ = record { stored = c.coded.ensures.output_after; size = length-header s c.requires.0 OK } in
    let p1 = put-behind out _ _ 4 4 _ _ (length-little_endian 4 _) (omega arith) p c.le_word.ensures in
    let p2 = put-behind out _ _ 8 4 _ _ (length-little_endian 4 _) (omega arith) p1 c.le_word-2.ensures in
    let p3 = put-behind out _ _ 12 4 _ _ (length-little_endian 4 _) (omega arith) p2 c.le_word-3.ensures in
    let p4 = put-behind out _ name 16 15 _ _ refl h p3 c.bytes.ensures in
    record { result_value = refl; output_after = p4.stored ∙ simp append_assoc }
