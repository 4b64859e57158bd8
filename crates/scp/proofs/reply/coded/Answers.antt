-- `scp::reply::coded` meets its contract: the bytes put are those of the header, one behind the other.
use Rattle.std.proofs.Common.{refl, ◌∙◌, arith, take, drop, length-drop}
use Rattle.std.proofs.Math.Seq.{length-take-le}
use Rattle.words.specs.Bytes.{little_endian}
use Rattle.words.proofs.BytesLaws.{length-little_endian}
use Rattle.words.proofs.StoreLaws.{store-fits, store-behind}
use Rattle.scp_packet.specs.Code.{code_of}
use Rattle.scp.specs.Reply.{header}
use Rattle.scp.proofs.reply.coded.Goals as goal

pub returns : goal.returns
unfolding header
returns c = let x = c.args in
    let s = x.packet.now in
    let out = x.output.now in
    let code = little_endian 2 (code_of x.code) in
    let l = length-little_endian 2 (code_of x.code) in
    let k = length-take-le 2 (drop 2 s) (omega (arith, length-drop 2 s)) in
    let e = rw c.code.ensures at c.le_half.ensures ∙ store-fits out 0 code (omega arith) in
    record { result_value = refl; output_after = store-behind out 0 code (take 2 (drop 2 s)) 2 _ _ (omega arith) (omega arith) e c.bytes.ensures }
