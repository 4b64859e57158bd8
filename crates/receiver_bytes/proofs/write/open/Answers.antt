-- `receiver_bytes::write::open` meets its contract: two numbers adjoin, and the marks are cleared.
use Prim.Native.Nat.{◌≤◌}
use lib.ListN.{length, replicate}
use borrow.Rule.Slice.PartMut.{mid_len}
use Rattle.words.proofs.BytesLaws.{length-little_endian}
use Rattle.words.specs.Store.{store}
use native.Mathlib.Omega.{arith}
use mathlib.Core.Path.{◌≡◌, ◌∙◌, ap}
use mathlib.Core.List.{◌++◌}
use Rattle.words.specs.Bytes.{little_endian}
use Rattle.words.proofs.StoreLaws.{store-fits, store-part, store-behind}
use Rattle.receiver_bytes.specs.Receiver.{written}
use Rattle.receiver_bytes.proofs.write.open.Goals as goal

pub returns : goal.returns
unfolding written
returns c = let w = c in
    let b = w in
    let a = b in
    let x = a.args in
    let s = x.bytes.now in
    let t = b.le_half-2.new.s in
    let i = length-little_endian 2 x.block in
    let j = length-little_endian 2 x.size in
    let headed : t ≡ store s 4 (little_endian 2 x.block ++ little_endian 2 x.size) =
    store-behind s 4 (little_endian 2 x.block) (little_endian 2 x.size) 6 a.le_half.new.s t (omega arith) (omega arith) (a.le_half.ensures ∙ store-fits s 4 (little_endian 2 x.block) (omega arith)) b.le_half-2.ensures
    in
    let long : 520 ≤ length t = omega arith in
    store-part t 264 520 w.fill.new.self (omega arith) long w.fill.ensures.len
    ∙ ap (store t 264) (w.fill.ensures.after (λ y e. e) ∙ ap (λ n. replicate n 0) (mid_len 264 520 t long))
    ∙ ap (λ m. store m 264 (replicate 256 0)) headed
