-- `flood_fill::store::store_words` meets its contract: the loop's invariant: the first i words are stored.
use Rattle.flood_fill.proofs.ReceiveLaws.{bytes-more}
use Rattle.flood_fill.proofs.ReceiveLaws.{length_word_bytes}
use Rattle.flood_fill.specs.Receive.{word_bytes}
use Rattle.words.proofs.BytesLaws.{length-little_endian}
use Rattle.words.specs.Bytes.{little_endian}
use Rattle.words.proofs.StoreLaws.{store-behind, store-nil, length-store}
use Rattle.words.specs.Store.{store}
use lib.Seq.{length-take-le}
use lib.ListN.{length, take, get_or, length-append}
use Prim.Native.Nat.{◌+◌, ◌*◌}
use mathlib.Core.Path.{◌≡◌, refl, ap, sym, ◌∙◌}
use native.Mathlib.Omega.{arith}
use Rattle.flood_fill.proofs.store.store_words.Goals as goal

pub loop-i-init : goal.loop-i-init
unfolding word_bytes
loop-i-init c = (refl, sym (store-nil _ _))

pub loop-i-preserved : goal.loop-i-preserved
loop-i-preserved c = let l = c.loop-i in
    let x = c.args in
    let w = x.words.now in
    let d = word_bytes (take l.i w) in
    let v = little_endian 4 (get_or w l.i 0) in
    let n : length d ≡ 4 * l.i = length_word_bytes (take l.i w) ∙ ap (4 *◌) (length-take-le l.i w (omega arith)) in
    let g = length-little_endian 4 (get_or w l.i 0) in
    let e : c.le_word.new.s ≡ store x.image.now x.at (word_bytes (take (l.i + 1) w)) =
    rw (bytes-more w l.i (omega arith)) (store-behind x.image.now x.at d v (x.at + 4 * l.i) l.image _ (omega arith) (omega (arith, c.requires)) l.invariant.1 c.le_word.ensures)
    in
    (rw e (length-store x.image.now x.at _ (rw (bytes-more w l.i (omega arith)) (simp length-append (omega (arith, c.requires))))), e)
