-- `word_blocks::swap::put` meets its contract: the whole words, and the bytes behind them, are one store.
use mathlib.Core.Path.{◌≡◌, ap, sym, ◌∙◌}
use Prim.Native.Nat.{◌+◌, ◌-◌, ◌*◌, ◌/◌}
use native.Mathlib.Omega.{arith}
use borrow.Author.Tests.{leb-true, leb-false}
use lib.ListN.{length, take, drop}
use lib.Seq.{take_all, length-take-le}
use lib.ListN.{length-drop}
use Rattle.word_blocks.proofs.SwapLaws.{swap-whole-words}
use Rattle.word_blocks.proofs.SwapLaws.{length-swap}
use Rattle.word_blocks.specs.Swap.{swap_words}
use Rattle.words.proofs.StoreLaws.{store-part, store-fits, store-unfit, store-behind}
use Rattle.words.specs.Store.{store}
use Rattle.word_blocks.proofs.swap.put.Goals as goal

pub returns-then-fits : goal.returns-then-fits
returns-then-fits c = let x = c.args in
    let w = c.swap_whole in
    let s = x.source.now in
    let k = length s / 4 * 4 in
    let h = leb-true _ _ (sym c.fits.ensures ∙ c.if-fits.true) in
    let z : k - 0 ≡ k = omega arith in
    let t : length (take k s) ≡ k = length-take-le k s (omega arith) in
    let a = store-part x.s.now x.at (x.at + k) w.new.part (omega arith) (omega arith) w.auto.part ∙ ap (store x.s.now x.at) (rw z at w.ensures) in
    let r : take (length s - k) (drop k s) ≡ drop k s = take_all (length s - k) (drop k s) (omega (arith, length-drop k s)) in
    let b = rw r at c.bytes.ensures in
    let n = length-swap (take k s) in
    let e = store-behind x.s.now x.at (swap_words (take k s)) (drop k s) (x.at + k) _ _ (omega arith) (omega (arith, length-drop k s)) a b in
    rw (store-fits x.s.now x.at (swap_words s) (omega (arith, length-swap s)), swap-whole-words s) e

pub returns-else-fits : goal.returns-else-fits
returns-else-fits c = let x = c.args in
    let h = leb-false (x.at + length x.source.now) (length x.s.now) (sym c.fits.ensures ∙ c.if-fits.false) in
    sym (store-unfit x.s.now x.at (swap_words x.source.now) (omega (arith, length-swap x.source.now, h)))
