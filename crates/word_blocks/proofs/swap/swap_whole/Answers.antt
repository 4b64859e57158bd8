-- `word_blocks::swap::swap_whole` meets its contract. The loop's invariant: the words passed, swapped, are stored over the part as it was.
use Prim.Native.Nat.{◌+◌, ◌-◌, ◌*◌}
use mathlib.Core.Path.{◌≡◌, ap, sym, ◌∙◌}
use native.Mathlib.Omega.{arith}
use lib.ListN.{length, take, drop}
use Rattle.words.specs.Bytes.{Bytes}
use Rattle.words.proofs.StdLaws.{to-le-4}
use Rattle.word_blocks.specs.Swap.{swap_words}
use Rattle.word_blocks.proofs.SwapLaws.{length-swap, swap-number, swap-more}
use Rattle.words.specs.Store.{store}
use Rattle.words.proofs.StoreLaws.{store-nil, store-whole, store-part}
use Rattle.words.proofs.ChoiceLaws.{all-elements, all_take, all_drop}
use lib.Seq.{take_all}
use borrow.Rule.Slice.PartMut.{mid_len}
use Rattle.word_blocks.proofs.swap.swap_whole.Goals as goal

pub loop-i-init : goal.loop-i-init
unfolding swap_words
loop-i-init c = sym (store-nil c.args.part.now 0)

pub loop-i-preserved : goal.loop-i-preserved
loop-i-preserved c = let l = c.loop-i in
    let x = c.args in
    let s = x.source.now in
    let at = l.i * 4 in
    let b = c.copy_from_slice in
    let w = take 4 (drop at s) in
    let size : at + 4 - at ≡ 4 = omega arith in
    let bytes : Bytes s = all-elements _ 0 s (λ i. omega (arith, c.type_inv.source i)) in
    let four : length w ≡ 4 = rw size at (mid_len at (at + 4) s (omega arith)) in
    let swapped : b.new.self ≡ swap_words w = b.ensures.after ∙ c.to_le_bytes.ensures ∙ to-le-4 c.be_word-word.result
    ∙ rw (c.be_word-word.ensures, size) (swap-number w four (all_take _ 4 (drop at s) (all_drop _ at s bytes))) in
    let next : at + 4 ≡ (l.i + 1) * 4 = omega arith in
    store-part l.part at (at + 4) b.new.self (omega arith) (omega arith) b.auto.self
    ∙ ap (store l.part at) swapped
    ∙ rw (l.invariant, ← next) (swap-more x.part.now s at 4 (omega arith) (omega arith) (omega arith))

pub returns : goal.returns
returns c = let l = c.loop-i in
    let x = c.args in
    let s = x.source.now in
    let a : take (l.i * 4) s ≡ s = take_all (l.i * 4) s (omega arith) in
    l.invariant ∙ rw a (store-whole x.part.now (swap_words s) (omega (arith, length-swap s)))
