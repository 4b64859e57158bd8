-- `word_blocks::fill::whole_words` meets its contract. The loop's invariant: the word repeated i times is stored so far.
use mathlib.Core.Path.{◌≡◌, ap, sym, ◌∙◌}
use mathlib.Core.List.{List}
use Prim.Native.Nat.{ℕ, ◌+◌, ◌*◌, ◌≤◌}
use native.Mathlib.Omega.{arith}
use lib.ListN.{length}
use Rattle.words.specs.Bytes.{little_endian}
use Rattle.words.proofs.StdLaws.{to-le-4}
use Rattle.word_blocks.specs.Repeat.{repeated}
use Rattle.word_blocks.proofs.RepeatLaws.{repeated-more, length-repeated}
use Rattle.words.specs.Store.{store}
use Rattle.words.proofs.StoreLaws.{store-adjoining, store-nil, store-part}
use Rattle.word_blocks.proofs.fill.whole_words.Goals as goal

-- one more word behind i words
one_more : (m₀ m : List ℕ) (i w : ℕ) → i * 4 + 4 ≤ length m₀ → m ≡ store m₀ 0 (repeated i w)
    → store m (i * 4) (little_endian 4 w) ≡ store m₀ 0 (repeated (i + 1) w)
one_more m₀ m i w h e =
    let d = length-repeated i w in
    let k : i * 4 ≡ 0 + length (repeated i w) = omega arith in
    rw (repeated-more i w, e, k) (store-adjoining m₀ 0 (repeated i w) (omega arith) (little_endian 4 w))

pub loop-i-init : goal.loop-i-init
unfolding repeated
loop-i-init c = sym (store-nil c.args.part.now 0)

pub loop-i-preserved : goal.loop-i-preserved
loop-i-preserved c = let x = c.args in
    let l = c.loop-i in
    let w = c.copy_from_slice in
    let b = w.ensures.after ∙ c.to_le_bytes-bytes.ensures ∙ to-le-4 x.word in
    store-part l.part (l.i * 4) (l.i * 4 + 4) w.new.self (omega arith) (omega arith) w.auto.self
    ∙ ap (store l.part (l.i * 4)) b
    ∙ one_more x.part.now l.part l.i x.word (omega arith) l.invariant
