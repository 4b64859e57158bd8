-- `word_blocks::fill::fill` meets its contract: the whole words and the bytes behind them are the word repeated, cut at the length.
use mathlib.Core.Path.{◌≡◌, ap, ◌∙◌}
use mathlib.Core.List.{List, ◌++◌}
use Prim.Native.Nat.{ℕ, ◌+◌, ◌*◌, ◌/◌, ◌%◌}
use native.Mathlib.Omega.{arith}
use lib.ListN.{length, length-append}
use borrow.Rule.Slice.PartMut.{mid_len}
use Rattle.words.specs.Bytes.{little_endian}
use Rattle.words.proofs.BytesLaws.{length-little_endian}
use Rattle.word_blocks.specs.Repeat.{repeated, filling}
use Rattle.word_blocks.proofs.RepeatLaws.{length-repeated, filling-split}
use Rattle.words.specs.Store.{store}
use Rattle.words.proofs.StoreLaws.{store-part, store-adjoining, store-whole}
use Rattle.word_blocks.proofs.fill.fill.Goals as goal

-- the bytes behind the whole words, stored behind them
both : (m s r : List ℕ) (w : ℕ) → s ≡ store m 0 (repeated (length m / 4) w) → r ≡ little_endian (length m % 4) w
    → store s (length m / 4 * 4) r ≡ filling (length m) w
both m s r w e f =
    let d = repeated (length m / 4) w in
    let b = little_endian (length m % 4) w in
    let x = length-repeated (length m / 4) w in
    let y = length-little_endian (length m % 4) w in
    let k : length m / 4 * 4 ≡ 0 + length d = omega arith in
    rw (filling-split (length m) w, e, f, k)
    (store-adjoining m 0 d (omega arith) b ∙ store-whole m (d ++ b) (omega (arith, length-append d b)))

pub returns : goal.returns
returns c = let w = c.whole_words in
    let b = c.low_bytes in
    let x = c.args in
    let m = x.part.now in
    let s = w.new.part in
    let k = length m / 4 * 4 in
    let n = mid_len k (length s) s (omega arith) in
    store-part s k (length s) b.new.part (omega arith) (omega arith) b.auto.part
    ∙ both m s b.new.part x.word w.ensures (b.ensures ∙ ap (λ (j : ℕ). little_endian j x.word) (omega arith))
