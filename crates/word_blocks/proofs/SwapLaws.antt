-- Laws of swapped words.
use Rattle.std.specs.Prelude.{◌≡◌, List, [], ◌∷◌, ◌++◌, length, take, drop}
use Rattle.std.proofs.Math.Path.{refl}
use Rattle.std.proofs.Common.{sym, ◌∙◌, ap, arith, length-drop, take-append-drop, length-take-le, take-add}
use Prim.Native.Nat.{ℕ, zero, suc, ◌+◌, ◌*◌, ◌/◌, ◌%◌, ◌≤◌, ◌<◌}
use Rattle.words.proofs.ChoiceLaws.{all-reverse}
use Rattle.words.specs.Bytes.{little_endian, big_endian, from_big_endian, first_bytes, big_endian_at, Bytes}
use Rattle.words.proofs.BytesLaws.{length-little_endian, little_endian-from, word_bytes}
use Rattle.word_blocks.specs.Repeat.{repeated, filling}
use Rattle.word_blocks.proofs.RepeatLaws.{filling-whole}
use Rattle.words.specs.Store.{store}
use Rattle.words.proofs.StoreLaws.{store-adjoining}
use Rattle.word_blocks.specs.Swap.{swap_words}

pub swap-swap : (s : List ℕ) → swap_words (swap_words s) ≡ s
unfolding swap_words
swap-swap (a ∷ b ∷ c ∷ d ∷ s) = rw (swap-swap s)
swap-swap [] = refl
swap-swap (a ∷ []) = refl
swap-swap (a ∷ b ∷ []) = refl
swap-swap (a ∷ b ∷ c ∷ []) = refl

pub length-swap : (s : List ℕ) → length (swap_words s) ≡ length s
unfolding swap_words
length-swap (a ∷ b ∷ c ∷ d ∷ s) = rw (length-swap s)
length-swap [] = refl
length-swap (a ∷ []) = refl
length-swap (a ∷ b ∷ []) = refl
length-swap (a ∷ b ∷ c ∷ []) = refl

-- whole words, then more bytes
pub swap-append : (k : ℕ) (s t : List ℕ) → length s ≡ 4 * k → swap_words (s ++ t) ≡ swap_words s ++ swap_words t
unfolding swap_words
swap-append zero [] t e = refl
swap-append zero (a ∷ s) t e = absurd (omega arith)
swap-append (suc k) [] t e = refl
swap-append (suc k) (a ∷ []) t e = absurd (omega arith)
swap-append (suc k) (a ∷ b ∷ []) t e = absurd (omega arith)
swap-append (suc k) (a ∷ b ∷ c ∷ []) t e = absurd (omega arith)
swap-append (suc k) (a ∷ b ∷ c ∷ d ∷ s) t e = rw (swap-append k s t (omega arith))

-- a Big Endian word becomes the same word, Little Endian
pub swap-word : (a b c d : ℕ) → Bytes (a ∷ b ∷ c ∷ d ∷ []) → swap_words (a ∷ b ∷ c ∷ d ∷ []) ≡ little_endian 4 (from_big_endian (a ∷ b ∷ c ∷ d ∷ []))
unfolding swap_words from_big_endian
swap-word a b c d h = sym (little_endian-from (d ∷ c ∷ b ∷ a ∷ []) (all-reverse (λ (x : ℕ). x < 256) (a ∷ b ∷ c ∷ d ∷ []) h))

-- the same, of a list of four bytes read as a number
pub swap-number : (s : List ℕ) → length s ≡ 4 → Bytes s → little_endian 4 (big_endian_at 4 s 0) ≡ swap_words s
unfolding big_endian_at first_bytes
swap-number (a ∷ b ∷ c ∷ d ∷ []) e h = sym (swap-word a b c d h)
swap-number [] e h = absurd (omega arith)
swap-number (a ∷ []) e h = absurd (omega arith)
swap-number (a ∷ b ∷ []) e h = absurd (omega arith)
swap-number (a ∷ b ∷ c ∷ []) e h = absurd (omega arith)
swap-number (a ∷ b ∷ c ∷ d ∷ x ∷ s) e h = absurd (omega arith)

-- a Little Endian word becomes the same word, Big Endian
pub swap-little : (w : ℕ) → swap_words (little_endian 4 w) ≡ big_endian 4 w
unfolding swap_words big_endian
swap-little w = simp word_bytes

-- a word repeated becomes the word whose bytes are the other way round, repeated
module _ (w r : ℕ) (e : little_endian 4 r ≡ big_endian 4 w) where
  swap-repeated : (k : ℕ) → swap_words (repeated k w) ≡ repeated k r
  unfolding swap_words repeated
  swap-repeated zero = refl
  swap-repeated (suc k) =
      rw (swap-append 1 (little_endian 4 w) (repeated k w) (length-little_endian 4 w), swap-little w, swap-repeated k, e)

  pub swap-filling : (n : ℕ) → n % 4 ≡ 0 → swap_words (filling n w) ≡ filling n r
  swap-filling n h = rw (filling-whole n w h, filling-whole n r h) (swap-repeated (n / 4))

-- k more bytes stored behind p bytes that are whole words
pub swap-more : (m s : List ℕ) (p k : ℕ) → p % 4 ≡ 0 → p ≤ length s → p ≤ length m
    → store (store m 0 (swap_words (take p s))) p (swap_words (take k (drop p s))) ≡ store m 0 (swap_words (take (p + k) s))
swap-more m s p k h x y =
    let t : length (take p s) ≡ p = length-take-le p s x in
    let l : 0 + length (swap_words (take p s)) ≡ p = omega (arith, length-swap (take p s)) in
    rw
    (take-add p k s, swap-append (p / 4) (take p s) (take k (drop p s)) (omega arith))
    (rw l at (store-adjoining m 0 (swap_words (take p s)) (omega arith) (swap_words (take k (drop p s)))))

-- fewer bytes than a word
pub swap-short : (s : List ℕ) → length s < 4 → swap_words s ≡ s
unfolding swap_words
swap-short [] h = refl
swap-short (a ∷ []) h = refl
swap-short (a ∷ b ∷ []) h = refl
swap-short (a ∷ b ∷ c ∷ []) h = refl
swap-short (a ∷ b ∷ c ∷ d ∷ s) h = absurd (omega arith)

-- the whole words, then the bytes behind them
pub swap-whole-words : (s : List ℕ) → let k = length s / 4 * 4 in swap_words s ≡ swap_words (take k s) ++ drop k s
swap-whole-words s =
    let k = length s / 4 * 4 in
    let t : length (take k s) ≡ 4 * (length s / 4) = length-take-le k s (omega arith) ∙ omega arith in
    ap swap_words (sym (take-append-drop k s))
    ∙ swap-append (length s / 4) (take k s) (drop k s) t
    ∙ ap (λ (l : List ℕ). swap_words (take k s) ++ l) (swap-short (drop k s) (omega (arith, length-drop k s)))
