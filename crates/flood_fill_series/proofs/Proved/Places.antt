-- Where the blocks of an image stand.
use Rattle.std.specs.Prelude.{◌≡◌, refl, Bool, true, false, List, ◌++◌, leb, eqb, drop, if◌then◌else◌}
use Rattle.std.proofs.Math.Path.{ap}
use Rattle.std.proofs.Common.{◌∙◌, zero-mul, length-take, length-drop, take_all, length-take-le, le-leb, leb-true, leb-false, eq-eqb}
use Prim.Native.Nat.{ℕ, zero, suc, ◌+◌, ◌*◌, ◌≤◌, ◌<◌}
use Rattle.std.proofs.Math.Nat.{mul-le-mul_right}
use native.Mathlib.Omega.{arith}
use Rattle.std.proofs.Math.ListN.{length, take, length-append}
use Rattle.std.proofs.Math.Seq.{take-add}
use Rattle.std.proofs.lemmas.Bool.{eqb-false}
use Rattle.words.proofs.RangeLaws.{Apart, before, behind}
use Rattle.flood_fill.specs.Limits.{right_size}
use Rattle.flood_fill.specs.Receive.{word_bytes}
use Rattle.flood_fill.proofs.ReceiveLaws.{length_word_bytes, word_bytes-append}
use Rattle.flood_fill_series.specs.Claims.{Image, block_of}

-- an image of suc last blocks
pub record Blocks (i : Image) (last : ℕ) : Type 0 where
  pub size_low : 1 ≤ i.size
  pub size-high : i.size ≤ 256
  pub count-high : suc last ≤ 256
  pub low : last * i.size < length i.words
  pub high : length i.words ≤ suc last * i.size

-- the bytes of block b, and its place
abbrev pub bytes_of : Image → ℕ → List ℕ
bytes_of i b = word_bytes (block_of i b)

abbrev pub place_of : Image → ℕ → ℕ
place_of i b = 4 * (b * i.size)

-- the block stands there
abbrev pub Stands : Image → ℕ → List ℕ → Type 0
Stands i b image = take (length (bytes_of i b)) (drop (place_of i b) image) ≡ bytes_of i b

module _ (i : Image) (last : ℕ) (f : Blocks i last) where
  pub block-length : (b : ℕ) → length (block_of i b) ≤ i.size
  block-length b = omega (arith, length-take i.size (drop (b * i.size) i.words))

  -- every block but the last is full, and each has a word
  full : (b : ℕ) → b < last → length (block_of i b) ≡ i.size
  full b h =
      let m = mul-le-mul_right {m = suc b} {n = last} i.size h in
      length-take-le i.size (drop (b * i.size) i.words) (omega (arith, length-drop (b * i.size) i.words, f.low))

  not-empty : (b : ℕ) → b ≤ last → 1 ≤ length (block_of i b)
  not-empty b h =
      let m = mul-le-mul_right {m = b} {n = last} i.size h in
      omega (arith, length-take i.size (drop (b * i.size) i.words), length-drop (b * i.size) i.words, f.low, f.size_low)

  pub right-size : (b : ℕ) → b ≤ last → right_size (suc last) i.size b (length (block_of i b)) ≡ true
  right-size b h = rw (le-leb 1 (length (block_of i b)) (not-empty b h)) (go (eqb (suc b) (suc last)) refl)
    where
      go : (t : Bool) → eqb (suc b) (suc last) ≡ t → (if t then leb (length (block_of i b)) i.size else eqb (length (block_of i b)) i.size) ≡ true
      go true e = le-leb (length (block_of i b)) i.size (block-length b)
      go false e = let z = eqb-false (suc b) (suc last) e in eq-eqb (length (block_of i b)) i.size (full b (less (λ q. z (ap suc q))))
        where
          less : (b ≡ last → ⊥) → b < last
          less z = omega arith

  -- a block ends inside the image
  pub ends-in-image : (b : ℕ) → b ≤ last → place_of i b + length (bytes_of i b) ≤ length (word_bytes i.words)
  ends-in-image b h =
      let m = mul-le-mul_right {m = b} {n = last} i.size h in
      let l = length-take i.size (drop (b * i.size) i.words) in
      omega (arith, length_word_bytes (block_of i b), length_word_bytes i.words, length-drop (b * i.size) i.words, f.low)

  -- two blocks share no byte
  pub blocks-apart : (b c : ℕ) → (b ≡ c → ⊥) → Apart (place_of i b) (length (bytes_of i b)) (place_of i c) (length (bytes_of i c))
  blocks-apart b c ne = go (leb b c) refl
    where
      go : (t : Bool) → leb b c ≡ t → Apart (place_of i b) (length (bytes_of i b)) (place_of i c) (length (bytes_of i c))
      go true e =
          let h : suc b ≤ c = omega (arith, leb-true b c e) in
          let m = mul-le-mul_right {m = suc b} {n = c} i.size h in
          before (omega (arith, length_word_bytes (block_of i b), block-length b))
      go false e =
          let h : suc c ≤ b = leb-false b c e in
          let m = mul-le-mul_right {m = suc c} {n = b} i.size h in
          behind (omega (arith, length_word_bytes (block_of i c), block-length c))

  -- a list that has each block at its place has the whole image
  module _ (image : List ℕ) (right : (b : ℕ) → b ≤ last → Stands i b image) where
    up_to : (k : ℕ) → k ≤ suc last → take (length (word_bytes (take (k * i.size) i.words))) image ≡ word_bytes (take (k * i.size) i.words)
    unfolding word_bytes
    up_to zero h = rw (zero-mul i.size)
    up_to (suc k) h =
        let m = mul-le-mul_right {m = k} {n = last} i.size (omega arith) in
        let a = take (k * i.size) i.words in
        let z : suc k * i.size ≡ k * i.size + i.size = omega arith in
        let w : take (suc k * i.size) i.words ≡ a ++ block_of i k = rw z (take-add (k * i.size) i.size i.words) in
        let n : length (word_bytes a) ≡ place_of i k =
        length_word_bytes a ∙ ap (4 *◌) (length-take-le (k * i.size) i.words (omega (arith, f.low)))
        in
        rw (w, word_bytes-append, length-append, take-add, up_to k (omega arith), n, right k (omega arith))

    pub whole-image : take (length (word_bytes i.words)) image ≡ word_bytes i.words
    whole-image = rw (take_all (suc last * i.size) i.words f.high) at (up_to (suc last) (omega arith))
