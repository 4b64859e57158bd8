-- Laws of the copy rule.
use Rattle.std.specs.Prelude.{◌≡◌, refl, List, ◌++◌, length, take, drop, replicate}
use Rattle.std.proofs.Common.{ap, sym, ◌∙◌, zero-add, add-zero, length-drop, length-take-le, take-add, drop-drop}
use Prim.Native.Nat.{ℕ, zero, suc, ◌+◌, ◌-◌, ◌*◌, ◌/◌, ◌%◌, ◌≤◌, ◌<◌}
use native.Mathlib.Omega.{arith}
use borrow.Author.Tests.{le-leb}
use Rattle.words.proofs.RangeLaws.{Apart, before, behind, apart-part}
use Rattle.words.specs.Store.{store, store_if_fits}
use Rattle.words.proofs.StoreLaws.{length-store, part-outside, store-adjoining, store-nil, store-fits, store-whole}
use Rattle.aplx_copy.specs.Copy.{copy_words, copied, copied_if_fits, Ahead, down, clear}

-- ---- k words, i of them copied
module _ (k i d s : ℕ) (m : List ℕ) where
  -- the next one
  pub copy-next : i < k
      → copy_words (k - i) (d + 4 * i) (s + 4 * i) m
      ≡ copy_words (k - (i + 1)) (d + 4 * (i + 1)) (s + 4 * (i + 1)) (store m (d + 4 * i) (take 4 (drop (s + 4 * i) m)))
  unfolding copy_words
  copy-next h =
      let z : k - i ≡ suc (k - (i + 1)) = omega arith in
      let x : d + 4 * (i + 1) ≡ d + 4 * i + 4 = omega arith in
      let y : s + 4 * (i + 1) ≡ s + 4 * i + 4 = omega arith in
      rw (z, x, y)

  -- all of them
  pub copy-end : k ≤ i → copy_words (k - i) (d + 4 * i) (s + 4 * i) m ≡ m
  unfolding copy_words
  copy-end h = let z : k - i ≡ 0 = omega arith in rw z

-- ---- the first of k + 1 words
module _ (k d s : ℕ) (m : List ℕ) (x : d + 4 * suc k ≤ length m) (y : s + 4 * suc k ≤ length m) where
  length-word : length (take 4 (drop s m)) ≡ 4
  length-word = length-take-le 4 (drop s m) (omega (arith, length-drop s m))

  word_fits : d + length (take 4 (drop s m)) ≤ length m
  word_fits = omega (arith, length-word)

  length-first : length (store m d (take 4 (drop s m))) ≡ length m
  length-first = length-store m d (take 4 (drop s m)) word_fits

  first-outside : (q j : ℕ) → Apart q j d (4 * suc k) → take j (drop q (store m d (take 4 (drop s m)))) ≡ take j (drop q m)
  first-outside q j a =
      part-outside m d (take 4 (drop s m)) word_fits q j (apart-part q j d (length (take 4 (drop s m))) a (omega arith) (omega arith) (omega arith) (omega (arith, length-word)))

  first-and-rest : take (4 * suc k) (drop s m) ≡ take 4 (drop s m) ++ take (4 * k) (drop (s + 4) m)
  first-and-rest = let z : 4 * suc k ≡ 4 + 4 * k = omega arith in rw (z, take-add 4 (4 * k) (drop s m), drop-drop)

-- ---- k words
length-words : (k d s : ℕ) (m : List ℕ) → d + 4 * k ≤ length m → s + 4 * k ≤ length m → length (copy_words k d s m) ≡ length m
unfolding copy_words
length-words zero d s m x y = refl
length-words (suc k) d s m x y =
    let l = length-first k d s m x y in
    length-words k (d + 4) (s + 4) (store m d (take 4 (drop s m))) (omega arith) (omega arith) ∙ l

words-outside : (k d s : ℕ) (m : List ℕ) → d + 4 * k ≤ length m → s + 4 * k ≤ length m → (q j : ℕ) → Apart q j d (4 * k)
    → take j (drop q (copy_words k d s m)) ≡ take j (drop q m)
unfolding copy_words
words-outside zero d s m x y q j a = refl
words-outside (suc k) d s m x y q j a =
    let l = length-first k d s m x y in
    words-outside k (d + 4) (s + 4) (store m d (take 4 (drop s m))) (omega arith) (omega arith) q j (apart-part q j (d + 4) (4 * k) a (omega arith) (omega arith) (omega arith) (omega arith))
    ∙ first-outside k d s m x y q j a

-- of k + 1 words, those behind the first are as they were, and are read in time
ahead-rest : (k : ℕ) {s d : ℕ} → Ahead s d (4 * suc k) → Apart (s + 4) (4 * k) d 4 × Ahead (s + 4) (d + 4) (4 * k)
ahead-rest k (down h) = (behind (omega arith), down (omega arith))
ahead-rest k (clear h) = (before (omega arith), clear (omega arith))

pub words-ahead : (k d s : ℕ) (m : List ℕ) → d + 4 * k ≤ length m → s + 4 * k ≤ length m → Ahead s d (4 * k)
    → copy_words k d s m ≡ store m d (take (4 * k) (drop s m))
unfolding copy_words
words-ahead zero d s m x y a = sym (store-nil m d)
words-ahead (suc k) d s m x y a =
    let w = take 4 (drop s m) in
    let l = length-first k d s m x y in
    let r = ahead-rest k a in
    let i = words-ahead k (d + 4) (s + 4) (store m d w) (omega arith) (omega arith) r.1 in
    let o = part-outside m d w (word_fits k d s m x y) (s + 4) (4 * k) (rw (length-word k d s m x y) r.0) in
    i ∙ ap (store (store m d w) (d + 4)) o
    ∙ rw (first-and-rest k d s m x y) (rw (length-word k d s m x y) at (store-adjoining m d w (word_fits k d s m x y) (take (4 * k) (drop (s + 4) m))))

-- k words, then j more
pub copy-split : (k j d s : ℕ) (m : List ℕ) → copy_words (k + j) d s m ≡ copy_words j (d + 4 * k) (s + 4 * k) (copy_words k d s m)
unfolding copy_words
copy-split zero j d s m = simp (zero-add, add-zero)
copy-split (suc k) j d s m =
    let z : suc k + j ≡ suc (k + j) = omega arith in
    let u : d + 4 * suc k ≡ d + 4 + 4 * k = omega arith in
    let v : s + 4 * suc k ≡ s + 4 + 4 * k = omega arith in
    rw (z, u, v) (copy-split k j (d + 4) (s + 4) (store m d (take 4 (drop s m))))

-- ---- groups of eight words
-- a group g that is read whole, and then stored
pub group-copied : (m g last d : List ℕ) (to from : ℕ) → to + 32 ≤ length m → from + 32 ≤ length m → d ≡ take 32 (drop from m)
    → g ≡ store_if_fits (replicate 32 0) 0 d → last ≡ store_if_fits m to g → last ≡ store m to (take 32 (drop from m))
group-copied m g last d to from x y e f h =
    let l : length d ≡ 32 = ap length e ∙ length-take-le 32 (drop from m) (omega (arith, length-drop from m)) in
    let k : g ≡ d = f ∙ store-fits (replicate 32 0) 0 d (omega arith) ∙ store-whole (replicate 32 0) d l in
    h ∙ ap (store_if_fits m to) (k ∙ e) ∙ store-fits m to (take 32 (drop from m)) (omega (arith, ap length e))

-- with i of k groups copied, the next
pub group-next : (k i d s : ℕ) (m : List ℕ) → i < k → d + 32 * k ≤ length m → s + 32 * k ≤ length m → Ahead s d 32
    → copy_words (8 * (k - i)) (d + 32 * i) (s + 32 * i) m
    ≡ copy_words (8 * (k - (i + 1))) (d + 32 * (i + 1)) (s + 32 * (i + 1)) (store m (d + 32 * i) (take 32 (drop (s + 32 * i) m)))
group-next k i d s m h x y a =
    let z : 8 * (k - i) ≡ 8 + 8 * (k - (i + 1)) = omega arith in
    let u : d + 32 * (i + 1) ≡ d + 32 * i + 4 * 8 = omega arith in
    let v : s + 32 * (i + 1) ≡ s + 32 * i + 4 * 8 = omega arith in
    rw (z, copy-split 8 (8 * (k - (i + 1))) (d + 32 * i) (s + 32 * i) m, words-ahead 8 (d + 32 * i) (s + 32 * i) m (omega arith) (omega arith) (moved a), u, v)
  where
    moved : Ahead s d 32 → Ahead (s + 32 * i) (d + 32 * i) 32
    moved (down h) = down (omega arith)
    moved (clear h) = clear (omega arith)

-- the groups of n bytes, then the words that are left
pub copied-groups : (n d s : ℕ) (m : List ℕ)
    → copied n d s m ≡ copied (n - n / 32 * 32) (d + n / 32 * 32) (s + n / 32 * 32) (copy_words (8 * (n / 32)) d s m)
unfolding copied
copied-groups n d s m =
    let z : n / 4 ≡ 8 * (n / 32) + (n - n / 32 * 32) / 4 = omega arith in
    let u : d + n / 32 * 32 ≡ d + 4 * (8 * (n / 32)) = omega arith in
    let v : s + n / 32 * 32 ≡ s + 4 * (8 * (n / 32)) = omega arith in
    rw (u, v) (ap (λ (k : ℕ). copy_words k d s m) z ∙ copy-split (8 * (n / 32)) ((n - n / 32 * 32) / 4) d s m)

apart-ahead : {s d n : ℕ} → Apart s n d n → Ahead s d n
apart-ahead (before h) = clear h
apart-ahead (behind h) = down (omega arith)

-- ---- n bytes
module _ (n d s : ℕ) (m : List ℕ) (x : d + n ≤ length m) (y : s + n ≤ length m) where
  pub copied-fits : copied_if_fits n d s m ≡ copied n d s m
  unfolding copied_if_fits
  copied-fits = simp (le-leb _ _ x, le-leb _ _ y)

  pub length-copied : length (copied n d s m) ≡ length m
  unfolding copied
  length-copied = length-words (n / 4) d s m (omega arith) (omega arith)

  -- bytes apart from the destination
  pub copied-outside : (q k : ℕ) → Apart q k d n → take k (drop q (copied n d s m)) ≡ take k (drop q m)
  unfolding copied
  copied-outside q k a =
      words-outside (n / 4) d s m (omega arith) (omega arith) q k (apart-part q k d (4 * (n / 4)) a (omega arith) (omega arith) (omega arith) (omega arith))

  -- ranges that are apart
  pub copied-apart : n % 4 ≡ 0 → Apart s n d n → copied n d s m ≡ store m d (take n (drop s m))
  unfolding copied
  copied-apart h a =
      let e : 4 * (n / 4) ≡ n = omega arith in
      rw e at (words-ahead (n / 4) d s m (omega arith) (omega arith) (rw e (apart-ahead a)))
