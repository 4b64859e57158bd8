-- Laws of four words.
use Rattle.std.specs.Prelude.{◌≡◌, ℕ, ◌+◌, ◌-◌, ◌^◌, ◌≤◌, ◌<◌, length, take, drop, replicate}
use Rattle.std.proofs.Common.{ap, sym, ◌∙◌, add-zero, arith, length-append, length-drop, take_all}
use mathlib.Core.List.{List, [], ◌++◌, append_assoc}
use Rattle.std.proofs.lemmas.List.{length-replicate}
use Rattle.words.proofs.ChoiceLaws.{all_append}
use Rattle.words.specs.Bytes.{little_endian, first_bytes, little_endian_at, Bytes}
use Rattle.words.proofs.BytesLaws.{length-little_endian, bytes-of, little-at-past, little-at-drop, little-at-behind, little-at-front}
use Rattle.words.proofs.BytesPadded.{little-at-padded}
use Rattle.words.specs.Store.{store, store_if_fits}
use Rattle.words.proofs.StoreLaws.{store-fits, store-behind}
use Rattle.words.specs.Four.{four_at, four_bytes}

pub length-four_bytes : (a b c d : ℕ) → length (four_bytes a b c d) ≡ 16
unfolding four_bytes
length-four_bytes a b c d = simp (length-append, length-little_endian)

pub bytes-of-four : (a b c d : ℕ) → Bytes (four_bytes a b c d)
unfolding four_bytes
bytes-of-four a b c d =
    all_append _ (little_endian 4 a) _ (bytes-of 4 a)
    (all_append _ (little_endian 4 b) _ (bytes-of 4 b) (all_append _ (little_endian 4 c) _ (bytes-of 4 c) (bytes-of 4 d)))

-- where they fit
pub four-fits : (m : List ℕ) (p a b c d : ℕ) → p + 16 ≤ length m → store_if_fits m p (four_bytes a b c d) ≡ store m p (four_bytes a b c d)
four-fits m p a b c d h = store-fits m p (four_bytes a b c d) (omega (arith, length-four_bytes a b c d))

-- one word put behind the other
pub four-put : (m : List ℕ) (p a b c d : ℕ) (r s t u : List ℕ) → p + 16 ≤ length m
    → r ≡ store_if_fits m p (little_endian 4 a) → s ≡ store_if_fits r (p + 4) (little_endian 4 b)
    → t ≡ store_if_fits s (p + 8) (little_endian 4 c) → u ≡ store_if_fits t (p + 12) (little_endian 4 d) → u ≡ store m p (four_bytes a b c d)
unfolding four_bytes
four-put m p a b c d r s t u h e f g k =
    let w = little_endian 4 a in
    let x = little_endian 4 b in
    let y = little_endian 4 c in
    let n : length w ≡ 4 = length-little_endian 4 a in
    let o : length x ≡ 4 = length-little_endian 4 b in
    let q : length y ≡ 4 = length-little_endian 4 c in
    let i : length (w ++ x) ≡ 8 = length-append w x ∙ omega arith in
    let j : length ((w ++ x) ++ y) ≡ 12 = length-append (w ++ x) y ∙ omega arith in
    let one = e ∙ store-fits m p w (omega arith) in
    let two = store-behind m p w x (p + 4) r s (omega arith) (omega arith) one f in
    let three = store-behind m p (w ++ x) y (p + 8) s t (omega arith) (omega arith) two g in
    store-behind m p ((w ++ x) ++ y) (little_endian 4 d) (p + 12) t u (omega arith) (omega (arith, length-little_endian 4 d)) three k ∙ simp append_assoc

-- their bytes behind x, read
module _ (x : List ℕ) (a b c d : ℕ) (s : List ℕ) (ha : a < 256 ^ 4) (hb : b < 256 ^ 4) (hc : c < 256 ^ 4) (hd : d < 256 ^ 4) where
  pub four-at-behind : four_at (x ++ (four_bytes a b c d ++ s)) (length x) ≡ record { first = a; second = b; third = c; fourth = d }
  unfolding four_bytes little_endian little_endian_at first_bytes
  four-at-behind =
      let w : (j : ℕ) → little_endian_at 4 (x ++ (four_bytes a b c d ++ s)) (length x + j) ≡ little_endian_at 4 (four_bytes a b c d ++ s) j = λ j. little-at-behind 4 j x (four_bytes a b c d ++ s) in
      let p = rw (add-zero (length x)) at (w 0) ∙ little-at-front 4 a [] ha in
      let q = w 4 ∙ little-at-front 4 b [] hb in
      let r = w 8 ∙ little-at-front 4 c [] hc in
      let t = w 12 ∙ little-at-front 4 d [] hd in
      λ i. record { first = p i; second = q i; third = r i; fourth = t i }

-- the four words at place p, from it on
four-drop : (p : ℕ) (s : List ℕ) → four_at (drop p s) 0 ≡ four_at s p
four-drop p s = simp (little-at-drop 4 p 0 s, add-zero, little-at-drop 4 p 4 s, little-at-drop 4 p 8 s, little-at-drop 4 p 12 s)

-- of all that stands there
pub four-at-rest : (p : ℕ) (s : List ℕ) → four_at (take (length s - p) (drop p s)) 0 ≡ four_at s p
four-at-rest p s = rw (take_all (length s - p) (drop p s) (omega (arith, length-drop p s))) (four-drop p s)

-- where their bytes stand there
pub four-here : (s : List ℕ) (p a b c d : ℕ) (rest : List ℕ) → drop p s ≡ four_bytes a b c d ++ rest
    → a < 4294967296 → b < 4294967296 → c < 4294967296 → d < 4294967296 → four_at s p ≡ record { first = a; second = b; third = c; fourth = d }
four-here s p a b c d rest e ha hb hc hd =
    sym (four-drop p s) ∙ ap (λ (t : List ℕ). four_at t 0) e ∙ four-at-behind [] a b c d rest ha hb hc hd

-- past the end
pub four-past : (p : ℕ) (s : List ℕ) → length s ≤ p → four_at s p ≡ record { first = 0; second = 0; third = 0; fourth = 0 }
four-past p s h =
    simp (little-at-past 4 p s h, little-at-past 4 (p + 4) s (omega arith), little-at-past 4 (p + 8) s (omega arith), little-at-past 4 (p + 12) s (omega arith))

-- at the front of n zeros
pub four-padded : (n : ℕ) (s r : List ℕ) → length s ≤ n → r ≡ store_if_fits (replicate n 0) 0 s → four_at r 0 ≡ four_at s 0
unfolding store
four-padded n s r h e =
    let z : r ≡ s ++ drop (0 + length s) (replicate n 0) = e ∙ store-fits (replicate n 0) 0 s (omega (arith, length-replicate {A = ℕ} n 0)) in
    rw z (simp (at 0, at 4, at 8, at 12))
  where
    at : (i : ℕ) → little_endian_at 4 (s ++ drop (0 + length s) (replicate n 0)) i ≡ little_endian_at 4 s i
    at i = little-at-padded 4 i (0 + length s) n s
