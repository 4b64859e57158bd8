-- Laws of numbers as bytes, over the width.
use Rattle.std.specs.Prelude.{◌≡◌, refl, true, List, [], ◌∷◌, ◌++◌, reverse, ℕ, zero, suc, ◌+◌, ◌*◌, ◌-◌, ◌/◌, ◌%◌, ◌^◌, ◌≤◌, ◌<◌, ltb, length, take, drop, get_or}
use Rattle.std.proofs.Math.Path.{ap}
use Rattle.std.proofs.Common.{sym, ◌∙◌, add-zero, pow-suc, arith, length-append, length-drop, drop_of_length-le, drop-drop, get_or-drop, take_all, take_at, ltb-true}
use Rattle.std.proofs.lemmas.List.{reverse-reverse, length-reverse}
use Rattle.std.proofs.Math.Nat.{one-le-pow, div-div-eq-div-mul}
use Rattle.std.proofs.Math.Arith.{mod-mul}
use Rattle.std.proofs.Math.Seq.{drop-append-add}
use Rattle.words.specs.Choice.{every}
use Rattle.words.proofs.ChoiceLaws.{every-all, all_map, all_drop, all-reverse}
use Rattle.words.specs.Bytes.{little_endian, big_endian, from_little_endian, from_big_endian, first_bytes, little_endian_at, big_endian_at, Bytes}

-- ---- a list of bytes, by computing
pub all-bytes : (s : List ℕ) → every (λ b. ltb b 256) s ≡ true → Bytes s
all-bytes s e = all_map _ _ s (λ x. ltb-true x 256) (every-all (λ b. ltb b 256) s e)

-- ---- widths
pub length-little_endian : (k n : ℕ) → length (little_endian k n) ≡ k
unfolding little_endian
length-little_endian zero n = refl
length-little_endian (suc k) n = ap suc (length-little_endian k (n / 256))

-- the lowest bytes of more
pub take-little_endian : (j k n : ℕ) → j ≤ k → take j (little_endian k n) ≡ little_endian j n
unfolding little_endian
take-little_endian zero k n h = refl
take-little_endian (suc j) zero n h = absurd (omega arith)
take-little_endian (suc j) (suc k) n h = ap (λ (l : List ℕ). n % 256 ∷ l) (take-little_endian j k (n / 256) (omega arith))

pub length-big_endian : (k n : ℕ) → length (big_endian k n) ≡ k
unfolding big_endian
length-big_endian k n = length-reverse (little_endian k n) ∙ length-little_endian k n

pub length-first_bytes : (k : ℕ) (s : List ℕ) → length (first_bytes k s) ≡ k
unfolding first_bytes
length-first_bytes zero s = refl
length-first_bytes (suc k) [] = ap suc (length-first_bytes k [])
length-first_bytes (suc k) (b ∷ s) = ap suc (length-first_bytes k s)

-- ---- a number and its bytes are inverse
pub bytes-of : (k n : ℕ) → Bytes (little_endian k n)
unfolding little_endian
bytes-of zero n = tt
bytes-of (suc k) n = (omega arith, bytes-of k (n / 256))

quotient-below : (k n : ℕ) → n < 256 ^ suc k → n / 256 < 256 ^ k
quotient-below k n h = let e : 256 ^ suc k ≡ 256 ^ k * 256 = pow-suc 256 k in omega arith

pub from-little_endian : (k n : ℕ) → n < 256 ^ k → from_little_endian (little_endian k n) ≡ n
unfolding little_endian from_little_endian
from-little_endian zero n h = omega arith
from-little_endian (suc k) n h = let e = from-little_endian k (n / 256) (quotient-below k n h) in omega arith

-- of a number the bytes are those of its remainder
pub little_endian-modulo : (k n : ℕ) → little_endian k (n % 256 ^ k) ≡ little_endian k n
unfolding little_endian
little_endian-modulo zero n = refl
little_endian-modulo (suc k) n =
    let m = 256 ^ k in
    let e : n % 256 ^ suc k ≡ n / 256 % m * 256 + n % 256 = ap (λ (j : ℕ). n % j) (pow-suc 256 k) ∙ mod-mul n (one-le-pow k 256 (omega arith)) (omega arith) in
    let x : (n / 256 % m * 256 + n % 256) % 256 ≡ n % 256 = omega arith in
    let y : (n / 256 % m * 256 + n % 256) / 256 ≡ n / 256 % m = omega arith in
    rw (e, x, y, little_endian-modulo k (n / 256))

pub little_endian-from : (bs : List ℕ) → Bytes bs → little_endian (length bs) (from_little_endian bs) ≡ bs
unfolding little_endian from_little_endian
little_endian-from [] h = refl
little_endian-from (b ∷ bs) h =
    let x : (b + 256 * from_little_endian bs) % 256 ≡ b = omega arith in
    let y : (b + 256 * from_little_endian bs) / 256 ≡ from_little_endian bs = omega arith in
    rw (x, y, little_endian-from bs h.1)

pub from-below : (bs : List ℕ) → Bytes bs → from_little_endian bs < 256 ^ length bs
unfolding from_little_endian
from-below [] h = omega arith
from-below (b ∷ bs) h =
    let e : 256 ^ suc (length bs) ≡ 256 ^ length bs * 256 = pow-suc 256 (length bs) in
    let i = from-below bs h.1 in
    omega arith

pub from-big_endian : (k n : ℕ) → n < 256 ^ k → from_big_endian (big_endian k n) ≡ n
unfolding big_endian from_big_endian
from-big_endian k n h = rw (reverse-reverse (little_endian k n)) (from-little_endian k n h)

pub big_endian-from : (bs : List ℕ) → Bytes bs → big_endian (length bs) (from_big_endian bs) ≡ bs
unfolding big_endian from_big_endian
big_endian-from bs h =
    rw (← length-reverse bs, little_endian-from (reverse bs) (all-reverse _ bs h)) (reverse-reverse bs)

-- the number whose bytes are those of another the other way round
pub little_endian-turned : (k n : ℕ) → little_endian k (from_little_endian (big_endian k n)) ≡ big_endian k n
unfolding big_endian
little_endian-turned k n =
    rw (length-big_endian k n) at (little_endian-from (big_endian k n) (all-reverse _ (little_endian k n) (bytes-of k n)))

-- ---- the bytes of a halfword and of a word
pub halfword-bytes : (n : ℕ) → little_endian 2 n ≡ n % 256 ∷ n / 256 % 256 ∷ []
unfolding little_endian
halfword-bytes n = refl

pub word_bytes : (n : ℕ) → little_endian 4 n ≡ n % 256 ∷ n / 256 % 256 ∷ n / 65536 % 256 ∷ n / 16777216 % 256 ∷ []
unfolding little_endian
word_bytes n =
    let a : n / 256 / 256 ≡ n / 65536 = div-div-eq-div-mul n 256 256 in
    let b : n / 65536 / 256 ≡ n / 16777216 = div-div-eq-div-mul n 65536 256 in
    simp (a, b)

-- ---- the first bytes of a list
pub first-take : (k : ℕ) (s : List ℕ) → k ≤ length s → first_bytes k s ≡ take k s
unfolding first_bytes
first-take zero s h = refl
first-take (suc k) [] h = absurd (omega arith)
first-take (suc k) (b ∷ s) h = ap (λ (l : List ℕ). b ∷ l) (first-take k s (omega arith))

pub first_one : (k : ℕ) (s : List ℕ) → first_bytes (suc k) s ≡ get_or s 0 0 ∷ first_bytes k (drop 1 s)
unfolding first_bytes
first_one k [] = refl
first_one k (b ∷ s) = refl

pub first_two : (s : List ℕ) → first_bytes 2 s ≡ get_or s 0 0 ∷ get_or s 1 0 ∷ []
unfolding first_bytes
first_two s = rw (first_one 1 s, first_one 0 (drop 1 s), get_or-drop 1 s 0 0)

pub first-four : (s : List ℕ) → first_bytes 4 s ≡ get_or s 0 0 ∷ get_or s 1 0 ∷ get_or s 2 0 ∷ get_or s 3 0 ∷ []
unfolding first_bytes
first-four s =
    rw
    (first_one 3 s, first_one 2 (drop 1 s), drop-drop 1 1 s, first_one 1 (drop 2 s), drop-drop 1 2 s, first_one 0 (drop 3 s), get_or-drop 1 s 0 0, get_or-drop 2 s 0 0, get_or-drop 3 s 0 0)

-- at a place
pub first-four-at : (p : ℕ) (s : List ℕ) → first_bytes 4 (drop p s) ≡ get_or s p 0 ∷ get_or s (p + 1) 0 ∷ get_or s (p + 2) 0 ∷ get_or s (p + 3) 0 ∷ []
first-four-at p s = rw (first-four (drop p s), get_or-drop p s 0 0, get_or-drop p s 1 0, get_or-drop p s 2 0, get_or-drop p s 3 0, add-zero p)

pub first-bytes : (k : ℕ) (s : List ℕ) → Bytes s → Bytes (first_bytes k s)
unfolding first_bytes
first-bytes zero s h = tt
first-bytes (suc k) [] h = (omega arith, first-bytes k [] tt)
first-bytes (suc k) (b ∷ s) h = (h.0, first-bytes k s h.1)

pub first-of-take : (k n : ℕ) (s : List ℕ) → k ≤ n → first_bytes k (take n s) ≡ first_bytes k s
unfolding first_bytes
first-of-take zero n s h = refl
first-of-take (suc k) zero s h = absurd (omega arith)
first-of-take (suc k) (suc n) [] h = refl
first-of-take (suc k) (suc n) (b ∷ s) h = ap (λ (l : List ℕ). b ∷ l) (first-of-take k n s (omega arith))

-- ---- the number at a place
pub little-at-below : (k p : ℕ) (s : List ℕ) → Bytes s → little_endian_at k s p < 256 ^ k
unfolding little_endian_at
little-at-below k p s h =
    rw (length-first_bytes k (drop p s)) at (from-below (first_bytes k (drop p s)) (first-bytes k (drop p s) (all_drop _ p s h)))

-- of a part of n bytes that begins at a
module _ (k a n : ℕ) (s : List ℕ) (h : k ≤ n) where
  pub little-at-part : little_endian_at k (take n (drop a s)) 0 ≡ little_endian_at k s a
  unfolding little_endian_at
  little-at-part = ap from_little_endian (first-of-take k n (drop a s) h)

  pub big-at-part : big_endian_at k (take n (drop a s)) 0 ≡ big_endian_at k s a
  unfolding big_endian_at
  big-at-part = ap from_big_endian (first-of-take k n (drop a s) h)

-- of all that stands from a on, which may be fewer than k bytes
pub little-at-rest : (k a : ℕ) (s : List ℕ) → little_endian_at k (take (length s - a) (drop a s)) 0 ≡ little_endian_at k s a
unfolding little_endian_at
little-at-rest k a s = rw (take_all (length s - a) (drop a s) (omega (arith, length-drop a s)))

-- past the end
pub little-at-past : (k a : ℕ) (s : List ℕ) → length s ≤ a → little_endian_at k s a ≡ 0
unfolding little_endian_at from_little_endian first_bytes
little-at-past k a s h = rw (drop_of_length-le s h) (zeros k)
  where
    zeros : (k : ℕ) → from_little_endian (first_bytes k []) ≡ 0
    zeros zero = refl
    zeros (suc k) = rw (zeros k)

-- of a part that begins at a
module _ (k a p : ℕ) (s : List ℕ) where
  pub little-at-drop : little_endian_at k (drop a s) p ≡ little_endian_at k s (a + p)
  unfolding little_endian_at
  little-at-drop = rw (drop-drop p a s)

  pub big-at-drop : big_endian_at k (drop a s) p ≡ big_endian_at k s (a + p)
  unfolding big_endian_at
  big-at-drop = rw (drop-drop p a s)

-- of what stands behind a list
module _ (k p : ℕ) (x s : List ℕ) where
  pub little-at-behind : little_endian_at k (x ++ s) (length x + p) ≡ little_endian_at k s p
  unfolding little_endian_at
  little-at-behind = rw (drop-append-add x s p)

  pub big-at-behind : big_endian_at k (x ++ s) (length x + p) ≡ big_endian_at k s p
  unfolding big_endian_at
  big-at-behind = rw (drop-append-add x s p)

-- of two lists that have the same k elements at their places
module _ (k p q : ℕ) (s t : List ℕ) (x : p + k ≤ length s) (y : q + k ≤ length t) (e : take k (drop p s) ≡ take k (drop q t)) where
  same_first : first_bytes k (drop p s) ≡ first_bytes k (drop q t)
  same_first =
      first-take k (drop p s) (omega (arith, length-drop p s)) ∙ e ∙ sym (first-take k (drop q t) (omega (arith, length-drop q t)))

  pub little-at-same : little_endian_at k s p ≡ little_endian_at k t q
  unfolding little_endian_at
  little-at-same = ap from_little_endian same_first

  pub big-at-same : big_endian_at k s p ≡ big_endian_at k t q
  unfolding big_endian_at
  big-at-same = ap from_big_endian same_first

-- of the bytes of a number, with more behind them
module _ (k n : ℕ) (s : List ℕ) (h : n < 256 ^ k) where
  first_of : (d : List ℕ) → length d ≡ k → first_bytes k (d ++ s) ≡ d
  first_of d e = first-take k (d ++ s) (omega (arith, length-append d s)) ∙ take_at d s k e

  pub little-at-front : little_endian_at k (little_endian k n ++ s) 0 ≡ n
  unfolding little_endian_at
  little-at-front = rw (first_of (little_endian k n) (length-little_endian k n)) (from-little_endian k n h)

  pub big-at-front : big_endian_at k (big_endian k n ++ s) 0 ≡ n
  unfolding big_endian_at
  big-at-front = rw (first_of (big_endian k n) (length-big_endian k n)) (from-big_endian k n h)

-- ---- worked examples
pub record Examples : Type 0 where
  pub little : little_endian 4 0x01020304 ≡ 4 ∷ 3 ∷ 2 ∷ 1 ∷ []
  pub big : big_endian 4 0x01020304 ≡ 1 ∷ 2 ∷ 3 ∷ 4 ∷ []
  pub half : big_endian 2 0x0102 ≡ 1 ∷ 2 ∷ []
  pub turned : from_little_endian (big_endian 4 0x01020304) ≡ 0x04030201
  pub little-at : little_endian_at 4 (9 ∷ 4 ∷ 3 ∷ 2 ∷ 1 ∷ []) 1 ≡ 0x01020304
  pub big-at : big_endian_at 4 (9 ∷ 1 ∷ 2 ∷ 3 ∷ 4 ∷ []) 1 ≡ 0x01020304
  pub cut : big_endian_at 2 (9 ∷ 1 ∷ []) 1 ≡ 0x0100

pub examples : Examples
unfolding little_endian big_endian from_little_endian from_big_endian first_bytes little_endian_at big_endian_at
examples = record { little = refl; big = refl; half = refl; turned = refl; little-at = refl; big-at = refl; cut = refl }
