-- The library's words for bytes and for equal slices, and ours.
use Rattle.std.specs.Prelude.{◌≡◌, refl, List, [], ◌∷◌, ℕ, zero, suc, ◌≤◌, ◌&&◌, length, drop, replicate, nat_eq, eqb, ◌++◌}
use Rattle.std.specs.Int.{w16, w32, to_le_bytes, to_be_bytes, from_le_bytes, from_be_bytes, swap_bytes}
use Rattle.std.specs.Cmp.Lexicographic.{pointwise}
use Rattle.std.proofs.Common.{ap, sym, arith}
use Rattle.words.specs.Bytes.{little_endian, big_endian, from_little_endian, from_big_endian, first_bytes}
use Rattle.words.specs.Equal.{same}
use Rattle.words.proofs.BytesLaws.{halfword-bytes, word_bytes, first_two, first-four}

-- ---- a number's bytes
pub to-le-2 : (n : ℕ) → to_le_bytes w16 n ≡ little_endian 2 n
to-le-2 n = sym (halfword-bytes n)

pub to-le-4 : (n : ℕ) → to_le_bytes w32 n ≡ little_endian 4 n
to-le-4 n = sym (word_bytes n)

pub to-be-2 : (n : ℕ) → to_be_bytes w16 n ≡ big_endian 2 n
unfolding big_endian
to-be-2 n = rw halfword-bytes

pub to-be-4 : (n : ℕ) → to_be_bytes w32 n ≡ big_endian 4 n
unfolding big_endian
to-be-4 n = rw word_bytes

-- ---- the number of the first bytes
pub from-le-2 : (s : List ℕ) → from_le_bytes w16 (first_bytes 2 s) ≡ from_little_endian (first_bytes 2 s)
unfolding from_little_endian
from-le-2 s = rw first_two (omega arith)

pub from-le-4 : (s : List ℕ) → from_le_bytes w32 (first_bytes 4 s) ≡ from_little_endian (first_bytes 4 s)
unfolding from_little_endian
from-le-4 s = rw first-four (omega arith)

pub from-be-2 : (s : List ℕ) → from_be_bytes w16 (first_bytes 2 s) ≡ from_big_endian (first_bytes 2 s)
unfolding from_little_endian from_big_endian
from-be-2 s = rw first_two (omega arith)

pub from-be-4 : (s : List ℕ) → from_be_bytes w32 (first_bytes 4 s) ≡ from_big_endian (first_bytes 4 s)
unfolding from_little_endian from_big_endian
from-be-4 s = rw first-four (omega arith)

-- ---- a number with its bytes the other way round
pub swap-2 : (n : ℕ) → swap_bytes w16 n ≡ from_little_endian (big_endian 2 n)
unfolding from_little_endian big_endian
swap-2 n = rw halfword-bytes (omega arith)

pub swap-4 : (n : ℕ) → swap_bytes w32 n ≡ from_little_endian (big_endian 4 n)
unfolding from_little_endian big_endian
swap-4 n = rw word_bytes (omega arith)

-- ---- equal bytes
pub pointwise-same : (xs ys : List ℕ) → pointwise nat_eq xs ys ≡ same xs ys
unfolding same
pointwise-same [] [] = refl
pointwise-same [] (y ∷ ys) = refl
pointwise-same (x ∷ xs) [] = refl
pointwise-same (x ∷ xs) (y ∷ ys) = ap (λ b. eqb x y && b) (pointwise-same xs ys)

-- ---- zeros behind fewer bytes
pub first-padded : (k : ℕ) (s : List ℕ) → length s ≤ k → s ++ drop (length s) (replicate k 0) ≡ first_bytes k s
unfolding first_bytes
first-padded zero [] h = refl
first-padded zero (b ∷ s) h = absurd (omega arith)
first-padded (suc k) [] h = ap (λ (l : List ℕ). 0 ∷ l) (first-padded k [] (omega arith))
first-padded (suc k) (b ∷ s) h = ap (λ (l : List ℕ). b ∷ l) (first-padded k s (omega arith))
