-- Zeros behind a list change no number in it.
use Rattle.std.specs.Prelude.{◌≡◌, refl, List, [], ◌∷◌, ◌++◌, ℕ, zero, suc, ◌+◌, drop, replicate}
use Rattle.std.proofs.Common.{ap, drop-drop}
use Rattle.words.specs.Bytes.{from_little_endian, first_bytes, little_endian_at}

first-zeros : (k p n : ℕ) → first_bytes k (drop p (replicate n 0)) ≡ first_bytes k []
unfolding first_bytes
first-zeros zero p n = refl
first-zeros (suc k) zero zero = refl
first-zeros (suc k) zero (suc n) = ap (λ (l : List ℕ). 0 ∷ l) (first-zeros k zero n)
first-zeros (suc k) (suc p) zero = refl
first-zeros (suc k) (suc p) (suc n) = first-zeros (suc k) p n

first-padded : (k p n : ℕ) (s : List ℕ) → first_bytes k (s ++ drop p (replicate n 0)) ≡ first_bytes k s
unfolding first_bytes
first-padded zero p n s = refl
first-padded (suc k) p n [] = first-zeros (suc k) p n
first-padded (suc k) p n (b ∷ s) = ap (λ (l : List ℕ). b ∷ l) (first-padded k p n s)

padded : (k i p n : ℕ) (s : List ℕ) → first_bytes k (drop i (s ++ drop p (replicate n 0))) ≡ first_bytes k (drop i s)
padded k zero p n s = first-padded k p n s
padded k (suc i) p n [] = rw (drop-drop (suc i) p (replicate {A = ℕ} n 0)) (first-zeros k (p + suc i) n)
padded k (suc i) p n (b ∷ s) = padded k i p n s

pub little-at-padded : (k i p n : ℕ) (s : List ℕ) → little_endian_at k (s ++ drop p (replicate n 0)) i ≡ little_endian_at k s i
unfolding little_endian_at
little-at-padded k i p n s = ap from_little_endian (padded k i p n s)
