-- Laws of flags in bytes: each by itself, their parts, and one that is set.
use Rattle.std.specs.Prelude.{◌≡◌, refl, Bool, true, false, not, List, [], ◌∷◌, ℕ, zero, suc, eqb, length, take, set, replicate, map, ◌+◌, ◌-◌, ◌≤◌, drop}
use Rattle.std.proofs.Common.{arith, ◌∙◌, ap}
use Rattle.std.proofs.Math.Seq.{take-take}
use Rattle.receiver_bytes.specs.Receiver.{flags_in}

pub length-flags : (s : List ℕ) → length (flags_in s) ≡ length s
unfolding flags_in
length-flags [] = refl
length-flags (b ∷ s) = ap suc (length-flags s)

-- bytes as flags, each by itself
pub flags_map : (s : List ℕ) → map (λ byte. not (eqb byte 0)) s ≡ flags_in s
unfolding flags_in
flags_map [] = refl
flags_map (b ∷ s) = ap (λ (l : List Bool). not (eqb b 0) ∷ l) (flags_map s)

-- ---- parts, and changes
pub take_flags : (n : ℕ) (s : List ℕ) → take n (flags_in s) ≡ flags_in (take n s)
unfolding flags_in
take_flags zero s = refl
take_flags (suc n) [] = refl
take_flags (suc n) (b ∷ s) = ap (λ (l : List Bool). not (eqb b 0) ∷ l) (take_flags n s)

-- the first n of 256 flags from q on, as the code reads them
pub first_flags : (s : List ℕ) (q n : ℕ) → n ≤ 256
    → map (λ byte. not (eqb byte 0)) (take (q + n - q) (drop q s)) ≡ take n (flags_in (take 256 (drop q s)))
first_flags s q n h =
    let e : q + n - q ≡ n = omega arith in
    flags_map (take (q + n - q) (drop q s)) ∙ rw (e, take_flags n (take 256 (drop q s)), take-take n 256 (drop q s) h)

pub set-flag : (s : List ℕ) (i : ℕ) → flags_in (set s i 1) ≡ set (flags_in s) i true
unfolding flags_in
set-flag [] i = refl
set-flag (b ∷ s) zero = refl
set-flag (b ∷ s) (suc i) = ap (λ (l : List Bool). not (eqb b 0) ∷ l) (set-flag s i)

pub no-flags : (n : ℕ) → flags_in (replicate n 0) ≡ replicate n false
unfolding flags_in
no-flags zero = refl
no-flags (suc n) = ap (λ (l : List Bool). false ∷ l) (no-flags n)
