-- Laws of decimal digits.
use Rattle.std.specs.Prelude.{◌≡◌, refl, Bool, true, false, [], ◌∷◌, eqb, length, if◌then◌else◌}
use Prim.Native.Nat.{ℕ, zero, suc, ◌+◌, ◌-◌, ◌*◌, ◌/◌, ◌^◌, ◌≤◌, ◌<◌}
use Rattle.std.proofs.Common.{ap, pow-suc}
use Rattle.std.proofs.Math.Nat.{one-le-pow}
use native.Mathlib.Omega.{arith}
use borrow.Author.Tests.{eq-eqb, ne_eqb}
use Rattle.text.specs.Digits.{digits}
use Rattle.text.proofs.DigitsLaws.{length_digits}
use Rattle.text.specs.Decimal.{leading, width, decimal}

pub length-decimal : (n : ℕ) → length (decimal n) ≡ width n
unfolding decimal
length-decimal n = length_digits 10 (width n) n

-- ---- counting the digits, with `count` of them counted
pub width-start : (n : ℕ) → 1 + leading (20 - 1) (n / 10) ≡ width n
unfolding width
width-start n = refl

pub leading-none : (k rest : ℕ) → rest ≡ 0 → leading k rest ≡ 0
unfolding leading
leading-none zero rest e = refl
leading-none (suc k) rest e = rw (eq-eqb rest 0 e)

module _ (count rest : ℕ) where
  pub leading-more : count < 20 → (rest ≡ 0 → ⊥) → count + leading (20 - count) rest ≡ count + 1 + leading (20 - (count + 1)) (rest / 10)
  unfolding leading
  leading-more h n = let z : 20 - count ≡ suc (20 - (count + 1)) = omega arith in rw (z, ne_eqb rest 0 n) (omega arith)

  pub leading_end : 20 ≤ count → leading (20 - count) rest ≡ 0
  unfolding leading
  leading_end h = let z : 20 - count ≡ 0 = omega arith in rw z

-- by the greatest power of ten that is not above the number
leading-power : (k m n : ℕ) → k ≤ m → 10 ^ k ≤ n → n < 10 * 10 ^ k → leading m (n / 10) ≡ k
unfolding leading
leading-power zero zero n h x y = refl
leading-power zero (suc m) n h x y = let z : n / 10 ≡ 0 = omega arith in rw (eq-eqb (n / 10) 0 z)
leading-power (suc k) zero n h x y = absurd (omega arith)
leading-power (suc k) (suc m) n h x y =
    let p : 10 ^ suc k ≡ 10 ^ k * 10 = pow-suc 10 k in
    let one : 1 ≤ 10 ^ k = one-le-pow k 10 (omega arith) in
    rw (ne_eqb (n / 10) 0 (λ e. omega arith)) (ap suc (leading-power k m (n / 10) (omega arith) (omega arith) (omega arith)))

pub width-power : (k n : ℕ) → k < 20 → 10 ^ k ≤ n → n < 10 * 10 ^ k → width n ≡ k + 1
unfolding width
width-power k n h x y = omega (arith, leading-power k 19 n (omega arith) x y)

pub width-zero : width 0 ≡ 1
unfolding width leading
width-zero = refl

leading-most : (k rest : ℕ) → leading k rest ≤ k
unfolding leading
leading-most zero rest = omega arith
leading-most (suc k) rest = go (eqb rest 0) (leading-most k (rest / 10))
  where
    go : (b : Bool) → leading k (rest / 10) ≤ k → (if b then 0 else suc (leading k (rest / 10))) ≤ suc k
    go true h = omega arith
    go false h = omega arith

pub width-most : (n : ℕ) → width n ≤ 20
unfolding width
width-most n = omega (arith, leading-most 19 (n / 10))

-- worked examples
pub record Examples : Type 0 where
  pub none : decimal 0 ≡ 48 ∷ []
  pub nine : decimal 9 ≡ 57 ∷ []
  pub ten : decimal 10 ≡ 49 ∷ 48 ∷ []
  pub longest : decimal 18446744073709551615
      ≡ 49 ∷ 56 ∷ 52 ∷ 52 ∷ 54 ∷ 55 ∷ 52 ∷ 52 ∷ 48 ∷ 55 ∷ 51 ∷ 55 ∷ 48 ∷ 57 ∷ 53 ∷ 53 ∷ 49 ∷ 54 ∷ 49 ∷ 53 ∷ []

pub examples : Examples
unfolding decimal width leading digits
examples = record { none = refl; nine = refl; ten = refl; longest = refl }
