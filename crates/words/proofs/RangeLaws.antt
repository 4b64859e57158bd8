-- Laws of ranges.
use Rattle.std.specs.Prelude.{◌≡◌, Bool, ◌&&◌, ℕ, suc, ◌+◌, ◌-◌, ◌≤◌, ◌<◌}
use Rattle.std.proofs.Math.Path.{refl}
use Rattle.std.proofs.Common.{sym, ◌∙◌}
use Rattle.std.proofs.Math.Bool.{true, false, not}
use native.Mathlib.Omega.{arith}
use Rattle.std.proofs.Math.Dec.{ltb, leb, eqb}
use borrow.Author.Tests.{ltb-true, ltb-false, lt-ltb, le-ltb, leb-true, leb-false, lt-leb, eqb-true, eqb-false}
use Rattle.words.proofs.ChoiceLaws.{true-is-false, both, leb-same}
use Rattle.words.specs.Range.{meets}

-- one ends where the other begins, or before
pub data Apart (a n b k : ℕ) : Type 0 where
  before : a + n ≤ b → Apart a n b k
  behind : b + k ≤ a → Apart a n b k

pub apart-swap : {a n b k : ℕ} → Apart a n b k → Apart b k a n
apart-swap (before h) = behind h
apart-swap (behind h) = before h

-- no number lies in both
pub apart_none : {a n b k : ℕ} → Apart a n b k → (i : ℕ) → a ≤ i → i < a + n → b ≤ i → i < b + k → ⊥
apart_none (before h) i x y z w = omega arith
apart_none (behind h) i x y z w = omega arith

-- parts of ranges that are apart
pub apart-part : {a n b k : ℕ} (c i d j : ℕ) → Apart a n b k → a ≤ c → c + i ≤ a + n → b ≤ d → d + j ≤ b + k → Apart c i d j
apart-part c i d j (before h) x y z w = before (omega arith)
apart-part c i d j (behind h) x y z w = behind (omega arith)

-- a number lies in a range, or apart from it
pub record Inside (i a n : ℕ) : Type 0 where
  pub low : a ≤ i
  pub high : i < a + n

pub data Zone (i a n : ℕ) : Type 0 where
  inside : Inside i a n → Zone i a n
  outside : Apart i 1 a n → Zone i a n

pub zone : (i a n : ℕ) → Zone i a n
zone i a n = go (leb a i) refl (ltb i (a + n)) refl
  where
    go : (s : Bool) → leb a i ≡ s → (t : Bool) → ltb i (a + n) ≡ t → Zone i a n
    go true e true f = inside (record { low = leb-true a i e; high = ltb-true _ _ f })
    go true e false f = let h = ltb-false _ _ f in outside (behind h)
    go false e t f = let h = leb-false a i e in outside (before (omega arith))

-- a number in both
pub record Shared (a n b k : ℕ) : Type 0 where
  pub number : ℕ
  pub first-low : a ≤ number
  pub first-high : number < a + n
  pub second-low : b ≤ number
  pub second-high : number < b + k

module _ (a n b k : ℕ) where
  pub meets-shared : meets a n b k ≡ true → Shared a n b k
  unfolding meets
  meets-shared e =
      let z = both (ltb 0 n && ltb 0 k && ltb a (b + k)) (ltb b (a + n)) e in
      let y = both (ltb 0 n && ltb 0 k) (ltb a (b + k)) z.0 in
      let x = both (ltb 0 n) (ltb 0 k) y.0 in
      let p = ltb-true _ _ x.0 in
      let q = ltb-true _ _ x.1 in
      let r = ltb-true _ _ y.1 in
      let s = ltb-true _ _ z.1 in
      higher (leb a b) refl p q r s
    where
      higher : (t : Bool) → leb a b ≡ t → 0 < n → 0 < k → a < b + k → b < a + n → Shared a n b k
      higher true e p q r s =
          let h = leb-true a b e in
          record { number = b; first-low = h; first-high = s; second-low = omega arith; second-high = omega arith }
      higher false e p q r s =
          let h = leb-false a b e in
          record { number = a; first-low = omega arith; first-high = omega arith; second-low = omega arith; second-high = r }

  pub shared-meets : Shared a n b k → meets a n b k ≡ true
  unfolding meets
  shared-meets s =
      simp
      (lt-ltb 0 n (omega arith), lt-ltb 0 k (omega arith), lt-ltb a (b + k) (omega arith), lt-ltb b (a + n) (omega arith))

  -- ranges with numbers that share none are apart
  pub misses-apart : 0 < n → 0 < k → meets a n b k ≡ false → Apart a n b k
  unfolding meets
  misses-apart p q e = go (ltb a (b + k)) refl (simp (lt-ltb 0 n p, lt-ltb 0 k q) at e)
    where
      go : (t : Bool) → ltb a (b + k) ≡ t → (t && ltb b (a + n)) ≡ false → Apart a n b k
      go true h f = before (ltb-false _ _ f)
      go false h f = behind (ltb-false _ _ h)

  pub apart-misses : Apart a n b k → meets a n b k ≡ false
  apart-misses h = go (meets a n b k) refl
    where
      none : Shared a n b k → ⊥
      none s = apart_none h s.number s.first-low s.first-high s.second-low s.second-high

      go : (t : Bool) → meets a n b k ≡ t → meets a n b k ≡ false
      go true e = absurd (none (meets-shared e))
      go false e = e

-- a part of a range that is not met
pub misses-part : (d n a k h l : ℕ) → a ≤ h → h + l ≤ a + k → meets d n a k ≡ false → meets d n h l ≡ false
misses-part d n a k h l x y o = go (meets d n h l) refl
  where
    go : (t : Bool) → meets d n h l ≡ t → meets d n h l ≡ false
    go false e = e
    go true e =
        let s = meets-shared d n h l e in
        true-is-false (sym (shared-meets d n a k (record {
          number = s.number;
          first-low = s.first-low;
          first-high = s.first-high;
          second-low = omega (arith, s.second-low);
          second-high = omega (arith, s.second-high);
        })) ∙ o)

-- ---- the same by differences, which do not wrap
module _ (a n e : ℕ) where
  pub fits-near : a ≤ e → leb n (e - a) ≡ leb (a + n) e
  fits-near h = leb-same n (e - a) (a + n) e (λ x. omega arith) (λ x. omega arith)

  pub fits-far : e < a → leb (a + n) e ≡ false
  fits-far h = lt-leb (a + n) e (omega arith)

module _ (a n b k : ℕ) where
  pub meets-empty : n ≡ 0 → meets a n b k ≡ false
  unfolding meets
  meets-empty h = simp (le-ltb 0 n (omega arith))

  pub meets-nothing : k ≡ 0 → meets a n b k ≡ false
  meets-nothing h = misses (meets a n b k) refl
    where
      misses : (t : Bool) → meets a n b k ≡ t → meets a n b k ≡ false
      misses true e = let s = meets-shared a n b k e in absurd (omega arith)
      misses false e = e

  -- neither ends before the other begins: they share none where the second is empty
  pub misses-by-length : b < a + n → a < b + k → (n ≡ 0 → ⊥) → eqb k 0 ≡ not (meets a n b k)
  unfolding meets
  misses-by-length h i p = go (eqb k 0) refl
    where
      go : (t : Bool) → eqb k 0 ≡ t → eqb k 0 ≡ not (ltb 0 n && ltb 0 k && ltb a (b + k) && ltb b (a + n))
      go true e = simp (e, lt-ltb 0 n (omega arith), le-ltb 0 k (omega (arith, eqb-true k 0 e)))
      go false e = let z = eqb-false k 0 e in simp (e, lt-ltb 0 n (omega arith), lt-ltb 0 k (omega arith), lt-ltb a (b + k) i, lt-ltb b (a + n) h)

  pub meets-upward : 0 < n → 0 < k → a ≤ b → meets a n b k ≡ ltb (b - a) n
  unfolding meets
  meets-upward p q h =
      simp (lt-ltb 0 n p, lt-ltb 0 k q, lt-ltb a (b + k) (omega arith)) (leb-same (suc b) (a + n) (suc (b - a)) n (λ x. omega arith) (λ x. omega arith))

  pub meets-downward : 0 < n → 0 < k → b < a → meets a n b k ≡ ltb (a - b) k
  unfolding meets
  meets-downward p q h =
      let r : ltb a (b + k) ≡ ltb (a - b) k = leb-same (suc a) (b + k) (suc (a - b)) k (λ x. omega arith) (λ x. omega arith) in
      go (ltb a (b + k)) refl ∙ r
    where
      go : (t : Bool) → ltb a (b + k) ≡ t → meets a n b k ≡ ltb a (b + k)
      go true e = simp (lt-ltb 0 n p, lt-ltb 0 k q, e) (lt-ltb b (a + n) (omega arith))
      go false e = simp (lt-ltb 0 n p, lt-ltb 0 k q, e)
