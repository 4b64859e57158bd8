-- Laws of the stretches below a bound, along blocks of addresses.
use Rattle.std.specs.Prelude.{◌≡◌, refl, Bool, not, List, [], ◌∷◌, eqb, if◌then◌else◌}
use Rattle.std.proofs.Common.{ap, ◌∙◌, add-suc, arith, eq-eqb}
use Rattle.std.proofs.Math.Bool.{true, false}
use Prim.Native.Nat.{ℕ, zero, suc, ◌+◌, ◌-◌, ◌≤◌, ◌<◌}
use Rattle.std.proofs.Math.Nat.{add-zero}
use Rattle.std.proofs.Math.ListN.{length}
use Rattle.stretches.specs.Stretches.{Stretch, up_to, adjoins, add, add_if, differs, between, below}

-- ---- one stretch more
add-some : (t : Stretch) (l : List Stretch) → 0 < length (add t l)
unfolding add
add-some t [] = omega arith
add-some t (s ∷ []) = go (adjoins s t)
  where
    go : (b : Bool) → 0 < length (if b then up_to t.last s ∷ [] else s ∷ t ∷ [])
    go true = omega arith
    go false = omega arith
add-some t (s ∷ r ∷ l) = omega arith

add-behind : (t r : Stretch) (l : List Stretch) → 0 < length l → add t (r ∷ l) ≡ r ∷ add t l
unfolding add
add-behind t r [] h = absurd (omega arith)
add-behind t r (s ∷ l) h = refl

-- two that adjoin are added as one
pub add-join : (t s : Stretch) (l : List Stretch) → suc s.last ≡ t.first → add t (add s l) ≡ add (up_to t.last s) l
unfolding add
add-join t s [] e = rw (eq-eqb _ _ e)
add-join t s (r ∷ []) e = go (adjoins r s)
  where
    go : (b : Bool) → add t (if b then up_to s.last r ∷ [] else r ∷ s ∷ []) ≡ (if b then up_to t.last r ∷ [] else r ∷ up_to t.last s ∷ [])
    go true = rw (eq-eqb _ _ e)
    go false = rw (eq-eqb _ _ e)
add-join t s (r ∷ q ∷ l) e =
    add-behind t r (add s (q ∷ l)) (add-some s (q ∷ l)) ∙ ap (λ (k : List Stretch). r ∷ k) (add-join t s (q ∷ l) e)

-- no stretch is lost
pub add-longer : (t : Stretch) (l : List Stretch) → length l ≤ length (add t l)
unfolding add
add-longer t [] = omega arith
add-longer t (s ∷ []) = add-some t (s ∷ [])
add-longer t (s ∷ r ∷ l) = omega (arith, add-longer t (r ∷ l))

-- ---- a block of k addresses from a on
module _ (old new : ℕ → ℕ) (a : ℕ) where
  -- in which none differs
  pub below-same : (k : ℕ) → ((x : ℕ) → a ≤ x → x < a + k → differs old new x ≡ false) → below old new (a + k) ≡ below old new a
  unfolding below
  below-same zero h = rw add-zero
  below-same (suc k) h = rw (add-suc a k, h (a + k) (omega arith) (omega arith)) (below-same k (λ x p q. h x p (omega arith)))

  -- in which all differ
  pub below-differ : (k : ℕ) → ((x : ℕ) → a ≤ x → x < a + suc k → differs old new x ≡ true)
      → below old new (a + suc k) ≡ add (between old new a (a + k)) (below old new a)
  unfolding below
  below-differ zero h = rw (add-suc a 0, add-zero a, rw (add-zero a) at (h (a + 0) (omega arith) (omega arith)))
  below-differ (suc k) h =
      rw (add-suc a (suc k), h (a + suc k) (omega arith) (omega arith), below-differ k (λ x p q. h x p (omega arith)))
      (add-join (between old new (a + suc k) (a + suc k)) (between old new a (a + k)) (below old new a) (omega arith))

  pub below-longer : (k : ℕ) → length (below old new a) ≤ length (below old new (a + k))
  unfolding below
  below-longer zero = rw (add-zero a) (omega arith)
  below-longer (suc k) = rw (add-suc a k) (go (differs old new (a + k)) (below-longer k))
    where
      go : (b : Bool) → length (below old new a) ≤ length (below old new (a + k))
          → length (below old new a) ≤ length (add_if b (between old new (a + k) (a + k)) (below old new (a + k)))
      go true h = omega (arith, add-longer (between old new (a + k) (a + k)) (below old new (a + k)))
      go false h = h

-- the same by the address e behind the block
module _ (old new : ℕ → ℕ) (a e : ℕ) where
  pub skip : a ≤ e → ((x : ℕ) → a ≤ x → x < e → differs old new x ≡ false) → below old new e ≡ below old new a
  skip g h =
      let z : e ≡ a + (e - a) = omega arith in
      ap (below old new) z ∙ below-same old new a (e - a) (λ x p q. h x p (omega arith))

  pub extend : a < e → ((x : ℕ) → a ≤ x → x < e → differs old new x ≡ true) → below old new e ≡ add (between old new a (e - 1)) (below old new a)
  extend g h =
      let z : e ≡ a + suc (e - a - 1) = omega arith in
      let y : a + (e - a - 1) ≡ e - 1 = omega arith in
      ap (below old new) z ∙ below-differ old new a (e - a - 1) (λ x p q. h x p (omega arith)) ∙ rw y

  pub longer : a ≤ e → length (below old new a) ≤ length (below old new e)
  longer g = let z : a + (e - a) ≡ e = omega arith in rw z at (below-longer old new a (e - a))

  -- the addresses below e differ as the values o and n do, which stand at a
  pub block : (o n : ℕ) → a < e → o ≡ old a → n ≡ new a → ((x : ℕ) → a ≤ x → x < e → eqb (old x) (new x) ≡ eqb o n)
      → below old new e ≡ (if eqb o n then below old new a else add (record { first = a; last = e - 1; old = o; new = n }) (below old new a))
  block o n g p q h = go (eqb o n) refl
    where
      go : (b : Bool) → eqb o n ≡ b
          → below old new e ≡ (if b then below old new a else add (record { first = a; last = e - 1; old = o; new = n }) (below old new a))
      go true f = skip (omega arith) (λ x k l. ap not (h x k l ∙ f))
      go false f = rw (p, q) (extend g (λ x k l. ap not (h x k l ∙ f)))
