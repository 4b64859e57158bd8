-- The stretches below a bound are exact: an address is listed where it differs, in one stretch, and no two stretches adjoin.
use Rattle.std.specs.Prelude.{◌≡◌, ◌⊎◌, Bool, if◌then◌else◌}
use Rattle.std.proofs.Math.Path.{refl, ap}
use Rattle.std.proofs.Common.{sym, ◌∙◌}
use Rattle.std.proofs.Math.Logic.{inl, inr, ⊎_elim}
use Rattle.std.proofs.Math.Bool.{true, false}
use mathlib.Core.List.{List, [], ◌∷◌}
use Prim.Native.Nat.{ℕ, zero, suc, ◌+◌, ◌≤◌, ◌<◌}
use native.Mathlib.Omega.{arith}
use Rattle.std.proofs.Math.Dec.{leb, eqb}
use borrow.Author.Tests.{leb-true, leb-false, eqb-true, eqb-false}
use Rattle.words.specs.Choice.{All}
use Rattle.words.proofs.ChoiceLaws.{true-is-false, all_map}
use Rattle.stretches.specs.Stretches.{Stretch, up_to, adjoins, add, add_if, differs, between, below, Listed, here, there, Ordered}
use Rattle.stretches.proofs.StretchesLaws.{skip}

-- "old and new first byte"
abbrev pub Valued : (ℕ → ℕ) → (ℕ → ℕ) → Stretch → Type 0
Valued old new s = (s.old ≡ old s.first) × (s.new ≡ new s.first)

abbrev pub Ends : ℕ → List Stretch → Type 0
Ends x = All (λ s. s.last < x)

-- ---- in one stretch only
pub listed-from : (a x : ℕ) (l : List Stretch) → Ordered a l → Listed x l → a ≤ x
listed-from a x [] o x4 = elim x4 [ ]
listed-from a x (s ∷ l) o (here p q) = omega (arith, o.0)
listed-from a x (s ∷ l) o (there h) = let i = listed-from (s.last + 2) x l o.2 h in omega (arith, o.0, o.1)

pub once : (a x : ℕ) (s : Stretch) (l : List Stretch) → Ordered a (s ∷ l) → s.first ≤ x → x ≤ s.last → Listed x l → ⊥
once a x s l o p q h = let i = listed-from (s.last + 2) x l o.2 h in omega arith

-- ---- address x more, behind all others
module _ (t : Stretch) (w : t.first ≤ t.last) where
  ends-add : (l : List Stretch) → Ends t.first l → Ends (suc t.last) (add t l)
  unfolding add
  ends-add [] h = (omega arith, tt)
  ends-add (s ∷ []) h = go (adjoins s t)
    where
      go : (b : Bool) → Ends (suc t.last) (if b then up_to t.last s ∷ [] else s ∷ t ∷ [])
      go true = (omega arith, tt)
      go false = (omega (arith, h.0), (omega arith, tt))
  ends-add (s ∷ r ∷ l) h = (omega (arith, h.0), ends-add (r ∷ l) h.1)

  ordered-add : (a : ℕ) (l : List Stretch) → a ≤ t.first → Ordered a l → Ends t.first l → Ordered a (add t l)
  unfolding add
  ordered-add a [] k o h = (k, w, tt)
  ordered-add a (s ∷ []) k o h = go (adjoins s t) refl
    where
      go : (b : Bool) → adjoins s t ≡ b → Ordered a (if b then up_to t.last s ∷ [] else s ∷ t ∷ [])
      go true e = (o.0, omega (arith, o.1, h.0), tt)
      go false e = (o.0, o.1, (omega (arith, h.0, eqb-false (suc s.last) t.first e), w, tt))
  ordered-add a (s ∷ r ∷ l) k o h = (o.0, o.1, ordered-add (s.last + 2) (r ∷ l) (omega (arith, h.1.0, o.2.0, o.2.1)) o.2 h.1)

  -- what was listed still is, and so is all of t
  listed-old : (x : ℕ) (l : List Stretch) → Ends t.first l → Listed x l → Listed x (add t l)
  unfolding add
  listed-old x [] h i = elim i [ ]
  listed-old x (s ∷ []) h i = go (adjoins s t) i
    where
      go : (b : Bool) → Listed x (s ∷ []) → Listed x (if b then up_to t.last s ∷ [] else s ∷ t ∷ [])
      go true (here p q) = let g : x ≤ t.last = omega (arith, h.0) in here p g
      go false (there x8) = elim x8 [ ]
      go true (there x9) = elim x9 [ ]
      go false (here p q) = here p q
  listed-old x (s ∷ r ∷ l) h (here p q) = here p q
  listed-old x (s ∷ r ∷ l) h (there i) = there (listed-old x (r ∷ l) h.1 i)

  listed-new : (a x : ℕ) (l : List Stretch) → Ordered a l → Ends t.first l → t.first ≤ x → x ≤ t.last → Listed x (add t l)
  unfolding add
  listed-new a x [] o h p q = here p q
  listed-new a x (s ∷ []) o h p q = go (adjoins s t)
    where
      go : (b : Bool) → Listed x (if b then up_to t.last s ∷ [] else s ∷ t ∷ [])
      go true = let g : s.first ≤ x = omega (arith, o.1, h.0) in here g q
      go false = there (here p q)
  listed-new a x (s ∷ r ∷ l) o h p q = there (listed-new (s.last + 2) x (r ∷ l) o.2 h.1 p q)

  -- nothing else is
  only : (x : ℕ) (l : List Stretch) → Listed x (add t l) → Listed x l ⊎ ((t.first ≤ x) × (x ≤ t.last))
  unfolding add
  only x [] (there i) = elim i [ ]
  only x [] (here p q) = inr (p, q)
  only x (s ∷ []) i = go (adjoins s t) refl i
    where
      near : suc s.last ≡ t.first → s.first ≤ x → x ≤ t.last → (b : Bool) → leb x s.last ≡ b → Listed x (s ∷ []) ⊎ ((t.first ≤ x) × (x ≤ t.last))
      near e p q true f = inl (here p (leb-true x s.last f))
      near e p q false f = let g = leb-false x s.last f in inr (omega arith, q)

      go : (b : Bool) → adjoins s t ≡ b → Listed x (if b then up_to t.last s ∷ [] else s ∷ t ∷ []) → Listed x (s ∷ []) ⊎ ((t.first ≤ x) × (x ≤ t.last))
      go true e (here p q) = near (eqb-true _ _ e) p q (leb x s.last) refl
      go false e (here p q) = inl (here p q)
      go false e (there (there x12)) = elim x12 [ ]
      go true e (there x10) = elim x10 [ ]
      go false e (there (here p q)) = inr (p, q)
  only x (s ∷ r ∷ l) (here p q) = inl (here p q)
  only x (s ∷ r ∷ l) (there i) = ⊎_elim (λ g. inl (there g)) (λ g. inr g) (only x (r ∷ l) i)

  valued-add : (old new : ℕ → ℕ) (l : List Stretch) → Valued old new t → All (Valued old new) l → All (Valued old new) (add t l)
  unfolding add
  valued-add old new [] v h = (v, tt)
  valued-add old new (s ∷ []) v h = go (adjoins s t)
    where
      go : (b : Bool) → All (Valued old new) (if b then up_to t.last s ∷ [] else s ∷ t ∷ [])
      go true = (h.0, tt)
      go false = (h.0, (v, tt))
  valued-add old new (s ∷ r ∷ l) v h = (h.0, valued-add old new (r ∷ l) v h.1)

-- ---- the laws
module _ (old new : ℕ → ℕ) where
  pub ends : (b : ℕ) → Ends b (below old new b)
  unfolding below
  ends zero = tt
  ends (suc x) = go (differs old new x) (ends x)
    where
      go : (b : Bool) → Ends x (below old new x) → Ends (suc x) (add_if b (between old new x x) (below old new x))
      go true h = ends-add (between old new x x) (omega arith) (below old new x) h
      go false h = all_map (λ s. s.last < x) (λ s. s.last < suc x) (below old new x) (λ s g. omega arith) h

  pub ordered : (b : ℕ) → Ordered 0 (below old new b)
  unfolding below
  ordered zero = tt
  ordered (suc x) = go (differs old new x) (ordered x)
    where
      go : (b : Bool) → Ordered 0 (below old new x) → Ordered 0 (add_if b (between old new x x) (below old new x))
      go true h = ordered-add (between old new x x) (omega arith) 0 (below old new x) (omega arith) h (ends x)
      go false h = h

  pub valued : (b : ℕ) → All (Valued old new) (below old new b)
  unfolding below
  valued zero = tt
  valued (suc x) = go (differs old new x) (valued x)
    where
      go : (b : Bool) → All (Valued old new) (below old new x) → All (Valued old new) (add_if b (between old new x x) (below old new x))
      go true h = valued-add (between old new x x) (omega arith) old new (below old new x) (refl, refl) h
      go false h = h

  -- an address that is listed differs
  pub listed-differs : (b x : ℕ) → Listed x (below old new b) → differs old new x ≡ true
  unfolding below
  listed-differs zero x h = elim h [ ]
  listed-differs (suc y) x h = go (listed-differs y x) (differs old new y) refl h
    where
      go : (Listed x (below old new y) → differs old new x ≡ true) → (b : Bool) → differs old new y ≡ b → Listed x (add_if b (between old new y y) (below old new y)) → differs old new x ≡ true
      go f true e i =
          ⊎_elim f (λ g. let z : x ≡ y = omega (arith, g.0, g.1) in ap (differs old new) z ∙ e)
          (only (between old new y y) (omega arith) x (below old new y) i)
      go f false e i = f i

  -- one that differs is listed
  pub differs-listed : (b x : ℕ) → x < b → differs old new x ≡ true → Listed x (below old new b)
  unfolding below
  differs-listed zero x h d = absurd (omega arith)
  differs-listed (suc y) x h d = go (λ g. differs-listed y x g d) (differs old new y) refl (eqb x y) refl
    where
      go : (x < y → Listed x (below old new y)) → (b : Bool) → differs old new y ≡ b → (c : Bool) → eqb x y ≡ c → Listed x (add_if b (between old new y y) (below old new y))
      go k true e true f = let z = eqb-true x y f in listed-new (between old new y y) (omega arith) 0 x (below old new y) (ordered y) (ends y) (omega arith) (omega arith)
      go k true e false f = let z = eqb-false x y f in listed-old (between old new y y) (omega arith) x (below old new y) (ends y) (k (omega arith))
      go k false e true f = true-is-false (sym d ∙ ap (differs old new) (eqb-true x y f) ∙ e)
      go k false e false f = let z = eqb-false x y f in k (omega arith)

  -- where nothing differs at or past a bound, any higher bound gives the same
  pub any-bound : (b c : ℕ) → b ≤ c → ((x : ℕ) → b ≤ x → differs old new x ≡ false) → below old new c ≡ below old new b
  any-bound b c h f = skip old new b c h (λ x p q. f x p)

  pub none_differ : (b : ℕ) → ((x : ℕ) → differs old new x ≡ false) → below old new b ≡ []
  unfolding below
  none_differ b f = any-bound 0 b (omega arith) (λ x p. f x)
