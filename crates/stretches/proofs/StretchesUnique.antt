-- "each as long as possible" leaves no choice: ordered stretches are determined by the addresses in them and the values at their first
-- ones; and an address in them is in one stretch.
use Rattle.std.specs.Prelude.{◌≡◌, refl, Bool, true, false, ◌&&◌, List, [], ◌∷◌, ℕ, suc, ◌+◌, ◌≤◌, ◌<◌, leb, ltb, length, if◌then◌else◌}
use Rattle.std.proofs.Common.{ap, sym, ◌∙◌, arith, leb-true, le-leb, ltb-true, ltb-false}
use Rattle.words.specs.Choice.{All}
use Rattle.words.proofs.ChoiceLaws.{both}
use Rattle.stretches.specs.Stretches.{Stretch, Listed, here, there, times, Ordered}
use Rattle.stretches.proofs.StretchesExact.{Valued, listed-from, once}

some-stretch : {x : ℕ} {l : List Stretch} → Listed x l → 0 < length l
some-stretch (here p q) = omega arith
some-stretch (there h) = omega arith

pub none-listed : {x : ℕ} → Listed x [] → ⊥
none-listed h = omega (arith, some-stretch h)

-- ---- in one stretch
pub not_listed : (x : ℕ) (l : List Stretch) → (Listed x l → ⊥) → times x l ≡ 0
unfolding times
not_listed x [] n = refl
not_listed x (s ∷ l) n = go (leb s.first x && leb x s.last) refl (not_listed x l (λ h. n (there h)))
  where
    go : (t : Bool) → (leb s.first x && leb x s.last) ≡ t → times x l ≡ 0 → (if t then suc (times x l) else times x l) ≡ 0
    go false e i = i
    go true e i = let h = both (leb s.first x) (leb x s.last) e in absurd (n (here (leb-true _ _ h.0) (leb-true _ _ h.1)))

pub listed-once : (a x : ℕ) (l : List Stretch) → Ordered a l → Listed x l → times x l ≡ 1
unfolding times
listed-once a x [] o x4 = elim x4 [ ]
listed-once a x (s ∷ l) o (here p q) = rw (le-leb _ _ p, le-leb _ _ q, not_listed x l (once a x s l o p q))
listed-once a x (s ∷ l) o (there h) = go (leb s.first x && leb x s.last) refl (listed-once (s.last + 2) x l o.2 h)
  where
    go : (t : Bool) → (leb s.first x && leb x s.last) ≡ t → times x l ≡ 1 → (if t then suc (times x l) else times x l) ≡ 1
    go false e i = i
    go true e i =
        let g = both (leb s.first x) (leb x s.last) e in
        absurd (once a x s l o (leb-true _ _ g.0) (leb-true _ _ g.1) h)

-- ---- the addresses of s and those behind it are among those of t and behind it
module _ (s t : Stretch) (l k : List Stretch) (a b : ℕ) (o : Ordered a (s ∷ l)) (u : Ordered b (t ∷ k))
    (f : (x : ℕ) → Listed x (s ∷ l) → Listed x (t ∷ k))
  where
    begins : t.first ≤ s.first
    begins = listed-from t.first s.first (t ∷ k) (omega arith, u.1, u.2) (f s.first (here (omega arith) o.1))

    reaches : s.first ≤ t.first → s.last ≤ t.last
    reaches q = go (ltb t.last s.last) refl
      where
        behind : Listed (suc t.last) (t ∷ k) → ⊥
        behind (here c d) = omega arith
        behind (there h) = omega (arith, listed-from (t.last + 2) (suc t.last) k u.2 h)

        go : (c : Bool) → ltb t.last s.last ≡ c → s.last ≤ t.last
        go false e = ltb-false t.last s.last e
        go true e =
            let g = ltb-true t.last s.last e in
            absurd (behind (f (suc t.last) (here (omega (arith, u.1)) g)))

    others : t.last ≤ s.last → (x : ℕ) → Listed x l → Listed x k
    others g x h = go (f x (there h))
      where
        go : Listed x (t ∷ k) → Listed x k
        go (there i) = i
        go (here c d) = absurd (omega (arith, listed-from (s.last + 2) x l o.2 h))

-- ---- the law
module _ (old new : ℕ → ℕ) where
  same-stretch : (s t : Stretch) → s.first ≡ t.first → s.last ≡ t.last → Valued old new s → Valued old new t → s ≡ t
  same-stretch s t p q v w =
      let y = v.0 ∙ ap old p ∙ sym w.0 in
      let z = v.1 ∙ ap new p ∙ sym w.1 in
      λ i. record { first = p i; last = q i; old = y i; new = z i }

  pub unique :
      (a b : ℕ) (l k : List Stretch) → Ordered a l → Ordered b k → All (Valued old new) l → All (Valued old new) k
      → ((x : ℕ) → Listed x l → Listed x k) → ((x : ℕ) → Listed x k → Listed x l) → l ≡ k
  unique a b [] [] o u v w f g = refl
  unique a b [] (t ∷ k) o u v w f g = absurd (none-listed (g t.first (here (omega arith) u.1)))
  unique a b (s ∷ l) [] o u v w f g = absurd (none-listed (f s.first (here (omega arith) o.1)))
  unique a b (s ∷ l) (t ∷ k) o u v w f g =
      let p = begins s t l k a b o u f in
      let q = begins t s k l b a u o g in
      let c = reaches s t l k a b o u f q in
      let d = reaches t s k l b a u o g p in
      let i = same-stretch s t (omega arith) (omega arith) v.0 w.0 in
      let j = unique (s.last + 2) (t.last + 2) l k o.2 u.2 v.1 w.1 (others s t l k a b o u f d) (others t s k l b a u o g c) in
      λ n. i n ∷ j n
