-- Laws of stores.
use Rattle.std.specs.Prelude.{◌≡◌, refl, ℕ, zero, suc, ◌+◌, ◌-◌, ◌≤◌, ◌<◌, get_or, set}
use Rattle.std.proofs.Common.{ap, sym, ◌∙◌, add-zero, zero-add, add_assoc, add-one, length-drop, take-append-drop, drop_of_length-le, drop-cons, length-take-le, take-take, get_or-take, get_or-drop, ext_get_or, le-leb}
use mathlib.Core.List.{List, [], ◌∷◌, ◌++◌, append_assoc, append-nil}
use Rattle.std.proofs.Math.Numerals.{add-two, add-three}
use native.Mathlib.Omega.{arith}
use Rattle.std.proofs.Math.ListN.{length, take, drop, length-append, get_or-append}
use Rattle.std.proofs.lemmas.List.{take-append-le, drop-append-le}
use Rattle.std.proofs.Math.Seq.{drop-drop, take_at, drop_at}
use Rattle.std.proofs.lemmas.List.Edits.{sets, sets-eq}
use Rattle.std.proofs.lemmas.Bool.{lt-leb}
use borrow.Rule.Slice.PartMut.{mid_of, put_mid, Post-is, mid_len}
use Rattle.words.proofs.RangeLaws.{Apart, before, behind, apart-swap, apart-part, Inside, Zone, inside, outside, zone}
use Rattle.words.specs.Store.{store, store_if_fits}

-- ---- parts of a list
-- k elements from place q on lie before place p
pub part-of-front : (q k p : ℕ) (m : List ℕ) → q + k ≤ p → take k (drop q (take p m)) ≡ take k (drop q m)
part-of-front zero k p m h = take-take k p m (omega arith)
part-of-front (suc q) k zero m h = absurd (omega arith)
part-of-front (suc q) k (suc p) [] h = refl
part-of-front (suc q) k (suc p) (x ∷ m) h = part-of-front q k p m (omega arith)

-- four elements from place p on
pub four-elements : (m : List ℕ) (p : ℕ) → p + 4 ≤ length m → take 4 (drop p m) ≡ get_or m p 0 ∷ get_or m (p + 1) 0 ∷ get_or m (p + 2) 0 ∷ get_or m (p + 3) 0 ∷ []
four-elements m p h =
    rw (drop-cons m p 0 (omega arith), drop-cons m (suc p) 0 (omega arith), drop-cons m (suc (suc p)) 0 (omega arith), drop-cons m (suc (suc (suc p))) 0 (omega arith), add-one, add-two, add-three)

-- ---- one store, which fits
module _ (m : List ℕ) (p : ℕ) (d : List ℕ) (fits : p + length d ≤ length m) where
  front : length (take p m) ≡ p
  front = length-take-le p m (omega arith)

  pub length-store : length (store m p d) ≡ length m
  unfolding store
  length-store = simp (length-append, front, length-drop) (omega arith)

  pub store-fits : store_if_fits m p d ≡ store m p d
  unfolding store_if_fits
  store-fits = simp (le-leb _ _ fits)

  -- the elements before it
  pub take-store : (q : ℕ) → q ≤ p → take q (store m p d) ≡ take q m
  unfolding store
  take-store q h = rw (take-append-le q (take p m) _ (omega (arith, front))) (take-take q p m h)

  -- the elements behind it
  pub drop-store : (q : ℕ) → p + length d ≤ q → drop q (store m p d) ≡ drop q m
  unfolding store
  drop-store q h =
      let head : length (take p m ++ d) ≡ p + length d = simp (length-append, front) in
      let e : q ≡ p + length d + (q - (p + length d)) = omega arith in
      rw (e, ← drop-drop (q - (p + length d)) (p + length d) (take p m ++ (d ++ drop (p + length d) m)), ← append_assoc, drop_at _ _ _ head, drop-drop)

  at_store : drop p (store m p d) ≡ d ++ drop (p + length d) m
  unfolding store
  at_store = drop_at (take p m) _ p front

  -- k elements at place i of what was stored
  pub part-inside : (i k : ℕ) → i + k ≤ length d → take k (drop (p + i) (store m p d)) ≡ take k (drop i d)
  part-inside i k h =
      rw
      (← drop-drop i p (store m p d), at_store, drop-append-le i d _ (omega arith), take-append-le k (drop i d) _ (omega (arith, length-drop i d)))

  -- k elements at a place apart from it
  pub part-outside : (q k : ℕ) → Apart q k p (length d) → take k (drop q (store m p d)) ≡ take k (drop q m)
  part-outside q k (behind h) = rw (drop-store q h)
  part-outside q k (before h) =
      sym (part-of-front q k p (store m p d) h) ∙ rw (take-store p (omega arith)) (part-of-front q k p m h)

  -- one element
  pub element-inside : (i : ℕ) → Inside i p (length d) → get_or (store m p d) i 0 ≡ get_or d (i - p) 0
  element-inside i h =
      let e : i ≡ p + (i - p) = omega (arith, h.low) in
      ap (λ (j : ℕ). get_or (store m p d) j 0) e ∙ sym (get_or-drop p (store m p d) (i - p) 0)
      ∙ ap (λ (l : List ℕ). get_or l (i - p) 0) at_store
      ∙ get_or-append d (drop (p + length d) m) 0 (i - p) (omega (arith, h.low, h.high))

  pub element-outside : (i : ℕ) → Apart i 1 p (length d) → get_or (store m p d) i 0 ≡ get_or m i 0
  element-outside i h =
      sym (first i (store m p d)) ∙ ap (λ (l : List ℕ). get_or l 0 0) (part-outside i 1 h) ∙ first i m
    where
      first : (i : ℕ) (l : List ℕ) → get_or (take 1 (drop i l)) 0 0 ≡ get_or l i 0
      first i l = get_or-take 1 (drop i l) 0 0 (omega arith) ∙ get_or-drop i l 0 0 ∙ ap (λ (j : ℕ). get_or l j 0) (add-zero i)

  -- a store behind it that adjoins is one store
  pub store-adjoining : (e : List ℕ) → store (store m p d) (p + length d) e ≡ store m p (d ++ e)
  unfolding store
  store-adjoining e =
      let head : length (take p m ++ d) ≡ p + length d = simp (length-append, front) in
      let t : take (p + length d) (store m p d) ≡ take p m ++ d = rw (← append_assoc, take_at _ _ _ head) in
      let r : drop (p + length d + length e) (store m p d) ≡ drop (p + length d + length e) m = drop-store (p + length d + length e) (omega arith) in
      rw (t, r) (simp (append_assoc, length-append, add_assoc))

  -- a store over it that covers it
  pub store-over : (q : ℕ) (e : List ℕ) → q ≤ p → p + length d ≤ q + length e → store (store m p d) q e ≡ store m q e
  unfolding store
  store-over q e h g = rw (take-store q h, drop-store (q + length e) g)

-- a store at n that fits and adjoins one before it is one store with that one
pub store-behind : (m : List ℕ) (p : ℕ) (d e : List ℕ) (n : ℕ) (r s : List ℕ) → p + length d ≡ n → n + length e ≤ length m
    → r ≡ store m p d → s ≡ store_if_fits r n e → s ≡ store m p (d ++ e)
store-behind m p d e n r s x y f g =
    let h : p + length d ≤ length m = omega arith in
    let k : n + length e ≤ length r = omega (arith, ap length f ∙ length-store m p d h) in
    g ∙ store-fits r n e k ∙ rw (f, ← x) (store-adjoining m p d h e)

-- ---- two stores that share no place commute
module _ (m : List ℕ) (p : ℕ) (d : List ℕ) (q : ℕ) (e : List ℕ) (x : p + length d ≤ length m) (y : q + length e ≤ length m) where
  fits-behind : q + length e ≤ length (store m p d)
  fits-behind = omega (arith, length-store m p d x)

  length_both : length (store (store m p d) q e) ≡ length m
  length_both = length-store (store m p d) q e fits-behind ∙ length-store m p d x

  outside-both : (i : ℕ) → Apart i 1 p (length d) → Apart i 1 q (length e) → get_or (store (store m p d) q e) i 0 ≡ get_or m i 0
  outside-both i h g = element-outside (store m p d) q e fits-behind i g ∙ element-outside m p d x i h

  inside-first : (i : ℕ) → Inside i p (length d) → Apart p (length d) q (length e) → get_or (store (store m p d) q e) i 0 ≡ get_or d (i - p) 0
  inside-first i h g =
      element-outside (store m p d) q e fits-behind i (apart-part i 1 q (length e) g h.low (omega (arith, h.high)) (omega arith) (omega arith))
      ∙ element-inside m p d x i h

  inside-second : (i : ℕ) → Inside i q (length e) → get_or (store (store m p d) q e) i 0 ≡ get_or e (i - q) 0
  inside-second i h = element-inside (store m p d) q e fits-behind i h

pub store-commutes : (m : List ℕ) (p : ℕ) (d : List ℕ) (q : ℕ) (e : List ℕ) → p + length d ≤ length m → q + length e ≤ length m
    → Apart p (length d) q (length e) → store (store m p d) q e ≡ store (store m q e) p d
store-commutes m p d q e x y a =
    ext_get_or 0 _ _ (length_both m p d q e x y ∙ sym (length_both m q e p d y x)) (λ i _. go i (zone i p (length d)) (zone i q (length e)))
  where
    go : (i : ℕ) → Zone i p (length d) → Zone i q (length e) → get_or (store (store m p d) q e) i 0 ≡ get_or (store (store m q e) p d) i 0
    go i (inside h) z = inside-first m p d q e x y i h a ∙ sym (inside-second m q e p d y x i h)
    go i (outside h) (inside g) = inside-second m p d q e x y i g ∙ sym (inside-first m q e p d y x i g (apart-swap a))
    go i (outside h) (outside g) = outside-both m p d q e x y i h g ∙ sym (outside-both m q e p d y x i g h)

pub store-nil : (m : List ℕ) (p : ℕ) → store m p [] ≡ m
unfolding store
store-nil m p = simp (add-zero, take-append-drop)

-- a store over the whole list
pub store-whole : (m d : List ℕ) → length d ≡ length m → store m 0 d ≡ d
unfolding store
store-whole m d e = simp (zero-add, drop_of_length-le m {i = length d} (omega arith), append-nil)

-- the part from p to q, lent and come back as d
pub store-part : (m : List ℕ) (p q : ℕ) (d : List ℕ) → p ≤ q → q ≤ length m → length d ≡ length (mid_of p (q - p) m)
    → put_mid p (q - p) m d ≡ store m p d
unfolding store
store-part m p q d h g k = let e : p + length d ≡ q = omega (arith, mid_len p q m g) in rw (Post-is p q m h, e)

-- a store that does not fit changes nothing
pub store-unfit : (m : List ℕ) (p : ℕ) (d : List ℕ) → length m < p + length d → store_if_fits m p d ≡ m
unfolding store_if_fits
store-unfit m p d h = simp (lt-leb _ _ h)

-- elements set one after the other
pub sets-store : (m : List ℕ) (p : ℕ) (d : List ℕ) → p + length d ≤ length m → sets m p d ≡ store m p d
unfolding store
sets-store m p d h = sets-eq d m p h ∙ append_assoc (take p m) d (drop (p + length d) m)

module _ (m : List ℕ) (p a b : ℕ) where
  pub two-sets : p + 2 ≤ length m → set (set m p a) (p + 1) b ≡ store_if_fits m p (a ∷ b ∷ [])
  two-sets h = simp add-one (sets-store m p (a ∷ b ∷ []) h ∙ sym (store-fits m p (a ∷ b ∷ []) h))

  pub four-sets : (c d : ℕ) → p + 4 ≤ length m → set (set (set (set m p a) (p + 1) b) (p + 2) c) (p + 3) d ≡ store_if_fits m p (a ∷ b ∷ c ∷ d ∷ [])
  four-sets c d h =
      simp (add-one, add-two, add-three) (sets-store m p (a ∷ b ∷ c ∷ d ∷ []) h ∙ sym (store-fits m p (a ∷ b ∷ c ∷ d ∷ []) h))
