-- Laws of tests and of properties of every element.
use Rattle.std.specs.Prelude.{◌≡◌, refl, Bool, true, false, ◌&&◌, ℕ, zero, suc, ◌≤◌, leb, take, drop, get_or, if◌then◌else◌}
use Rattle.std.proofs.Common.{sym, subst, arith, leb-true, le-leb}
use mathlib.Core.List.{List, [], ◌∷◌, ◌++◌, reverse, reverse_aux}
use Rattle.words.specs.Choice.{All, every}

-- ---- tests
pub true-is-false : {A : Type 0} → true ≡ false → A
true-is-false e = let z : ◌≡◌ {A = ℕ} 0 1 = cc in absurd (omega arith)

-- two tests that hold in the same cases are equal
pub same_test : (s t : Bool) → (s ≡ true → t ≡ true) → (t ≡ true → s ≡ true) → s ≡ t
same_test true t f g = sym (f refl)
same_test false true f g = g refl
same_test false false f g = refl

pub leb-same : (a b c d : ℕ) → (a ≤ b → c ≤ d) → (c ≤ d → a ≤ b) → leb a b ≡ leb c d
leb-same a b c d f g =
    same_test (leb a b) (leb c d) (λ e. le-leb c d (f (leb-true a b e))) (λ e. le-leb a b (g (leb-true c d e)))

-- a test that cannot hold fails
pub fails : (t : Bool) → (t ≡ true → ⊥) → t ≡ false
fails true n = absurd (n refl)
fails false n = refl

pub and-true : (t : Bool) → (t && true) ≡ t
and-true true = refl
and-true false = refl

pub and-false : (t : Bool) → (t && false) ≡ false
and-false true = refl
and-false false = refl

pub and_assoc : (s t u : Bool) → ((s && t) && u) ≡ (s && (t && u))
and_assoc true t u = refl
and_assoc false t u = refl

pub both : (s t : Bool) → (s && t) ≡ true → (s ≡ true) × (t ≡ true)
both true t e = (refl, e)
both false t e = true-is-false (sym e)

pub four-hold : (s t u v : Bool) → (s && t && u && v) ≡ true → (s ≡ true) × (t ≡ true) × (u ≡ true) × (v ≡ true)
four-hold s t u v e =
    let x = both (s && t && u) v e in
    let y = both (s && t) u x.0 in
    let z = both s t y.0 in
    (z.0, z.1, y.1, x.1)

-- a choice that gives z
module _ {A : Type 0} {x y z : A} where
  -- where its first arm does not
  pub from-else : (t : Bool) → (x ≡ z → ⊥) → (if t then x else y) ≡ z → (t ≡ false) × (y ≡ z)
  from-else true n e = absurd (n e)
  from-else false n e = (refl, e)

  -- where its second arm does not
  pub from_then : (t : Bool) → (y ≡ z → ⊥) → (if t then x else y) ≡ z → (t ≡ true) × (x ≡ z)
  from_then true n e = (refl, e)
  from_then false n e = absurd (n e)

  pub from_either : {B : Type 0} (t : Bool) → (x ≡ z → B) → (y ≡ z → B) → (if t then x else y) ≡ z → B
  from_either true f g e = f e
  from_either false f g e = g e

  -- where both arms do
  pub to_both : (t : Bool) → x ≡ z → y ≡ z → (if t then x else y) ≡ z
  to_both true e f = e
  to_both false e f = f

-- ---- every element
pub every-all : {A : Type 0} (t : A → Bool) (l : List A) → every t l ≡ true → All (λ x. t x ≡ true) l
unfolding every
every-all t [] e = tt
every-all t (x ∷ xs) e = let b = both (t x) (every t xs) e in (b.0, every-all t xs b.1)

pub all-elements : {A : Type 0} (P : A → Type 0) (d : A) (l : List A) → ((i : ℕ) → P (get_or l i d)) → All P l
all-elements P d [] f = tt
all-elements P d (x ∷ xs) f = (f 0, all-elements P d xs (λ i. f (suc i)))

pub all_map : {A : Type 0} (P Q : A → Type 0) (l : List A) → ((x : A) → P x → Q x) → All P l → All Q l
all_map P Q [] f h = tt
all_map P Q (x ∷ xs) f h = (f x h.0, all_map P Q xs f h.1)

pub all_both : {A : Type 0} (P Q : A → Type 0) (l : List A) → All P l → All Q l → All (λ x. P x × Q x) l
all_both P Q [] h g = tt
all_both P Q (x ∷ xs) h g = ((h.0, g.0), all_both P Q xs h.1 g.1)

pub all_append : {A : Type 0} (P : A → Type 0) (l k : List A) → All P l → All P k → All P (l ++ k)
all_append P [] k h g = g
all_append P (x ∷ xs) k h g = (h.0, all_append P xs k h.1 g)

pub all_take : {A : Type 0} (P : A → Type 0) (n : ℕ) (l : List A) → All P l → All P (take n l)
all_take P zero l h = tt
all_take P (suc n) [] h = tt
all_take P (suc n) (x ∷ xs) h = (h.0, all_take P n xs h.1)

pub all_drop : {A : Type 0} (P : A → Type 0) (n : ℕ) (l : List A) → All P l → All P (drop n l)
all_drop P zero l h = h
all_drop P (suc n) [] h = tt
all_drop P (suc n) (x ∷ xs) h = all_drop P n xs h.1

-- the element behind n others
pub all-at : {A : Type 0} (P : A → Type 0) (n : ℕ) (l : List A) {x : A} {xs : List A} → drop n l ≡ x ∷ xs → All P l → P x
all-at P n l e h = (subst (All P) e (all_drop P n l h)).0

pub all-reverse : {A : Type 0} (P : A → Type 0) (l : List A) → All P l → All P (reverse l)
all-reverse {A} P l h = go l [] h tt
  where
    go : (l r : List A) → All P l → All P r → All P (reverse_aux l r)
    go [] r h g = g
    go (x ∷ xs) r h g = go xs (x ∷ r) h.1 (h.0, g)
