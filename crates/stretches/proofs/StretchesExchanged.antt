-- Old and new exchanged.
use Rattle.std.specs.Prelude.{◌≡◌, refl, Bool, true, false, List, [], ◌∷◌, ℕ, zero, suc, eqb, length, if◌then◌else◌}
use Rattle.std.proofs.Common.{ap, sym, ◌∙◌, eqb-true, eq-eqb}
use Rattle.words.proofs.ChoiceLaws.{same_test}
use Rattle.stretches.specs.Stretches.{Stretch, up_to, adjoins, add, add_if, differs, between, below, exchange, exchanged}

pub length_exchanged : (l : List Stretch) → length (exchanged l) ≡ length l
unfolding exchanged
length_exchanged [] = refl
length_exchanged (s ∷ l) = ap suc (length_exchanged l)

add-exchanged : (t : Stretch) (l : List Stretch) → add (exchange t) (exchanged l) ≡ exchanged (add t l)
unfolding add exchanged
add-exchanged t [] = refl
add-exchanged t (s ∷ []) = go (adjoins s t)
  where
    go : (b : Bool) → (if b then up_to t.last (exchange s) ∷ [] else exchange s ∷ exchange t ∷ []) ≡ exchanged (if b then up_to t.last s ∷ [] else s ∷ t ∷ [])
    go true = refl
    go false = refl
add-exchanged t (s ∷ r ∷ l) = ap (λ (k : List Stretch). exchange s ∷ k) (add-exchanged t (r ∷ l))

pub eqb-turned : (a b : ℕ) → eqb a b ≡ eqb b a
eqb-turned a b = same_test (eqb a b) (eqb b a) (λ e. eq-eqb b a (sym (eqb-true a b e))) (λ e. eq-eqb a b (sym (eqb-true b a e)))

-- the stretches of two images, the other way round
pub below-exchanged : (old new : ℕ → ℕ) (b : ℕ) → below new old b ≡ exchanged (below old new b)
unfolding below exchanged
below-exchanged old new zero = refl
below-exchanged old new (suc x) = rw (eqb-turned (new x) (old x)) (go (differs old new x) (below-exchanged old new x))
  where
    go : (t : Bool) → below new old x ≡ exchanged (below old new x)
        → add_if t (between new old x x) (below new old x) ≡ exchanged (add_if t (between old new x x) (below old new x))
    go true e = ap (add (between new old x x)) e ∙ add-exchanged (between old new x x) (below old new x)
    go false e = e
