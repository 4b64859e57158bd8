-- Laws of a list of stretches at the front of a longer one.
use Rattle.std.specs.Prelude.{◌≡◌, refl, ℕ, suc, ◌+◌, ◌-◌, ◌*◌, ◌<◌, get_or, set}
use Rattle.std.proofs.Math.Path.{ap}
use Rattle.std.proofs.Common.{sym, ◌∙◌, length-append, get_or-take, eq-eqb}
use mathlib.Core.List.{List, [], ◌∷◌, ◌++◌}
use native.Mathlib.Omega.{arith}
use Rattle.std.proofs.Math.ListN.{length, length-set}
use Rattle.std.proofs.lemmas.List.{take_more_set}
use Rattle.std.proofs.Math.Seq.{take-set-lt}
use Rattle.stretches.specs.Stretches.{Stretch, up_to, add, below}
use Rattle.stretches.specs.Stretches.Words.{words_of, last_word}
use Rattle.stretches.specs.Stretches.Records.{Recorded}
use Rattle.stretches.proofs.StretchesWordsLaws.{last_word-behind, add-appends}

-- the last of them
last_at : (s r : Stretch) (l : List Stretch) → length (s ∷ r ∷ l) - 1 ≡ suc (length (r ∷ l) - 1)
last_at s r l = omega arith

last_word-is : (l : List Stretch) (d : Stretch) → 0 < length l → last_word l ≡ (get_or l (length l - 1) d).last
unfolding words_of
last_word-is [] d h = absurd (omega arith)
last_word-is (s ∷ []) d h = refl
last_word-is (s ∷ r ∷ l) d h = let z = last_at s r l in rw z (last_word-behind s r l ∙ last_word-is (r ∷ l) d (omega arith))

-- one stretch more that adjoins it
add-extends : (t : Stretch) (l : List Stretch) (d : Stretch) → 0 < length l → suc (get_or l (length l - 1) d).last ≡ t.first
    → add t l ≡ set l (length l - 1) (up_to t.last (get_or l (length l - 1) d))
unfolding add
add-extends t [] d h e = absurd (omega arith)
add-extends t (s ∷ []) d h e = rw (eq-eqb _ _ e)
add-extends t (s ∷ r ∷ l) d h e =
    let z = last_at s r l in
    let f = rw z at e in
    rw z (ap (λ (k : List Stretch). s ∷ k) (add-extends t (r ∷ l) d (omega arith) f))

module _ (s : List Stretch) (n : ℕ) (l : List Stretch) (h : Recorded n s l) (t d : Stretch) where
  last_of : 0 < n → get_or s (n - 1) d ≡ get_or l (length l - 1) d
  last_of g = sym (get_or-take n s (n - 1) d (omega arith)) ∙ ap (λ (k : List Stretch). get_or k (n - 1) d) h.1 ∙ ap (λ (k : ℕ). get_or l (k - 1) d) h.0

  pub recorded-lengthens : 0 < n → (get_or s (n - 1) d).last + 1 ≡ t.first → Recorded n (set s (n - 1) (up_to t.last (get_or s (n - 1) d))) (add t l)
  recorded-lengthens g e =
      let k : 0 < length l = omega (arith, h.0) in
      let f : suc (get_or l (length l - 1) d).last ≡ t.first = omega (arith, ap (λ (s : Stretch). s.last) (last_of g)) in
      let a = add-extends t l d k f in (
        rw (a, length-set) h.0,
        take-set-lt n s (n - 1) (up_to t.last (get_or s (n - 1) d)) (omega arith)
            ∙ ap (λ (k : List Stretch). set k (n - 1) (up_to t.last (get_or s (n - 1) d))) h.1
            ∙ ap (λ (s : Stretch). set l (n - 1) (up_to t.last s)) (last_of g)
            ∙ ap (λ (m : ℕ). set l (m - 1) (up_to t.last (get_or l (length l - 1) d))) h.0
            ∙ sym a,
      )

  pub recorded-appends : n < length s → (0 < n → (get_or s (n - 1) d).last + 1 ≡ t.first → ⊥) → Recorded (n + 1) (set s n t) (add t l)
  recorded-appends g apart =
      let a = add-appends t l (λ k f. apart (omega (arith, h.0)) (omega (arith, last_word-is l d k, ap (λ (s : Stretch). s.last) (last_of (omega (arith, h.0)))))) in (
        rw (a, length-append) (omega (arith, h.0)),
        rw a (take_more_set s n t g ∙ ap (λ (k : List Stretch). k ++ t ∷ []) h.1),
      )

-- none yet
pub recorded_none : (old new : ℕ → ℕ) (s : List Stretch) → Recorded 0 s (below old new 0)
unfolding below
recorded_none old new s = (refl, refl)

pub recorded-same : (n : ℕ) (s l k : List Stretch) → l ≡ k → Recorded n s l → Recorded n s k
recorded-same n s l k e h = (h.0 ∙ ap length e, h.1 ∙ e)
