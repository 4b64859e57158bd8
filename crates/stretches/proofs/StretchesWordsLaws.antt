-- Laws of a list of stretches as words.
use Rattle.std.specs.Prelude.{◌≡◌, refl, ℕ, suc, ◌+◌, ◌-◌, ◌*◌, ◌≤◌, ◌<◌, take, drop, get_or, set}
use Rattle.std.proofs.Math.Path.{ap}
use Rattle.std.proofs.Common.{sym, ◌∙◌, length-append, get_or-take, eq-eqb, ne_eqb}
use mathlib.Core.List.{List, [], ◌∷◌, ◌++◌, append_assoc}
use native.Mathlib.Omega.{arith}
use Rattle.std.proofs.Math.ListN.{length}
use Rattle.std.proofs.Math.Seq.{length-take-le, take_at, take-set-lt}
use Rattle.words.specs.Store.{store}
use Rattle.stretches.specs.Stretches.{Stretch, add, below}
use Rattle.stretches.specs.Stretches.Words.{words_of, last_word, Listing}

pub length-words : (l : List Stretch) → length (words_of l) ≡ 4 * length l
unfolding words_of
length-words [] = refl
length-words (s ∷ l) = omega (arith, length-words l)

pub last_word-behind : (s r : Stretch) (l : List Stretch) → last_word (s ∷ r ∷ l) ≡ last_word (r ∷ l)
unfolding words_of
last_word-behind s r l =
    let z : 4 * length (s ∷ r ∷ l) - 3 ≡ suc (suc (suc (suc (4 * length (r ∷ l) - 3)))) = omega arith in
    rw z

-- one stretch more that adjoins the last
pub add-lengthens : (t : Stretch) (l : List Stretch) → 0 < length l → suc (last_word l) ≡ t.first
    → words_of (add t l) ≡ set (words_of l) (4 * length l - 3) t.last
unfolding add words_of
add-lengthens t [] h e = absurd (omega arith)
add-lengthens t (s ∷ []) h e = rw (eq-eqb _ _ e)
add-lengthens t (s ∷ r ∷ l) h e =
    let z : 4 * length (s ∷ r ∷ l) - 3 ≡ suc (suc (suc (suc (4 * length (r ∷ l) - 3)))) = omega arith in
    let i = add-lengthens t (r ∷ l) (omega arith) (ap suc (sym (last_word-behind s r l)) ∙ e) in
    rw (z, i)

pub length-lengthens : (t : Stretch) (l : List Stretch) → 0 < length l → suc (last_word l) ≡ t.first → length (add t l) ≡ length l
unfolding add words_of
length-lengthens t [] h e = absurd (omega arith)
length-lengthens t (s ∷ []) h e = rw (eq-eqb _ _ e)
length-lengthens t (s ∷ r ∷ l) h e = ap suc (length-lengthens t (r ∷ l) (omega arith) (ap suc (sym (last_word-behind s r l)) ∙ e))

-- and that does not
pub add-appends : (t : Stretch) (l : List Stretch) → (0 < length l → suc (last_word l) ≡ t.first → ⊥) → add t l ≡ l ++ t ∷ []
unfolding add words_of
add-appends t [] n = refl
add-appends t (s ∷ []) n = rw (ne_eqb (suc s.last) t.first (n (omega arith)))
add-appends t (s ∷ r ∷ l) n =
    ap (λ (k : List Stretch). s ∷ k) (add-appends t (r ∷ l) (λ h e. n (omega arith) (ap suc (last_word-behind s r l) ∙ e)))

pub words_append : (l k : List Stretch) → words_of (l ++ k) ≡ words_of l ++ words_of k
unfolding words_of
words_append [] k = refl
words_append (s ∷ l) k = rw (words_append l k)

-- ---- in a longer list of words
module _ (words : List ℕ) (n : ℕ) (l : List Stretch) (h : Listing n words l) (t : Stretch) where
  last_of : 0 < n → get_or words (4 * n - 3) 0 ≡ last_word l
  last_of g = sym (get_or-take (4 * n) words (4 * n - 3) 0 (omega arith)) ∙ ap (λ (k : List ℕ). get_or k (4 * n - 3) 0) h.1 ∙ ap (λ (k : ℕ). get_or (words_of l) (4 * k - 3) 0) h.0

  pub listing-lengthens : 0 < n → get_or words (4 * n - 3) 0 + 1 ≡ t.first → Listing n (set words (4 * n - 3) t.last) (add t l)
  listing-lengthens g e =
      let f : suc (last_word l) ≡ t.first = omega (arith, last_of g) in
      let k : 0 < length l = omega (arith, h.0) in (
        h.0 ∙ sym (length-lengthens t l k f),
        take-set-lt (4 * n) words (4 * n - 3) t.last (omega arith)
            ∙ ap (λ (w : List ℕ). set w (4 * n - 3) t.last) h.1
            ∙ ap (λ (m : ℕ). set (words_of l) (4 * m - 3) t.last) h.0
            ∙ sym (add-lengthens t l k f),
      )

  pub listing-appends : 4 * n + 4 ≤ length words → (0 < n → get_or words (4 * n - 3) 0 + 1 ≡ t.first → ⊥)
      → Listing (n + 1) (store words (4 * n) (t.first ∷ t.last ∷ t.old ∷ t.new ∷ [])) (add t l)
  unfolding store words_of
  listing-appends g apart =
      let d = t.first ∷ t.last ∷ t.old ∷ t.new ∷ [] in
      let a = add-appends t l (λ k f. apart (omega (arith, h.0)) (omega (arith, last_of (omega (arith, h.0))))) in
      let z : 4 * (n + 1) ≡ 4 * n + 4 = omega arith in
      let front : length (take (4 * n) words ++ d) ≡ 4 * n + 4 = rw (length-append, length-take-le (4 * n) words (omega arith)) in (
        rw (a, length-append) (omega (arith, h.0)),
        rw (a, z, words_append l (t ∷ []))
            (ap (take (4 * n + 4)) (sym (append_assoc (take (4 * n) words) d (drop (4 * n + 4) words)))
            ∙ take_at (take (4 * n) words ++ d) (drop (4 * n + 4) words) (4 * n + 4) front
            ∙ ap (λ (w : List ℕ). w ++ d) h.1),
      )

-- none yet
pub listing_none : (old new : ℕ → ℕ) (words : List ℕ) → Listing 0 words (below old new 0)
unfolding below words_of
listing_none old new words = (refl, refl)

pub listing-same : (n : ℕ) (words : List ℕ) (l k : List Stretch) → l ≡ k → Listing n words l → Listing n words k
listing-same n words l k e h = (h.0 ∙ ap length e, h.1 ∙ ap words_of e)
