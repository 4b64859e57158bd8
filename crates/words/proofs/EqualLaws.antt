-- Laws of the test of equal bytes: it holds exactly of equal lists, so of two lists of one length with equal elements.
use Rattle.std.specs.Prelude.{◌≡◌, refl, true, false, ◌&&◌, List, [], ◌∷◌, ◌++◌, ℕ, ◌+◌, ◌≤◌, ◌<◌, eqb, length, take, drop, get_or}
use Rattle.std.proofs.Common.{ap, sym, ◌∙◌, add-one, arith, length-drop, take-append-drop, drop_of_length-le, take-suc, length-take-le, drop-drop, drop-cons, eqb-true, eq-eqb}
use Rattle.words.proofs.ChoiceLaws.{same_test, both, true-is-false, and-true, and_assoc, fails}
use Rattle.words.specs.Equal.{same}

pub same-equal : (xs ys : List ℕ) → same xs ys ≡ true → xs ≡ ys
unfolding same
same-equal [] [] e = refl
same-equal [] (y ∷ ys) e = true-is-false (sym e)
same-equal (x ∷ xs) [] e = true-is-false (sym e)
same-equal (x ∷ xs) (y ∷ ys) e =
    let b = both (eqb x y) (same xs ys) e in
    rw (eqb-true x y b.0, same-equal xs ys b.1)

pub equal-same : (xs : List ℕ) → same xs xs ≡ true
unfolding same
equal-same [] = refl
equal-same (x ∷ xs) = rw (eq-eqb x x refl, equal-same xs)

pub same-swap : (xs ys : List ℕ) → same xs ys ≡ same ys xs
same-swap xs ys =
    same_test (same xs ys) (same ys xs) (λ e. rw (same-equal xs ys e) (equal-same ys)) (λ e. rw (same-equal ys xs e) (equal-same xs))

pub same_length : (xs ys : List ℕ) → same xs ys ≡ true → length xs ≡ length ys
same_length xs ys e = ap length (same-equal xs ys e)

-- lists of different lengths are not equal
pub other_length : (xs ys : List ℕ) → (length xs ≡ length ys → ⊥) → same xs ys ≡ false
other_length xs ys n = fails (same xs ys) (λ e. n (same_length xs ys e))

-- by their first parts, and what follows
pub same-append : (xs ys us vs : List ℕ) → length xs ≡ length ys → same (xs ++ us) (ys ++ vs) ≡ (same xs ys && same us vs)
unfolding same
same-append [] [] us vs e = refl
same-append [] (y ∷ ys) us vs e = absurd (omega (arith, e))
same-append (x ∷ xs) [] us vs e = absurd (omega (arith, e))
same-append (x ∷ xs) (y ∷ ys) us vs e = rw (same-append xs ys us vs (omega (arith, e)), and_assoc (eqb x y) (same xs ys) (same us vs))

-- the first k bytes, and those behind them
pub same_parts : (k : ℕ) (xs ys : List ℕ) → k ≤ length xs → k ≤ length ys
    → same xs ys ≡ (same (take k xs) (take k ys) && same (drop k xs) (drop k ys))
same_parts k xs ys h g =
    let e = length-take-le k xs h ∙ sym (length-take-le k ys g) in
    rw (take-append-drop k xs, take-append-drop k ys) at (same-append (take k xs) (take k ys) (drop k xs) (drop k ys) e)

-- one byte more
pub same_more : (k : ℕ) (xs ys : List ℕ) → k < length xs → k < length ys
    → same (take (k + 1) xs) (take (k + 1) ys) ≡ (same (take k xs) (take k ys) && eqb (get_or xs k 0) (get_or ys k 0))
unfolding same
same_more k xs ys h g =
    rw (
      add-one k,
      take-suc xs k 0 h,
      take-suc ys k 0 g,
      same-append (take k xs) (take k ys) (get_or xs k 0 ∷ []) (get_or ys k 0 ∷ []) (length-take-le k xs (omega arith) ∙ sym (length-take-le k ys (omega arith))),
      and-true (eqb (get_or xs k 0) (get_or ys k 0)),
    )

-- from offset k on: the next n bytes, and those behind them
pub same_next : (k n : ℕ) (xs ys : List ℕ) → k + n ≤ length xs → k + n ≤ length ys
    → same (drop k xs) (drop k ys) ≡ (same (take n (drop k xs)) (take n (drop k ys)) && same (drop (k + n) xs) (drop (k + n) ys))
same_next k n xs ys h g =
    rw (drop-drop n k xs, drop-drop n k ys) at (same_parts n (drop k xs) (drop k ys) (omega (arith, length-drop k xs)) (omega (arith, length-drop k ys)))

-- the next byte
pub same_byte : (k : ℕ) (xs ys : List ℕ) → k < length xs → k < length ys
    → same (drop k xs) (drop k ys) ≡ (eqb (get_or xs k 0) (get_or ys k 0) && same (drop (k + 1) xs) (drop (k + 1) ys))
unfolding same
same_byte k xs ys h g = rw (drop-cons xs k 0 h, drop-cons ys k 0 g, add-one k)

-- none is left
pub same_end : (k : ℕ) (xs ys : List ℕ) → length xs ≤ k → length ys ≤ k → same (drop k xs) (drop k ys) ≡ true
unfolding same
same_end k xs ys h g = rw (drop_of_length-le xs h, drop_of_length-le ys g)
