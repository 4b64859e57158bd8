-- Laws of flags in a row: the one at a place, and the empty ones from it on.
use Rattle.std.specs.Prelude.{◌≡◌, refl, Bool, true, false, List, [], ◌∷◌, ℕ, zero, suc, ◌+◌, ◌≤◌, ◌<◌, length, drop, get_or}
use Rattle.std.proofs.Common.{add-one, arith, drop_of_length-le, drop-cons}
use Rattle.flood_fill.specs.Receive.{missing_in, lowest_in}

-- an element does not depend on what stands past the end
pub same-element : (l : List Bool) (i : ℕ) (d e : Bool) → i < length l → get_or l i d ≡ get_or l i e
same-element [] i d e h = absurd (omega arith)
same-element (x ∷ l) zero d e h = refl
same-element (x ∷ l) (suc i) d e h = same-element l i d e (omega arith)

-- ---- the next flag
module _ (l : List Bool) (i : ℕ) (h : i < length l) where
  next : drop i l ≡ get_or l i false ∷ drop (i + 1) l
  next = rw (add-one i) (drop-cons l i false h)

  pub missing-set : get_or l i false ≡ true → missing_in (drop i l) ≡ missing_in (drop (i + 1) l)
  unfolding missing_in
  missing-set e = rw (next, e)

  pub missing-empty : get_or l i false ≡ false → missing_in (drop i l) ≡ suc (missing_in (drop (i + 1) l))
  unfolding missing_in
  missing-empty e = rw (next, e)

  pub lowest_set : get_or l i false ≡ true → lowest_in (drop i l) ≡ suc (lowest_in (drop (i + 1) l))
  unfolding lowest_in
  lowest_set e = rw (next, e)

  pub lowest-empty : get_or l i false ≡ false → lowest_in (drop i l) ≡ 0
  unfolding lowest_in
  lowest-empty e = rw (next, e)

-- no flag is left
pub missing-none : (l : List Bool) (i : ℕ) → length l ≤ i → missing_in (drop i l) ≡ 0
unfolding missing_in
missing-none l i h = rw (drop_of_length-le l h)

pub lowest-none : (l : List Bool) (i : ℕ) → length l ≤ i → lowest_in (drop i l) ≡ 0
unfolding lowest_in
lowest-none l i h = rw (drop_of_length-le l h)
