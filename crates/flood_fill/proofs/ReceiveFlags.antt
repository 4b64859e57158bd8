-- Laws of flags: one of them, 256 of them, and those that any type reads.
use Rattle.std.specs.Prelude.{◌≡◌, refl, Bool, true, false, not, cond, List, [], ◌∷◌, ℕ, zero, suc, ◌+◌, ◌≤◌, ◌<◌, min, leb, length, take, get_or, map, nat_lt, Some, None}
use Rattle.std.specs.List.{count_by, position, position_or_len}
use Rattle.std.specs.Option.{unwrap_or}
use Rattle.std.proofs.lemmas.List.Sums.{prefix_len-le-length}
use Rattle.std.proofs.lemmas.List.Recursion.{is_count_by, is_position_or_len}
use Rattle.std.proofs.Common.{sym, ◌∙◌, arith, take_all, leb-true, leb-false}
use Rattle.std.proofs.lemmas.Bool.Decides.{nat_tests}
use Rattle.flood_fill.specs.Receive.{missing_in, lowest_in}

-- where a flag is not set, there is one
pub flag-there : (l : List Bool) (i : ℕ) → get_or l i true ≡ false → i < length l
flag-there [] i e = let z : ◌≡◌ {A = ℕ} 0 1 = cc in absurd (omega arith)
flag-there (x ∷ l) zero e = omega arith
flag-there (x ∷ l) (suc i) e = let h = flag-there l i e in omega arith

-- 256 elements, cut at 256 first
pub take_min : {A : Type 0} (n : ℕ) (l : List A) → length l ≡ 256 → take (min n 256) l ≡ take n l
take_min n l e = go (leb n 256) refl
  where
    go : (t : Bool) → leb n 256 ≡ t → take (min n 256) l ≡ take n l
    go true h = let z : min n 256 ≡ n = omega (arith, leb-true n 256 h) in rw z
    go false h = let g = leb-false n 256 h in take_all (min n 256) l (omega arith) ∙ sym (take_all n l (omega arith))

-- ---- flags of any type, as each reads them
module _ {A : Type 0} (reads : A → Bool) where
  pub missing_counted : (l : List A) → missing_in (map reads l) ≡ count_by (λ x. not (reads x)) l
  unfolding missing_in
  missing_counted = is_count_by (λ l. missing_in (map reads l)) (λ x. not (reads x)) refl (λ x l. more (reads x) (map reads l))
    where
      more : (b : Bool) (m : List Bool) → missing_in (b ∷ m) ≡ cond (not b) (1 + missing_in m) (missing_in m)
      more true m = refl
      more false m = omega arith

  first_place : (l : List A) → lowest_in (map reads l) ≡ position_or_len (λ x. not (reads x)) l
  unfolding lowest_in
  first_place = is_position_or_len (λ l. lowest_in (map reads l)) (λ x. not (reads x)) refl (λ x l. more (reads x) (map reads l))
    where
      more : (b : Bool) (m : List Bool) → lowest_in (b ∷ m) ≡ cond (not b) 0 (1 + lowest_in m)
      more true m = omega arith
      more false m = refl

  pub lowest_found : (l : List A) → lowest_in (map reads l) ≡ unwrap_or (position (λ x. not (reads x)) l) (length l)
  lowest_found l = first_place l ∙ place-or-end _ _ (prefix_len-le-length _ l)
    where
      place-or-end : (n m : ℕ) → n ≤ m → n ≡ unwrap_or (cond (nat_lt n m) (Some n) None) m
      place-or-end n m h = grind (arith, nat_tests)
