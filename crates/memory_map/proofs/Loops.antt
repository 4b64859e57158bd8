-- Steps of the loops over regions: the region at an index, and those from the index on.
use Rattle.std.specs.Prelude.{◌≡◌, refl, Bool, true, false, ◌&&◌, List, [], ◌∷◌, ℕ, ◌+◌, ◌≤◌, ◌<◌, length, drop, get_or}
use Rattle.std.proofs.Common.{add-one, drop-cons, sym, ◌∙◌, ap, length-drop, take, ◌-◌}
use Rattle.std.proofs.Math.Seq.{take-length}
use Rattle.std.proofs.Math.ListN.{drop_of_length-le}
use Rattle.words.specs.Choice.{every}
use Rattle.memory_region.specs.declared.region.Region.{Region}
use Rattle.memory_region.specs.declared.region.Right.{Right}
use Rattle.memory_region.specs.Region.{keeps_rules, clear, permits, place_in}
use Rattle.memory_map.specs.Map.{all_keep_rules}
use Rattle.memory_region.specs.Region.Follows.{follows}
use Rattle.memory_map.specs.Map.Ascending.{ascending}
use Rattle.memory_map.specs.Lookup.{at, refused, lookup_in}

module _ (l : List Region) (i : ℕ) (none : Region) where
  -- the region at i, then those behind it
  pub next : i < length l → drop i l ≡ get_or l i none ∷ drop (i + 1) l
  next h = rw (add-one i, drop-cons l i none h)

either : (b : Bool) → (b && false) ≡ false
either true = refl
either false = refl

end : (l : List Region) (i : ℕ) → length l ≤ i → drop i l ≡ []
end l i h = drop_of_length-le l h

module _ (l : List Region) (i : ℕ) (none : Region) where
  module _ (t : Region → Bool) where
    pub every-fails : i < length l → t (get_or l i none) ≡ false → every t (drop i l) ≡ false
    unfolding every
    every-fails h e = simp (next l i none h, e)

    pub every-goes : i < length l → t (get_or l i none) ≡ true → every t (drop i l) ≡ every t (drop (i + 1) l)
    unfolding every
    every-goes h e = simp (next l i none h, e)

  -- the region at i breaks a rule, or all is said by those behind it
  pub rules-fail : i < length l → keeps_rules (get_or l i none) ≡ false → all_keep_rules (drop i l) ≡ false
  unfolding all_keep_rules
  rules-fail h e = simp (next l i none h, e)

  pub meets-fail : i < length l → every (clear (get_or l i none)) (drop (i + 1) l) ≡ false → all_keep_rules (drop i l) ≡ false
  unfolding all_keep_rules
  meets-fail h e = let z : (keeps_rules (get_or l i none) && false) ≡ false = either (keeps_rules (get_or l i none)) in simp (next l i none h, e, z)

  pub rules-go : i < length l → keeps_rules (get_or l i none) ≡ true → every (clear (get_or l i none)) (drop (i + 1) l) ≡ true
      → all_keep_rules (drop i l) ≡ all_keep_rules (drop (i + 1) l)
  unfolding all_keep_rules
  rules-go h e k = simp (next l i none h, e, k)

  module _ (k a p : ℕ) where
    pub ascending-fails : i < length l → follows k a p (get_or l i none) ≡ false → ascending k a p (drop i l) ≡ false
    unfolding ascending
    ascending-fails h e = simp (next l i none h, e)

    pub ascending-goes : i < length l → follows k a p (get_or l i none) ≡ true → ascending k a p (drop i l)
        ≡ ascending k ((get_or l i none).base + (get_or l i none).length) ((get_or l i none).place + (get_or l i none).length) (drop (i + 1) l)
    unfolding ascending
    ascending-goes h e = simp (next l i none h, e)

  module _ (r : Right) (a n : ℕ) where
    pub search-hits : i < length l → permits (get_or l i none) r a n ≡ true → lookup_in (drop i l) r a n ≡ at (place_in (get_or l i none) a)
    unfolding lookup_in
    search-hits h e = simp (next l i none h, e)

    pub search-goes : i < length l → permits (get_or l i none) r a n ≡ false → lookup_in (drop i l) r a n ≡ lookup_in (drop (i + 1) l) r a n
    unfolding lookup_in
    search-goes h e = simp (next l i none h, e)

module _ (l : List Region) (i : ℕ) (h : length l ≤ i) where
  pub every-end : (t : Region → Bool) → every t (drop i l) ≡ true
  unfolding every
  every-end t = rw (end l i h)

  pub rules-end : all_keep_rules (drop i l) ≡ true
  unfolding all_keep_rules
  rules-end = rw (end l i h)

  pub ascending-end : (k a p : ℕ) → ascending k a p (drop i l) ≡ true
  unfolding ascending
  ascending-end k a p = rw (end l i h)

  pub search-end : (r : Right) (a n : ℕ) → lookup_in (drop i l) r a n ≡ refused 4
  unfolding lookup_in
  search-end r a n = rw (end l i h)

-- the slice from an index on
pub every-rest : (t : Region → Bool) (l : List Region) (j : ℕ) → every t (take (length l - j) (drop j l)) ≡ every t (drop j l)
every-rest t l j = ap (every t) (ap (λ (n : ℕ). take n (drop j l)) (sym (length-drop j l)) ∙ take-length (drop j l))
