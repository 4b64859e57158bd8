-- Laws of tables: which map a table is, which table takes a region, and what is left of it.
use Rattle.std.specs.Prelude.{◌≡◌, Bool, true, false, List, [], ◌∷◌, ◌++◌, ltb, eqb, length}
use Rattle.std.proofs.Math.Path.{refl}
use Rattle.std.proofs.Common.{sym, ◌∙◌, ap}
use Prim.Native.Nat.{ℕ, zero, suc, ◌+◌, ◌-◌, ◌*◌, ◌≤◌, ◌<◌}
use native.Mathlib.Omega.{arith}
use borrow.Author.Tests.{lt-ltb, le-ltb, eq-eqb, ne_eqb, eqb-true, eqb-false, ltb-true, ltb-false}
use Rattle.words.proofs.ChoiceLaws.{true-is-false, to_both}
use Rattle.words.specs.Bytes.{little_endian_at}
use Rattle.memory_region.specs.declared.region.Region.{Region}
use Rattle.memory_map.specs.Map.{Addition, taken, refused, add, well_formed, sound}
use Rattle.memory_map.proofs.MapAdded.{taken-room}
use Rattle.map_table.specs.Table.{region_of, region_in, regions_in, rights_known, count_in, regular, map_of, no_map, table_of, addition, table_after}

-- ---- regular tables
module _ (t : List ℕ) where
  pub other_length : (length t ≡ 132 → ⊥) → regular t ≡ false
  unfolding regular
  other_length h = simp (ne_eqb (length t) 132 h)

  pub over-count : length t ≡ 132 → 8 < count_in t → regular t ≡ false
  unfolding regular
  over-count h k = simp (eq-eqb (length t) 132 h, lt-ltb 8 (count_in t) k)

  pub by-rights : length t ≡ 132 → count_in t ≤ 8 → regular t ≡ rights_known (count_in t) t 4
  unfolding regular
  by-rights h k = simp (eq-eqb (length t) 132 h, le-ltb 8 (count_in t) k)

  pub regular-whole : regular t ≡ true → length t ≡ 132
  regular-whole e = go (eqb (length t) 132) refl
    where
      go : (b : Bool) → eqb (length t) 132 ≡ b → length t ≡ 132
      go true q = eqb-true _ _ q
      go false q = true-is-false (sym e ∙ other_length (λ h. true-is-false (sym (eq-eqb _ _ h) ∙ q)))

  -- no region is left
  pub rights-none : (n i : ℕ) → n ≤ i → rights_known (n - i) t (4 + 16 * i) ≡ true
  unfolding rights_known
  rights-none n i h = let z : n - i ≡ 0 = omega arith in rw z

  -- the rights of region i of n, and those of the regions behind it
  module _ (n i : ℕ) (h : i < n) where
    pub rights-over : 7 < little_endian_at 4 t (16 + 16 * i) → rights_known (n - i) t (4 + 16 * i) ≡ false
    unfolding rights_known
    rights-over k =
        let z : n - i ≡ suc (n - (i + 1)) = omega arith in
        let a : 4 + 16 * i + 12 ≡ 16 + 16 * i = omega arith in
        rw (z, a) (simp (lt-ltb 7 (little_endian_at 4 t (16 + 16 * i)) k))

    pub rights-next : little_endian_at 4 t (16 + 16 * i) ≤ 7 → rights_known (n - i) t (4 + 16 * i) ≡ rights_known (n - (i + 1)) t (4 + 16 * (i + 1))
    unfolding rights_known
    rights-next k =
        let z : n - i ≡ suc (n - (i + 1)) = omega arith in
        let a : 4 + 16 * i + 12 ≡ 16 + 16 * i = omega arith in
        let b : 4 + 16 * i + 16 ≡ 4 + 16 * (i + 1) = omega arith in
        rw (z, a, b) (simp (le-ltb 7 (little_endian_at 4 t (16 + 16 * i)) k))

  -- one of k regions from offset p on has rights over 7
  pub rights-unknown : (k p i : ℕ) → i < k → 7 < little_endian_at 4 t (p + 12 + 16 * i) → rights_known k t p ≡ false
  unfolding rights_known
  rights-unknown zero p i h w = absurd (omega arith)
  rights-unknown (suc k) p zero h w =
      let z : p + 12 + 16 * 0 ≡ p + 12 = omega arith in
      simp (lt-ltb 7 (little_endian_at 4 t (p + 12)) (rw z at w))
  rights-unknown (suc k) p (suc i) h w =
      let z : p + 12 + 16 * suc i ≡ p + 16 + 12 + 16 * i = omega arith in
      to_both (ltb 7 (little_endian_at 4 t (p + 12))) refl (rights-unknown k (p + 16) i (omega arith) (rw z at w))

-- ---- the map of a table
-- one region more, behind those before it
pub regions-more : (k : ℕ) (t : List ℕ) (p : ℕ) → regions_in (k + 1) t p ≡ regions_in k t p ++ region_in t (p + 16 * k) ∷ []
unfolding regions_in
regions-more zero t p = let z : p + 16 * 0 ≡ p = omega arith in rw z refl
regions-more (suc k) t p =
    let z : p + 16 + 16 * k ≡ p + 16 * suc k = omega arith in
    let y : suc k + 1 ≡ suc (k + 1) = omega arith in
    rw y (ap (λ (gs : List Region). region_in t p ∷ gs) (rw z at (regions-more k t (p + 16))))

pub map-of-table : (t : List ℕ) → regular t ≡ true → map_of t ≡ record { regions = regions_in 8 t 4; count = count_in t }
unfolding map_of
map-of-table t h = simp h

pub map-of-other : (t : List ℕ) → regular t ≡ false → map_of t ≡ no_map
unfolding map_of
map-of-other t h = simp h

pub other-unsound : (t : List ℕ) → regular t ≡ false → (n : ℕ) → sound (map_of t) n ≡ false
unfolding sound well_formed
other-unsound t h n = rw (map-of-other t h) refl

-- "A table of any other length, or one in which a region in use has a rights word over 7, is no sound map"
module _ (t : List ℕ) (n : ℕ) where
  pub length-unsound : (length t ≡ 132 → ⊥) → sound (map_of t) n ≡ false
  length-unsound h = other-unsound t (other_length t h) n

  pub rights-unsound : (i : ℕ) → i < count_in t → 7 < little_endian_at 4 t (16 + 16 * i) → sound (map_of t) n ≡ false
  rights-unsound i h w = other-unsound t (go (eqb (length t) 132) (ltb 8 (count_in t)) refl refl) n
    where
      go : (a b : Bool) → eqb (length t) 132 ≡ a → ltb 8 (count_in t) ≡ b → regular t ≡ false
      go false b e f = other_length t (eqb-false _ _ e)
      go true true e f = over-count t (eqb-true _ _ e) (ltb-true _ _ f)
      go true false e f = by-rights t (eqb-true _ _ e) (ltb-false _ _ f) ∙ rights-unknown t (count_in t) 4 i h w

-- a table that takes a region is regular
pub taken-regular : (t : List ℕ) (g : Region) → (add (map_of t) g).verdict ≡ taken → regular t ≡ true
taken-regular t g e = go (regular t) refl
  where
    go : (b : Bool) → regular t ≡ b → regular t ≡ true
    go true q = q
    go false q = let z : 9 < 8 = rw (map-of-other t q) at (taken-room (map_of t) g e) in absurd (omega arith)

-- ---- additions
module _ (t : List ℕ) (b n p w : ℕ) where
  pub over-addition : 7 < w → addition t b n p w ≡ record { map = map_of t; verdict = refused 1 0 }
  unfolding addition
  over-addition h = simp (lt-ltb 7 w h)

  pub known-addition : w ≤ 7 → addition t b n p w ≡ add (map_of t) (region_of b n p w)
  unfolding addition
  known-addition h = simp (le-ltb 7 w h)

-- ---- the table after an addition
module _ (t : List ℕ) (a : Addition) where
  pub after-taken : a.verdict ≡ taken → table_after t a ≡ table_of a.map
  unfolding table_after
  after-taken e = simp e

  pub after-refused : (n p : ℕ) → a.verdict ≡ refused n p → table_after t a ≡ t
  unfolding table_after
  after-refused n p e = simp e
