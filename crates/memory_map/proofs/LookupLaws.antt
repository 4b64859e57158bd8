-- Laws of lookup: how it is computed, the region of a found range, and what holds of every lookup of a sound map.
use Rattle.std.specs.Prelude.{◌≡◌, refl, Bool, true, false, List, [], ◌∷◌, ◌⊎◌, ℕ, ◌+◌, ◌-◌, ◌≤◌, ◌<◌, if◌then◌else◌}
use Rattle.std.proofs.Common.{sym, ◌∙◌, ap, inl, inr, arith}
use Rattle.words.proofs.ChoiceLaws.{true-is-false}
use Rattle.words.specs.Range.{meets}
use Rattle.words.proofs.RangeLaws.{apart_none, Shared, meets-shared, shared-meets}
use Rattle.memory_region.specs.declared.region.Region.{Region}
use Rattle.memory_region.specs.declared.region.Right.{Right}
use Rattle.memory_map.specs.declared.map.Map.{Map}
use Rattle.memory_region.specs.Region.{permits, place_in, ends_inside}
use Rattle.memory_region.proofs.RegionLaws.{Permits, Clear, permits-facts, facts-permits, ends-facts}
use Rattle.memory_map.specs.Map.{regions_of, all_keep_rules, sound}
use Rattle.memory_map.proofs.MapLaws.{In, first, later, every_in, rules, in_kept, behind-clear, same-or-clear, sound-facts}
use Rattle.memory_map.specs.Lookup.{Found, at, refused, Lookup, found, place_of, lookup_in, lookup, lookup-computes}

-- ---- lookup in a list of regions
-- the region of a found range
pub record FoundIn (l : List Region) (r : Right) (a k p : ℕ) : Type 0 where
  pub region : Region
  pub member : In region l
  pub permitted : Permits region r a k
  pub placed : p ≡ place_in region a

pub found_in : (l : List Region) (r : Right) (a k : ℕ) {p : ℕ} → lookup_in l r a k ≡ at p → FoundIn l r a k p
unfolding lookup_in
found_in [] r a k e = let z : ◌≡◌ {A = ℕ} 0 1 = cc in absurd (omega arith)
found_in (g ∷ l) r a k {p} e = go (permits g r a k) refl e (λ z. found_in l r a k z)
  where
    go :
        (b : Bool) → permits g r a k ≡ b → (if b then at (place_in g a) else lookup_in l r a k) ≡ at p
        → (lookup_in l r a k ≡ at p → FoundIn l r a k p) → FoundIn (g ∷ l) r a k p
    go true t e rest = record { region = g; member = first refl; permitted = permits-facts t; placed = cc }
    go false t e rest =
        let f = rest e in
        record { region = f.region; member = later f.member; permitted = f.permitted; placed = f.placed }

pub in-found :
    {g : Region} {l : List Region} {r : Right} {a k : ℕ}
    → all_keep_rules l ≡ true → In g l → Permits g r a k → lookup_in l r a k ≡ at (place_in g a)
unfolding lookup_in
in-found {r} {a} {k} e (first {h} q) p =
    let t : permits h r a k ≡ true = facts-permits (rw q at p) in
    rw q (simp t)
in-found {g} {r} {a} {k} e (later {h} {l} i) p = go (permits h r a k) refl (in-found (rules e).rest i p)
  where
    go :
        (b : Bool) → permits h r a k ≡ b → lookup_in l r a k ≡ at (place_in g a)
        → (if b then at (place_in h a) else lookup_in l r a k) ≡ at (place_in g a)
    go true t rest =
        let s = permits-facts t in
        absurd (apart_none (behind-clear e i).addresses a s.low (omega arith) p.low (omega arith))
    go false t rest = rest

pub in-number : (l : List Region) (r : Right) (a k : ℕ) {x : ℕ} → lookup_in l r a k ≡ refused x → x ≡ 4
unfolding lookup_in
in-number [] r a k e = cc
in-number (g ∷ l) r a k {x} e = go (permits g r a k) e (λ z. in-number l r a k z)
  where
    go : (b : Bool) → (if b then at (place_in g a) else lookup_in l r a k) ≡ refused x → (lookup_in l r a k ≡ refused x → x ≡ 4) → x ≡ 4
    go true e rest = let z : ◌≡◌ {A = ℕ} 0 1 = cc in absurd (omega arith)
    go false e rest = rest e

-- two found ranges meet in an address where they meet in a buffer byte
module _
    {l : List Region} {r s : Right} {a k p b j q x y : ℕ}
    (e : all_keep_rules l ≡ true) (f : FoundIn l r a k p) (h : FoundIn l s b j q) (u : x < k) (v : y < j)
  where
    found-same : a + x ≡ b + y → p + x ≡ q + y
    found-same w = go (same-or-clear e f.member h.member)
      where
        go : (f.region ≡ h.region) ⊎ Clear f.region h.region → p + x ≡ q + y
        go (inl c) = omega (arith, ap (λ (g : Region). g.base) c, ap (λ (g : Region). g.place) c)
        go (inr c) = absurd (apart_none c.addresses (a + x) (omega arith) (omega arith) (omega arith) (omega arith))

    found-distinct : p + x ≡ q + y → a + x ≡ b + y
    found-distinct w = go (same-or-clear e f.member h.member)
      where
        go : (f.region ≡ h.region) ⊎ Clear f.region h.region → a + x ≡ b + y
        go (inl c) = omega (arith, ap (λ (g : Region). g.base) c, ap (λ (g : Region). g.place) c)
        go (inr c) = absurd (apart_none c.bytes (p + x) (omega arith) (omega arith) (omega arith) (omega arith))

-- ---- lookup
pub lookup-is : (m : Map) → lookup m ≡ lookup_in (regions_of m)
lookup-is m = λ d r a n. lookup-computes m r a n d

pub lookup-number : (m : Map) (r : Right) (a k : ℕ) {x : ℕ} → lookup m r a k ≡ refused x → x ≡ 4
lookup-number m r a k e = in-number (regions_of m) r a k (sym (lookup-computes m r a k) ∙ e)

-- a found range lies in a region that permits it, at the region's place
pub lookup-region : (m : Map) (r : Right) (a k : ℕ) {p : ℕ} → lookup m r a k ≡ at p → FoundIn (regions_of m) r a k p
lookup-region m r a k e = found_in (regions_of m) r a k (sym (lookup-computes m r a k) ∙ e)

-- and a range that a region permits is found there
pub lookup-place :
    (m : Map) (n : ℕ) {g : Region} {r : Right} {a k : ℕ}
    → sound m n ≡ true → In g (regions_of m) → Permits g r a k → lookup m r a k ≡ at (place_in g a)
lookup-place m n {r} {a} {k} s i p = lookup-computes m r a k ∙ in-found (sound-facts s).keep i p

-- ---- what holds of a lookup for a buffer of n bytes
pub record Lawful (find : Lookup) (n : ℕ) : Type 0 where
  pub filled : (r : Right) (a k p : ℕ) → find r a k ≡ at p → 0 < k
  pub inside : (r : Right) (a k p : ℕ) → find r a k ≡ at p → p + k ≤ n
  pub below : (r : Right) (a k p : ℕ) → find r a k ≡ at p → a + k ≤ 4294967280
  -- a part of a found range is found as far from the range's place
  pub part : (r : Right) (a k p i j : ℕ) → find r a k ≡ at p → 0 < j → i + j ≤ k → find r (a + i) j ≡ at (p + i)
  -- one address is one buffer byte, whatever the rights, and two addresses are two
  pub same :
      (r s : Right) (a k p b j q x y : ℕ)
      → find r a k ≡ at p → find s b j ≡ at q → x < k → y < j → a + x ≡ b + y → p + x ≡ q + y
  pub distinct :
      (r s : Right) (a k p b j q x y : ℕ)
      → find r a k ≡ at p → find s b j ≡ at q → x < k → y < j → p + x ≡ q + y → a + x ≡ b + y
  -- a range that is not permitted is refused with 4
  pub number : (r : Right) (a k x : ℕ) → find r a k ≡ refused x → x ≡ 4

pub lawful : (m : Map) (n : ℕ) → sound m n ≡ true → Lawful (lookup m) n
lawful m n e =
    let s = sound-facts e in
    record {
      filled = λ r a k p f. (lookup-region m r a k f).permitted.filled;
      inside = λ r a k p f.
          let g = lookup-region m r a k f in
          let h = ends-facts n g.region (every_in (ends_inside n) s.ends g.member) in
          omega arith;
      below = λ r a k p f.
          let g = lookup-region m r a k f in
          let h = in_kept s.keep g.member in
          omega arith;
      part = λ r a k p i j f u v.
          let g = lookup-region m r a k f in
          let h : Permits g.region r (a + i) j = record { filled = u; low = omega arith; high = omega arith; given = g.permitted.given } in
          lookup-place m n e g.member h ∙ ap at (omega arith);
      same = λ r t a k p b j q x y f g u v. found-same s.keep (lookup-region m r a k f) (lookup-region m t b j g) u v;
      distinct = λ r t a k p b j q x y f g u v. found-distinct s.keep (lookup-region m r a k f) (lookup-region m t b j g) u v;
      number = λ r a k x f. lookup-number m r a k f;
    }

-- the place of a range that was found
pub found-place : {f : Found} {p : ℕ} → f ≡ at p → place_of f ≡ p
found-place e = ap place_of e

pub found_at : (f : Found) → found f ≡ true → f ≡ at (place_of f)
found_at (at p) e = refl
found_at (refused x) e = true-is-false (sym e)

-- a range that is permitted lies in memory
pub range_inside :
    {find : Lookup} {l : ℕ} → Lawful find l → (r : Right) (a n : ℕ) {p : ℕ} → p ≡ place_of (find r a n) → found (find r a n) ≡ true → p + n ≤ l
range_inside {find} laws r a n e f = rw e (laws.inside r a n _ (found_at (find r a n) f))

-- ranges that share no address share no buffer byte
pub apart :
    {find : Lookup} {n : ℕ} → Lawful find n → (r s : Right) (a k p b j q : ℕ)
    → find r a k ≡ at p → find s b j ≡ at q → meets a k b j ≡ false → meets p k q j ≡ false
apart laws r s a k p b j q f g w = go (meets p k q j) refl
  where
    address : Shared p k q j → Shared a k b j
    address z =
        let x = z.number - p in
        let y = z.number - q in
        let d = laws.distinct r s a k p b j q x y f g (omega arith) (omega arith) (omega arith) in
        record {
          number = a + x;
          first-low = omega arith;
          first-high = omega arith;
          second-low = omega arith;
          second-high = omega arith;
        }

    go : (t : Bool) → meets p k q j ≡ t → meets p k q j ≡ false
    go true e = true-is-false (sym (shared-meets a k b j (address (meets-shared p k q j e))) ∙ w)
    go false e = e
