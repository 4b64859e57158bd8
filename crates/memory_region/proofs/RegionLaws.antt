-- Laws of one region: what each test says in numbers.
use Rattle.std.specs.Prelude.{◌≡◌, true, ℕ, ◌+◌, ◌%◌, ◌≤◌, ◌<◌}
use borrow.Author.Tests.{ltb-true, lt-ltb, leb-true, le-leb, eqb-true, eq-eqb, not-true}
use Rattle.words.proofs.ChoiceLaws.{both}
use Rattle.words.proofs.RangeLaws.{Apart, misses-apart, apart-misses}
use Rattle.memory_region.specs.declared.region.Region.{Region}
use Rattle.memory_region.specs.declared.region.Right.{Right}
use Rattle.memory_region.specs.Region.{allows, keeps_rules, clear, ends_inside, permits}

-- the rules of one region
pub record Kept (g : Region) : Type 0 where
  pub base-aligned : g.base % 4 ≡ 0
  pub length-aligned : g.length % 4 ≡ 0
  pub least : 4 ≤ g.length
  pub most : g.length ≤ 16777216
  pub below : g.base + g.length ≤ 4294967280

-- two regions share no address and no buffer byte
pub record Clear (g h : Region) : Type 0 where
  pub addresses : Apart g.base g.length h.base h.length
  pub bytes : Apart g.place g.length h.place h.length

-- n addresses from a on lie in the region, which has the right
pub record Permits (g : Region) (r : Right) (a n : ℕ) : Type 0 where
  pub filled : 0 < n
  pub low : g.base ≤ a
  pub high : a + n ≤ g.base + g.length
  pub given : allows g r ≡ true

module _ {g : Region} where
  pub keeps-facts : keeps_rules g ≡ true → Kept g
  unfolding keeps_rules
  keeps-facts e =
      let z = both _ _ e in
      let y = both _ _ z.0 in
      let x = both _ _ y.0 in
      let w = both _ _ x.0 in
      record {
        base-aligned = eqb-true _ _ w.0;
        length-aligned = eqb-true _ _ w.1;
        least = leb-true _ _ x.1;
        most = leb-true _ _ y.1;
        below = leb-true _ _ z.1;
      }

  pub facts-keeps : Kept g → keeps_rules g ≡ true
  unfolding keeps_rules
  facts-keeps k =
      simp
      (eq-eqb _ _ k.base-aligned, eq-eqb _ _ k.length-aligned, le-leb _ _ k.least, le-leb _ _ k.most, le-leb _ _ k.below)

module _ (n : ℕ) (g : Region) where
  pub ends-facts : ends_inside n g ≡ true → g.place + g.length ≤ n
  unfolding ends_inside
  ends-facts e = leb-true _ _ e

  pub facts-ends : g.place + g.length ≤ n → ends_inside n g ≡ true
  unfolding ends_inside
  facts-ends h = le-leb _ _ h

module _ {g h : Region} where
  pub clear-facts : 0 < g.length → 0 < h.length → clear g h ≡ true → Clear g h
  unfolding clear
  clear-facts x y e =
      let z = both _ _ e in
      record {
        addresses = misses-apart _ _ _ _ x y (not-true _ z.0);
        bytes = misses-apart _ _ _ _ x y (not-true _ z.1);
      }

  pub facts-clear : Clear g h → clear g h ≡ true
  unfolding clear
  facts-clear c = simp (apart-misses _ _ _ _ c.addresses, apart-misses _ _ _ _ c.bytes)

module _ {g : Region} {r : Right} {a n : ℕ} where
  pub permits-facts : permits g r a n ≡ true → Permits g r a n
  unfolding permits
  permits-facts e =
      let z = both _ _ e in
      let y = both _ _ z.0 in
      let x = both _ _ y.0 in
      record { filled = ltb-true _ _ x.0; low = leb-true _ _ x.1; high = leb-true _ _ y.1; given = z.1 }

  pub facts-permits : Permits g r a n → permits g r a n ≡ true
  unfolding permits
  facts-permits p =
      simp (lt-ltb _ _ p.filled, le-leb _ _ p.low, le-leb _ _ p.high, p.given)
