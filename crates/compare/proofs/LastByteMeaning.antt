-- What is compared is what the plan's own meaning leaves: in the buffer byte of a writable address stands, after permitted pieces, the
-- last byte that they store there, or what stood there before.
use Rattle.std.specs.Prelude.{◌≡◌, Bool, true, false, ℕ, ◌+◌, ◌-◌, ◌≤◌, leb, ltb, length, get_or}
use Rattle.std.proofs.Math.Path.{refl, ap}
use Rattle.std.proofs.Common.{sym, ◌∙◌, arith, leb-true, ltb-true}
use mathlib.Core.List.{List, [], ◌∷◌}
use Rattle.words.proofs.ChoiceLaws.{both, true-is-false}
use Rattle.words.proofs.RangeLaws.{Inside, Zone, inside, outside, zone}
use Rattle.word_blocks.specs.Repeat.{filling}
use Rattle.word_blocks.proofs.RepeatLaws.{length-filling}
use Rattle.words.specs.Store.{store}
use Rattle.words.proofs.StoreLaws.{length-store, element-inside, element-outside}
use Rattle.memory_region.specs.declared.region.Right.TheVariants.{Write}
use Rattle.memory_map.specs.Lookup.{Lookup, Found, at, refused}
use Rattle.memory_map.proofs.LookupLaws.{Lawful}
use Rattle.plan.specs.Plan.{Piece, put, fill, run, address_of}
use Rattle.plan.specs.Meaning.{allowed, ranged, permit, store_at, effect, effects, stored_by, Permitted}
use Rattle.compare.specs.LastByte.{end_of, covers, after, after_all}
use Rattle.compare.specs.LastByte.Laws.{covers_at, after-covered, after-other, after_run}

-- the buffer byte q of an address x, by a lookup that is lawful for n bytes
module _ (find : Lookup) (n : ℕ) (laws : Lawful find n) (x q : ℕ) (here : find Write x 1 ≡ at q) where
  -- the piece v stores the bytes d from address a on
  store_byte : (v : Piece) (a : ℕ) (d m : List ℕ) (p : ℕ) → address_of v ≡ a → stored_by v ≡ d → length m ≡ n → find Write a (length d) ≡ at p
      → get_or (store m p d) q 0 ≡ after v x (get_or m q 0)
  store_byte v a d m p e f l g = go (covers v x) refl
    where
      fits : p + length d ≤ length m
      fits = omega (arith, laws.inside Write a (length d) p g)

      end : end_of v ≡ a + length d
      end = ap (λ (k : ℕ). k + length (stored_by v)) e ∙ ap (λ (k : List ℕ). a + length k) f

      near : covers v x ≡ false → Zone q p (length d) → get_or (store m p d) q 0 ≡ get_or m q 0
      near c (inside i) =
          let z = laws.distinct Write Write a (length d) p x 1 q (q - p) 0 g here (omega (arith, i.low, i.high)) (omega arith) (omega (arith, i.low)) in
          true-is-false (sym (covers_at v x (omega (arith, e)) (omega (arith, end, i.low, i.high))) ∙ c)
      near c (outside o) = element-outside m p d fits q o

      go : (t : Bool) → covers v x ≡ t → get_or (store m p d) q 0 ≡ after v x (get_or m q 0)
      go true c =
          let b = both (leb (address_of v) x) (ltb x (end_of v)) c in
          let low = leb-true (address_of v) x b.0 in
          let high = ltb-true x (end_of v) b.1 in
          let z = laws.same Write Write a (length d) p x 1 q (x - a) 0 g here (omega (arith, low, high, e, end)) (omega arith) (omega (arith, low, e)) in
          let i : Inside q p (length d) = record { low = omega (arith, z); high = omega (arith, z, high, end, low, e) } in
          let k : q - p ≡ x - address_of v = omega (arith, z, e) in
          element-inside m p d fits q i ∙ ap (λ (j : ℕ). get_or d j 0) k ∙ ap (λ (w : List ℕ). get_or w (x - address_of v) 0) (sym f) ∙ sym (after-covered v x (get_or m q 0) c)
      go false c = near c (zone q p (length d)) ∙ sym (after-other v x (get_or m q 0) c)

  ranged-byte : (v : Piece) (a : ℕ) (d m : List ℕ) (f : Found) → address_of v ≡ a → stored_by v ≡ d → length m ≡ n → find Write a (length d) ≡ f → ranged f ≡ allowed
      → (get_or (store_at f d m) q 0 ≡ after v x (get_or m q 0)) × (length (store_at f d m) ≡ n)
  ranged-byte v a d m (at p) e k l g h = (store_byte v a d m p e k l g, length-store m p d (omega (arith, laws.inside Write a (length d) p g)) ∙ l)
  ranged-byte v a d m (refused y) e k l g h = let z : ◌≡◌ {A = ℕ} 0 1 = cc in absurd (omega arith)

  effect-byte : (p : Piece) (m : List ℕ) → length m ≡ n → permit find p ≡ allowed → (get_or (effect find p m) q 0 ≡ after p x (get_or m q 0)) × (length (effect find p m) ≡ n)
  unfolding permit effect stored_by
  effect-byte (put a d) m l h = ranged-byte (put a d) a d m (find Write a (length d)) refl refl l refl h
  effect-byte (fill a k w) m l h =
      let e = length-filling k w in
      ranged-byte (fill a k w) a (filling k w) m (find Write a k) refl refl l (ap (find Write a) e) h
  effect-byte (run a) m l h = (sym (after_run a x (get_or m q 0)), l)

  pub effects-byte : (ps : List Piece) (m : List ℕ) → length m ≡ n → Permitted find ps
      → get_or (effects find ps m) q 0 ≡ after_all ps x (get_or m q 0)
  unfolding effects after_all
  effects-byte [] m l h = refl
  effects-byte (p ∷ ps) m l h =
      let e = effect-byte p m l h.0 in
      effects-byte ps (effect find p m) e.1 h.1 ∙ ap (after_all ps x) e.0
