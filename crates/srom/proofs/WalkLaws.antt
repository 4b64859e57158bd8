-- Laws of the walk: the pads, the facts of a block that stands at an offset, and a step at a time.
use Rattle.std.specs.Prelude.{◌≡◌, Bool, true, false, not, List, [], ◌∷◌, leb, ltb, eqb, take, drop, get_or}
use Rattle.std.proofs.Math.Path.{refl}
use Rattle.std.proofs.Common.{sym, ◌∙◌, drop_of_length-le, drop-cons}
use Prim.Native.Nat.{ℕ, zero, suc, ◌+◌, ◌-◌, ◌*◌, ◌%◌, ◌≤◌, ◌<◌}
use Rattle.std.proofs.Math.Numerals.{add-one}
use native.Mathlib.Omega.{arith}
use Rattle.std.proofs.Math.ListN.{length, length-drop}
use Rattle.std.proofs.Math.Seq.{length-take-le}
use borrow.Author.Tests.{leb-true, leb-false, ltb-false, eqb-true, eqb-false, not-false, eq-eqb, ne_eqb}
use Rattle.words.proofs.ChoiceLaws.{from-else, from_then}
use Rattle.words.specs.Bytes.{big_endian_at}
use Rattle.word_blocks.proofs.SwapLaws.{length-swap}
use Rattle.memory_region.specs.declared.region.Right.TheVariants.{Write}
use Rattle.memory_map.specs.Lookup as map
use Rattle.memory_map.specs.Lookup.{Lookup, Found}
use Rattle.memory_map.specs.Entry as entry
use Rattle.memory_map.specs.Entry.{RunEntry, run_entry}
use Rattle.outcome.specs.Outcome.{Ending}
use Rattle.srom.specs.Walk.{Item, pad, block, halt, placed, data_block, run_of, block_at, item_at, block_in, after, walk_for, walk, leading_pads, pads_end}
use Rattle.srom.proofs.WalkItems.{at-pad}

-- ---- pads
module _ (s : List ℕ) (o : ℕ) where
  pub pads-next : o < length s → get_or s o 0 ≡ 0x55 → pads_end s o ≡ pads_end s (o + 1)
  unfolding pads_end leading_pads
  pads-next h e = rw (drop-cons s o 0 h, eq-eqb (get_or s o 0) 0x55 e, add-one o) (omega arith)

  pub pads-none : o < length s → (get_or s o 0 ≡ 0x55 → ⊥) → pads_end s o ≡ o
  unfolding pads_end leading_pads
  pads-none h n = rw (drop-cons s o 0 h, ne_eqb (get_or s o 0) 0x55 n) (omega arith)

  pub pads-past : length s ≤ o → pads_end s o ≡ o
  unfolding pads_end leading_pads
  pads-past h = rw (drop_of_length-le s {i = o} h) (omega arith)

  pub pads-low : o ≤ pads_end s o
  unfolding pads_end
  pads-low = omega arith

-- the pads from an offset on, one by one, up to another byte or past the end
data Pads (s : List ℕ) : ℕ → Type 0 where
  next : {o : ℕ} → o < length s → get_or s o 0 ≡ 0x55 → Pads s (o + 1) → Pads s o
  other : {o : ℕ} → o < length s → (get_or s o 0 ≡ 0x55 → ⊥) → Pads s o
  past : {o : ℕ} → length s ≤ o → Pads s o

pads : (s : List ℕ) (o : ℕ) → Pads s o
pads s o = from (length s) o (omega arith)
  where
    from : (n o : ℕ) → length s ≤ o + n → Pads s o
    from zero o h = past {o = o} (omega arith)
    from (suc n) o h = go (leb (length s) o) refl (eqb (get_or s o 0) 0x55) refl (from n (o + 1) (omega arith))
      where
        go : (b : Bool) → leb (length s) o ≡ b → (c : Bool) → eqb (get_or s o 0) 0x55 ≡ c → Pads s (o + 1) → Pads s o
        go true e c f p = past (leb-true _ _ e)
        go false e true f p = next (leb-false _ _ e) (eqb-true _ _ f) p
        go false e false f p = other (leb-false _ _ e) (eqb-false _ _ f)

pub pads-end-other : (s : List ℕ) (o : ℕ) → pads_end s o < length s → get_or s (pads_end s o) 0 ≡ 0x55 → ⊥
pads-end-other s o = go (pads s o)
  where
    go : {o : ℕ} → Pads s o → pads_end s o < length s → get_or s (pads_end s o) 0 ≡ 0x55 → ⊥
    go {o} (next h e p) = rw (pads-next s o h e) (go p)
    go {o} (other h n) = rw (pads-none s o h n) (λ _ e. n e)
    go {o} (past h) = rw (pads-past s o h) (λ g e. omega arith)

-- ---- facts of what stands at an offset
halt-no-pad : {x : Ending} → halt x ≡ pad → ⊥
halt-no-pad e = let z : ◌≡◌ {A = ℕ} 0 1 = cc in omega arith

halt-no-block : {x : Ending} {a p b e : ℕ} → halt x ≡ block a p b e → ⊥
halt-no-block h = let z : ◌≡◌ {A = ℕ} 0 1 = cc in omega arith

pad-no-block : {a p b e : ℕ} → pad ≡ block a p b e → ⊥
pad-no-block h = let z : ◌≡◌ {A = ℕ} 0 1 = cc in omega arith

run-no-block : (r : RunEntry) (o : ℕ) {a p b e : ℕ} → run_of r o ≡ block a p b e → ⊥
run-no-block (entry.entry k x) o h = halt-no-block h
run-no-block (entry.refused x) o h = halt-no-block h

-- a block that was placed
record Placed (f : Found) (c o x a p b e : ℕ) : Type 0 where
  found : f ≡ map.at p
  address : c ≡ a
  data-start : o + 7 ≡ b
  last : x ≡ e

placed-facts : (f : Found) (c o x : ℕ) {a p b e : ℕ} → placed f c o x ≡ block a p b e → Placed f c o x a p b e
placed-facts (map.at q) c o x h = record { found = cc; address = cc; data-start = cc; last = cc }
placed-facts (map.refused y) c o x h = absurd (halt-no-block h)

pub record BlockFacts (find : Lookup) (s : List ℕ) (o a p b e : ℕ) : Type 0 where
  pub start : o < length s
  pub data-start : b ≡ o + 7
  -- four bytes of data at least
  pub first : b < e
  pub last : e ≤ length s
  pub whole : (e - b) % 4 ≡ 0
  pub size : length (block_in s a p b e).bytes ≡ e - b
  pub aligned : a % 4 ≡ 0
  pub found : find Write a (e - b) ≡ map.at p

module _ (find : Lookup) (s : List ℕ) (o : ℕ) where
  pub pad-start : item_at find s o ≡ pad → o < length s
  unfolding item_at
  pad-start e = leb-false _ _ (from-else (leb (length s) o) halt-no-pad e).0

  data-facts : (n c : ℕ) {a p b e : ℕ} → (n ≡ 0 → ⊥) → data_block find s o n c ≡ block a p b e → BlockFacts find s o a p b e
  unfolding data_block
  data-facts n c {a} {p} {b} {e} z h =
      let t = from-else (not (eqb (c % 4) 0)) halt-no-block h in
      let u = from-else (ltb (length s) (o + 7 + 4 * n)) halt-no-block t.1 in
      let l : o + 7 + 4 * n ≤ length s = ltb-false _ _ u.0 in
      let f = placed-facts (find Write c (4 * n)) c o (o + 7 + 4 * n) u.1 in
      let m : e - b ≡ 4 * n = omega arith in
      let k : length (take (e - b) (drop b s)) ≡ e - b = length-take-le (e - b) (drop b s) (rw length-drop (omega arith)) in
      record {
        start = omega arith;
        data-start = omega arith;
        first = omega arith;
        last = omega arith;
        whole = omega arith;
        size = length-swap (take (e - b) (drop b s)) ∙ k;
        aligned = rw (← f.address) (eqb-true _ _ (not-false _ t.0));
        found = rw (m, ← f.address) f.found;
      }

  pub block-facts : {a p b e : ℕ} → item_at find s o ≡ block a p b e → BlockFacts find s o a p b e
  unfolding item_at block_at
  block-facts h =
      let p = from-else (leb (length s) o) halt-no-block h in
      let q = from-else (eqb (get_or s o 0) 0x55) pad-no-block p.1 in
      let r = from_then (eqb (get_or s o 0) 0x3a) halt-no-block q.1 in
      let t = from-else (ltb (length s) (o + 7)) halt-no-block r.1 in
      let u = from-else (eqb (big_endian_at 2 s (o + 1)) 0) (run-no-block (run_entry find (big_endian_at 4 s (o + 3))) o) t.1 in
      data-facts (big_endian_at 2 s (o + 1)) (big_endian_at 4 s (o + 3)) (eqb-false _ _ u.0) u.1

-- ---- a step of the walk
module _ (find : Lookup) (s : List ℕ) where
  -- more items than bytes left cut nothing off
  same-fuel : (f g o : ℕ) → length s - o < f → length s - o < g → walk_for f find s o ≡ walk_for g find s o
  unfolding walk_for
  same-fuel zero g o h k = absurd (omega arith)
  same-fuel (suc f) zero o h k = absurd (omega arith)
  same-fuel (suc f) (suc g) o h k = go (item_at find s o) refl (same-fuel f g)
    where
      go :
          (x : Item) → item_at find s o ≡ x
          → ((e : ℕ) → length s - e < f → length s - e < g → walk_for f find s e ≡ walk_for g find s e)
          → after s x o (walk_for f find s) ≡ after s x o (walk_for g find s)
      go pad i same = let p = pad-start find s o i in same (o + 1) (omega arith) (omega arith)
      go (block a p b e) i same = let d = block-facts find s o i in rw (same e (omega arith) (omega arith))
      go (halt x) i same = refl

  pub walk-enough : (o f : ℕ) → length s - o < f → walk_for f find s o ≡ walk find s o
  unfolding walk
  walk-enough o f h = same-fuel f (suc (length s - o)) o h (omega arith)

  pub walk-pad : (o : ℕ) → item_at find s o ≡ pad → walk find s o ≡ walk find s (o + 1)
  unfolding walk walk_for
  walk-pad o i = let p = pad-start find s o i in rw i (walk-enough (o + 1) (length s - o) (omega arith))

  pub walk_block :
      (o : ℕ) {a p b e : ℕ} → item_at find s o ≡ block a p b e
      → walk find s o ≡ record { blocks = block_in s a p b e ∷ (walk find s e).blocks; ending = (walk find s e).ending }
  unfolding walk walk_for
  walk_block o {a} {p} {b} {e} i = let d = block-facts find s o i in rw (i, walk-enough e (length s - o) (omega arith))

  pub walk-halt : (o : ℕ) {x : Ending} → item_at find s o ≡ halt x → walk find s o ≡ record { blocks = []; ending = x }
  unfolding walk walk_for
  walk-halt o i = rw i

  -- pads may be passed over
  pub walk-pads : (o : ℕ) → walk find s (pads_end s o) ≡ walk find s o
  walk-pads o = go (pads s o)
    where
      go : {o : ℕ} → Pads s o → walk find s (pads_end s o) ≡ walk find s o
      go {o} (next h e p) = rw (pads-next s o h e) (go p ∙ sym (walk-pad o (at-pad find s o h e)))
      go {o} (other h n) = rw (pads-none s o h n)
      go {o} (past h) = rw (pads-past s o h)
