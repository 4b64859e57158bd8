-- A map's table is a table of that map, so that the table after an addition is one of the map that the addition gives.
use Rattle.std.specs.Prelude.{◌≡◌, Bool, List, [], ◌∷◌, ◌++◌, ℕ, zero, suc, ◌+◌, ◌*◌, ◌^◌, ◌≤◌, ◌<◌}
use Rattle.std.proofs.Math.Path.{refl, ap}
use Rattle.std.proofs.Common.{sym, ◌∙◌, append_assoc, arith, length-append, le-ltb}
use Rattle.std.proofs.Math.Bool.{true, false}
use Rattle.std.proofs.Math.Dec.{ltb}
use Rattle.std.proofs.Math.ListN.{length}
use Rattle.words.specs.Choice.{All}
use Rattle.words.specs.Bytes.{little_endian, little_endian_at, Bytes}
use Rattle.words.proofs.BytesLaws.{length-little_endian, little-at-below, little-at-front}
use Rattle.words.specs.declared.four.Four.{Four}
use Rattle.words.specs.Four.{four_at}
use Rattle.words.proofs.FourLaws.{length-four_bytes, four-at-behind}
use Rattle.memory_region.specs.declared.region.Rights.{Rights}
use Rattle.memory_region.specs.declared.region.Region.{Region}
use Rattle.memory_map.specs.declared.map.Map.{Map}
use Rattle.memory_map.specs.Map.{Verdict, taken, refused, add}
use Rattle.memory_map.proofs.MapAdded.{taken-few, refused-same, added-length, added-all}
use Rattle.map_table.specs.Table.{bit_of, rights_of, region_of, region_in, regions_in, count_in, map_of, rights_number, region_bytes, regions_bytes, table_of, rights_known, addition, table_after}
use Rattle.map_table.proofs.TableLaws.{map-of-table, by-rights, taken-regular, after-taken, after-refused}

-- ---- lengths
pub length-region_bytes : (g : Region) → length (region_bytes g) ≡ 16
unfolding region_bytes
length-region_bytes g = simp length-four_bytes

pub length-regions_bytes : (gs : List Region) → length (regions_bytes gs) ≡ 16 * length gs
unfolding regions_bytes
length-regions_bytes [] = refl
length-regions_bytes (g ∷ gs) = simp (length-append, length-region_bytes, length-regions_bytes gs) (omega arith)

pub length-table_of : (m : Map) → length m.regions ≡ 8 → length (table_of m) ≡ 132
unfolding table_of
length-table_of m h = simp (length-append, length-little_endian, length-regions_bytes, h)

-- ---- rights and regions, written and read
rights-written : (r : Rights) → rights_of (rights_number r) ≡ r
unfolding rights_of rights_number
rights-written r = go r.read r.write r.run
  where
    go : (a b c : Bool) → rights_of (bit_of a 1 + bit_of b 2 + bit_of c 4) ≡ record { read = a; write = b; run = c }
    go false false false = refl
    go false false true = refl
    go false true false = refl
    go false true true = refl
    go true false false = refl
    go true false true = refl
    go true true false = refl
    go true true true = refl

pub bit_below : (b : Bool) (n : ℕ) → bit_of b n ≤ n
bit_below true n = omega arith
bit_below false n = omega arith

rights-below : (r : Rights) → rights_number r ≤ 7
unfolding rights_number
rights-below r = omega (arith, bit_below r.read 1, bit_below r.write 2, bit_below r.run 4)

-- numbers that fit a word each
pub record Words (g : Region) : Type 0 where
  pub base : g.base < 256 ^ 4
  pub length : g.length < 256 ^ 4
  pub place : g.place < 256 ^ 4

-- a region behind x
module _ (x : List ℕ) (g : Region) (s : List ℕ) (h : Words g) where
  four-written : four_at (x ++ (region_bytes g ++ s)) (length x) ≡ record { first = g.base; second = g.length; third = g.place; fourth = rights_number g.rights }
  unfolding region_bytes
  four-written =
      let below : rights_number g.rights < 256 ^ 4 = omega (arith, rights-below g.rights) in
      four-at-behind x g.base g.length g.place (rights_number g.rights) s h.base h.length h.place below

  region-written : region_in (x ++ (region_bytes g ++ s)) (length x) ≡ g
  unfolding region_in region_of
  region-written = ap (λ (w : Four). region_of w.first w.second w.third w.fourth) four-written ∙ rw (rights-written g.rights)

  word-written : little_endian_at 4 (x ++ (region_bytes g ++ s)) (length x + 12) ≡ rights_number g.rights
  word-written = ap (λ (w : Four). w.fourth) four-written

regions-written : (x : List ℕ) (gs : List Region) → All Words gs → regions_in (length gs) (x ++ regions_bytes gs) (length x) ≡ gs
unfolding regions_in regions_bytes
regions-written x [] h = refl
regions-written x (g ∷ gs) h =
    let l : length (x ++ region_bytes g) ≡ length x + 16 = length-append x (region_bytes g) ∙ omega (arith, length-region_bytes g) in
    let e = regions-written (x ++ region_bytes g) gs h.1 in
    rw (region-written x g (regions_bytes gs) h.0) (ap (λ (t : List Region). g ∷ t) (rw (l, append_assoc) at e))

-- the first k of them have known rights
rights-known : (x : List ℕ) (gs : List Region) → All Words gs → (k : ℕ) → k ≤ length gs → rights_known k (x ++ regions_bytes gs) (length x) ≡ true
unfolding rights_known regions_bytes
rights-known x gs h zero l = refl
rights-known x [] h (suc k) l = absurd (omega arith)
rights-known x (g ∷ gs) h (suc k) l =
    let n : length (x ++ region_bytes g) ≡ length x + 16 = length-append x (region_bytes g) ∙ omega (arith, length-region_bytes g) in
    let e = rights-known (x ++ region_bytes g) gs h.1 k (omega arith) in
    rw (word-written x g (regions_bytes gs) h.0, le-ltb 7 (rights_number g.rights) (rights-below g.rights)) (rw (n, append_assoc) at e)

-- ---- the table of a map
-- a map of eight regions whose numbers fit a word each
pub record Held (m : Map) : Type 0 where
  pub eight : length m.regions ≡ 8
  pub few : m.count ≤ 8
  pub words : All Words m.regions

pub table-written : (m : Map) → Held m → map_of (table_of m) ≡ m
unfolding table_of
table-written m h =
    let n = little_endian 4 m.count in
    let l = length-little_endian 4 m.count in
    let count : count_in (table_of m) ≡ m.count = little-at-front 4 m.count (regions_bytes m.regions) (omega (arith, h.few)) in
    let regions : regions_in 8 (table_of m) 4 ≡ m.regions = rw (h.eight, l) at (regions-written n m.regions h.words) in
    let known : rights_known m.count (table_of m) 4 ≡ true =
    rw l at (rights-known n m.regions h.words m.count (omega (arith, h.few, h.eight))) in
    let same : rights_known (count_in (table_of m)) (table_of m) 4 ≡ true = rw count known in
    let whole = by-rights (table_of m) (length-table_of m h.eight) (omega (arith, h.few)) ∙ same in
    map-of-table (table_of m) whole ∙ (λ i. record { regions = regions i; count = count i })

-- ---- the table after an addition
-- a table of bytes is one of numbers that fit a word each
regions-in-words : (k : ℕ) (t : List ℕ) (p : ℕ) → Bytes t → All Words (regions_in k t p)
unfolding regions_in region_in region_of
regions-in-words zero t p h = tt
regions-in-words (suc k) t p h =
    (record { base = little-at-below 4 p t h; length = little-at-below 4 (p + 4) t h; place = little-at-below 4 (p + 8) t h }, regions-in-words k t (p + 16) h)

length-regions_in : (k : ℕ) (t : List ℕ) (p : ℕ) → length (regions_in k t p) ≡ k
unfolding regions_in
length-regions_in zero t p = refl
length-regions_in (suc k) t p = ap suc (length-regions_in k t (p + 16))

module _ (t : List ℕ) (g : Region) (bytes : Bytes t) (words : Words g) where
  taken-held : (add (map_of t) g).verdict ≡ taken → Held (add (map_of t) g).map
  taken-held e =
      let m = map-of-table t (taken-regular t g e) in
      record {
        eight = added-length (map_of t) g ∙ ap (λ (x : Map). length x.regions) m ∙ length-regions_in 8 t 4;
        few = taken-few (map_of t) g e;
        words = added-all (map_of t) g Words (rw m (regions-in-words 8 t 4 bytes)) words;
      }

  after-add : map_of (table_after t (add (map_of t) g)) ≡ (add (map_of t) g).map
  after-add = go (add (map_of t) g).verdict refl
    where
      go : (v : Verdict) → (add (map_of t) g).verdict ≡ v → map_of (table_after t (add (map_of t) g)) ≡ (add (map_of t) g).map
      go taken e = rw (after-taken t (add (map_of t) g) e) (table-written (add (map_of t) g).map (taken-held e))
      go (refused n p) e = rw (after-refused t (add (map_of t) g) n p e) (sym (refused-same (map_of t) g n p e))

-- after every addition, taken or refused, the table is a table of the map that the addition gives
module _ (t : List ℕ) (b n p w : ℕ) (bytes : Bytes t) (base : b < 256 ^ 4) (length : n < 256 ^ 4) (place : p < 256 ^ 4) where
  pub table-after : map_of (table_after t (addition t b n p w)) ≡ (addition t b n p w).map
  unfolding addition table_after region_of
  table-after = go (ltb 7 w) refl
    where
      go : (x : Bool) → ltb 7 w ≡ x → map_of (table_after t (addition t b n p w)) ≡ (addition t b n p w).map
      go true e = rw e refl
      go false e = rw e (after-add t (region_of b n p w) bytes (record { base = base; length = length; place = place }))
