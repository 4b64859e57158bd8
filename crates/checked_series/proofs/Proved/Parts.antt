-- The parts of one piece: an entry can say each, and each stores within the piece (paper 02, C-20).
use Rattle.std.specs.Prelude.{◌≡◌, refl, false, List, [], ◌∷◌, ℕ, ◌+◌, ◌%◌, ◌≤◌, ◌<◌, length, take, drop}
use Rattle.std.proofs.Common.{arith, length-drop, length-take-le}
use Rattle.words.specs.Choice.{All}
use Rattle.words.specs.Range.{meets}
use Rattle.words.proofs.RangeLaws.{misses-apart, apart-misses, apart-part}
use Rattle.plan.specs.Plan.{Piece, put, fill, run, address_of}
use Rattle.plan.specs.Packable.{Sized, Packable}
use Rattle.plan.proofs.MeaningLaws.{Stores}
use Rattle.series.specs.Medium.{Misses}
use Rattle.aplx_check.specs.Parts.{size_of, first_part, rest_of, Part, Split, split_at, parts_of}
use Rattle.aplx_check.proofs.PartsLaws.{rest-none, rest-size, rest-rest}

-- ---- a part of a piece
-- n bytes of it, behind its first o
abbrev pub part_at : ℕ → ℕ → Piece → Piece
part_at o n p = first_part n (rest_of o p)

pub record PartAt (o n : ℕ) (p : Piece) : Type 0 where
  pub some : 0 < n
  pub whole : n % 32 ≡ 0
  pub inside : o + n ≤ size_of p
  pub low : address_of p + o < 4294967296
  pub whole_before : o % 32 ≡ 0

-- what is a part of the rest is one of the piece
pub rest_part : (p : Piece) → Stores p → (o n : ℕ) → o % 32 ≡ 0 → Part (address_of (rest_of o p)) (size_of (rest_of o p)) n → PartAt o n p
rest_part p s o n h k = record {
  some = k.some;
  whole = k.whole;
  inside = omega (arith, k.some, k.inside, rest-size o p);
  low = omega (arith, k.low, rest-address p s);
  whole_before = h;
}
  where
    rest-address : (p : Piece) → Stores p → address_of (rest_of o p) ≡ address_of p + o
    rest-address (put a d) s = refl
    rest-address (fill a l w) s = refl
    rest-address (run a) s = absurd s

-- what it is
pub record IsPart (o n : ℕ) (p : Piece) : Type 0 where
  pub storing : Stores (part_at o n p)
  pub address : address_of (part_at o n p) ≡ address_of p + o
  pub size : size_of (part_at o n p) ≡ n

part_length : (o n a : ℕ) (d : List ℕ) → PartAt o n (put a d) → length (take n (drop o d)) ≡ n
part_length o n a d t = length-take-le n (drop o d) (omega (arith, length-drop o d, t.inside))

pub is-part : (p : Piece) → Stores p → (o n : ℕ) → PartAt o n p → IsPart o n p
is-part (put a d) s o n t = record { storing = tt; address = refl; size = part_length o n a d t }
is-part (fill a l w) s o n t = record { storing = tt; address = refl; size = refl }
is-part (run a) s o n t = absurd s

-- ---- what holds of each part of a piece
module _ (P : Piece → Type 0) (p : Piece) (s : Stores p) (each : (o n : ℕ) → PartAt o n p → P (part_at o n p)) where
  all_from : (ns : List ℕ) (o : ℕ) → o % 32 ≡ 0 → Split (rest_of o p) ns → All P (split_at (rest_of o p) ns)
  all_from [] o h k = tt
  all_from (n ∷ ns) o h k =
      let t = rest_part p s o n h k.0 in
      let r = rest-rest n o p in
      (each o n t, rw r (all_from ns (o + n) (omega (arith, t.whole)) (rw r at k.1)))

  pub all-parts : (ns : List ℕ) → Split p ns → All P (split_at p ns)
  all-parts ns k = let e = rest-none p in rw e at (all_from ns 0 refl (rw e k))

-- ---- an entry can say it
part-sized : (p : Piece) (o n : ℕ) → Sized 1 (address_of p) (size_of p) → PartAt o n p → Sized 32 (address_of p + o) n
part-sized p o n g t = record {
  some = t.some;
  most = omega (arith, g.most, t.inside);
  whole = t.whole;
  aligned = omega (arith, g.aligned, t.whole_before);
  low = t.low;
}

pub piece-packable : (p : Piece) (ns : List ℕ) → Packable 1 p → Split p ns → All (Packable 32) (parts_of p ns)
piece-packable (put a d) ns g k =
    all-parts (Packable 32) (put a d) tt (λ o n t. rw (part_length o n a d t) (part-sized (put a d) o n g t)) ns k
piece-packable (fill a l w) ns g k =
    all-parts (Packable 32) (fill a l w) tt (λ o n t. (part-sized (fill a l w) o n g.0 t, g.1)) ns k
piece-packable (run a) ns g k = (g, tt)

-- ---- it stores within the piece
-- k addresses from x on
module _ (x k : ℕ) (some : 0 < k) where
  part-misses : (p : Piece) (o n : ℕ) → meets (address_of p) (size_of p) x k ≡ false → PartAt o n p → meets (address_of p + o) n x k ≡ false
  part-misses p o n z t =
      let f = misses-apart (address_of p) (size_of p) x k (omega (arith, t.some, t.inside)) some z in
      apart-misses _ _ _ _ (apart-part (address_of p + o) n x k f (omega arith) (omega (arith, t.inside)) (omega arith) (omega arith))

  pub piece-misses : (p : Piece) (ns : List ℕ) → Misses x k p → Split p ns → All (Misses x k) (parts_of p ns)
  piece-misses (put a d) ns z s =
      all-parts (Misses x k) (put a d) tt (λ o n t. rw (part_length o n a d t) (part-misses (put a d) o n z t)) ns s
  piece-misses (fill a l w) ns z s = all-parts (Misses x k) (fill a l w) tt (λ o n t. part-misses (fill a l w) o n z t) ns s
  piece-misses (run a) ns z s = (tt, tt)
