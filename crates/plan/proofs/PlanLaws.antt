-- Laws of the reader of plans: what a plan that was read is, and what its pieces are.
use Rattle.std.specs.Prelude.{◌≡◌, refl, false, not, ◌&&◌, List, ℕ, ◌+◌, ◌*◌, ◌%◌, ◌≤◌, ◌<◌, ltb, length, take, drop, get_or}
use Rattle.std.proofs.Common.{sym, zero-add, arith, length-drop, length-take-le}
use Rattle.std.proofs.Math.Dec.{eqb}
use borrow.Author.Tests.{ltb-false, eqb-true, eqb-false, not-false}
use Rattle.words.specs.Choice.{All}
use Rattle.words.proofs.ChoiceLaws.{from-else, from_either, all_take, all_drop}
use Rattle.words.specs.Bytes.{little_endian_at, Bytes}
use Rattle.words.proofs.BytesLaws.{little-at-below}
use Rattle.plan.specs.Plan.{Piece, data_of, count_of, table_of, data_at, data_length, Row, put_row, fill_row, run_row, piece_in, good, judge_run, judge_fill, judge_data, judge_put, judge_kind, judge_at, piece_at, Read, pieces, read_pieces, HeaderJudged, counts, fails, judge_header, headed, read_plan}
use Rattle.plan.specs.Packable.{Sized, Packable}
use Rattle.plan.proofs.PlanSteps.{refused-no-pieces, bad-no-good, pieces-count, pieces-each, RowAt, pieces-at}

-- ---- a header that passes its tests
fails-no-counts : {n k : ℕ} → fails n ≡ counts k → ⊥
fails-no-counts e = let z : ◌≡◌ {A = ℕ} 0 1 = cc in omega arith

pub record HeaderPassed (s : List ℕ) (k : ℕ) : Type 0 where
  pub long : 16 ≤ length s
  pub few : count_of s ≤ 64
  pub table : table_of s + 16 * count_of s ≤ length s
  pub data-inside : data_at s + data_length s ≤ length s
  pub count : count_of s ≡ k

pub header-passed : (s : List ℕ) {k : ℕ} → judge_header s ≡ counts k → HeaderPassed s k
unfolding judge_header
header-passed s e =
    let p = from-else (ltb (length s) 16) fails-no-counts e in
    let q = from-else (ltb 64 (count_of s)) fails-no-counts p.1 in
    let t = from-else (ltb (length s) (table_of s + 16 * count_of s)) fails-no-counts q.1 in
    let d = from-else (ltb (length s) (data_at s + data_length s)) fails-no-counts t.1 in
    record {
      long = ltb-false _ _ p.0;
      few = ltb-false _ _ q.0;
      table = ltb-false _ _ t.0;
      data-inside = ltb-false _ _ d.0;
      count = cc d.1;
    }

-- the pieces are read behind it
pub headed-pieces : (s : List ℕ) (r : ℕ → Read) {ps : List Piece} → headed (judge_header s) r ≡ pieces ps → HeaderPassed s (count_of s) × (r (count_of s) ≡ pieces ps)
headed-pieces s r {ps} e = go (judge_header s) refl e
  where
    go : (h : HeaderJudged) → judge_header s ≡ h → headed h r ≡ pieces ps → HeaderPassed s (count_of s) × (r (count_of s) ≡ pieces ps)
    go (counts k) f e = let p = header-passed s f in (rw (← p.count) at p, rw (← p.count) at e)
    go (fails n) f e = absurd (refused-no-pieces e)

-- ---- a plan that was read
pub record Header (unit : ℕ) (s : List ℕ) (ps : List Piece) : Type 0 where
  pub long : 16 ≤ length s
  pub few : count_of s ≤ 64
  pub table : table_of s + 16 * count_of s ≤ length s
  pub data-inside : data_at s + data_length s ≤ length s
  pub rest : read_pieces unit s (count_of s) 0 ≡ pieces ps

module _ (unit : ℕ) (s : List ℕ) {ps : List Piece} (e : read_plan unit s ≡ pieces ps) where
  pub read-header : Header unit s ps
  unfolding read_plan
  read-header =
      let p = headed-pieces s (λ k. read_pieces unit s k 0) e in
      let h = p.0 in
      record { long = h.long; few = h.few; table = h.table; data-inside = h.data-inside; rest = p.1 }

  pub read_count : length ps ≡ count_of s
  read_count = pieces-count unit s (count_of s) 0 read-header.rest

  pub read-piece : (i : ℕ) → i < length ps → (d : Piece) → RowAt unit s i (get_or ps i d)
  read-piece i h d = rw zero-add at (pieces-at unit s (count_of s) 0 read-header.rest i h d)

-- ---- what a row that passed the tests is
-- the data of a put ends at an offset or before it
abbrev pub Passed : ℕ → ℕ → Row → Type 0
Passed unit end (put_row a o n) = Sized unit a n × (o + n ≤ end)
Passed unit end (fill_row a n w) = Sized unit a n × (w < 4294967296)
Passed unit end (run_row a) = (a < 4294967296) × (a % 4 ≡ 2 → ⊥)

-- what the tests show of an address and a length
pub sized : (unit a n : ℕ) → a < 4294967296 → eqb n 0 ≡ false → ltb 65536 n ≡ false → not (eqb (a % 4) 0) ≡ false → not (eqb (n % unit) 0) ≡ false
    → Sized unit a n
sized unit a n low e f g h = record {
  some = omega (arith, eqb-false n 0 e);
  most = ltb-false _ _ f;
  whole = eqb-true _ _ (not-false _ h);
  aligned = eqb-true _ _ (not-false _ g);
  low = low;
}

-- what they show of the words a, n and w that follow a piece's kind
module _ (unit : ℕ) (s : List ℕ) (a n w : ℕ) (low : a < 4294967296) where
  run-passed : {row : Row} → judge_run a n w ≡ good row → Passed unit (data_at s + data_length s) row
  unfolding judge_run
  run-passed {row} e =
      let x = from-else (not (eqb n 0 && eqb w 0)) bad-no-good e in
      let y = from-else (eqb (a % 4) 2) bad-no-good x.1 in
      let z : run_row a ≡ row = cc y.1 in
      rw (sym z) (low, eqb-false _ _ y.0)

  fill-passed : {row : Row} → w < 4294967296 → judge_fill unit a n w ≡ good row → Passed unit (data_at s + data_length s) row
  unfolding judge_fill
  fill-passed {row} h e =
      let t = from-else (eqb n 0) bad-no-good e in
      let u = from-else (ltb 65536 n) bad-no-good t.1 in
      let x = from-else (not (eqb (a % 4) 0)) bad-no-good u.1 in
      let y = from-else (not (eqb (n % unit) 0)) bad-no-good x.1 in
      let z : fill_row a n w ≡ row = cc y.1 in
      rw (sym z) (sized unit a n low t.0 u.0 x.0 y.0, h)

  put-passed : {row : Row} → judge_put unit s a n w ≡ good row → Passed unit (data_at s + data_length s) row
  unfolding judge_put judge_data
  put-passed {row} e =
      let t = from-else (eqb n 0) bad-no-good e in
      let u = from-else (ltb 65536 n) bad-no-good t.1 in
      let x = from-else (not (eqb (a % 4) 0)) bad-no-good u.1 in
      let i = from-else (ltb (data_length s) (w + n)) bad-no-good x.1 in
      let y = from-else (not (eqb (n % unit) 0)) bad-no-good i.1 in
      let l : w + n ≤ data_length s = ltb-false _ _ i.0 in
      let z : put_row a (data_at s + w) n ≡ row = cc y.1 in
      rw (sym z) (sized unit a n low t.0 u.0 x.0 y.0, omega arith)

pub row-passed : (unit : ℕ) (s : List ℕ) → Bytes s → (i : ℕ) {row : Row} → piece_at unit s i ≡ good row → Passed unit (data_at s + data_length s) row
unfolding piece_at judge_at judge_kind
row-passed unit s b i =
    let o = table_of s + 16 * i in
    let k = little_endian_at 4 s o in
    let a = little_endian_at 4 s (o + 4) in
    let n = little_endian_at 4 s (o + 8) in
    let w = little_endian_at 4 s (o + 12) in
    let low = little-at-below 4 (o + 4) s b in
    from_either (eqb k 1) (put-passed unit s a n w low)
    (from_either (eqb k 2) (fill-passed unit s a n w low (little-at-below 4 (o + 12) s b))
    (from_either (eqb k 3) (run-passed unit s a n w low) (λ e. absurd (bad-no-good e))))

-- ---- what an accepted piece is
-- the data of a put within the plan is as long as it says
pub data-length : (s : List ℕ) (o n : ℕ) → o + n ≤ length s → length (take n (drop o s)) ≡ n
data-length s o n h = length-take-le n (drop o s) (rw length-drop (omega arith))

module _ (unit : ℕ) (s : List ℕ) where
  pub row-packable : {end : ℕ} → end ≤ length s → (row : Row) → Passed unit end row → Packable unit (piece_in s row)
  row-packable h (put_row a o n) g = rw (data-length s o n (omega arith)) g.0
  row-packable h (fill_row a n w) g = g
  row-packable h (run_row a) g = g

  pub packable : Bytes s → {ps : List Piece} → read_plan unit s ≡ pieces ps → All (Packable unit) ps
  packable b e =
      let h = read-header unit s e in
      pieces-each unit s (Packable unit) (λ i row g. row-packable h.data-inside row (row-passed unit s b i g)) (count_of s) 0 h.rest

  -- its data are bytes
  row-bytes : Bytes s → (row : Row) → Bytes (data_of (piece_in s row))
  row-bytes b (put_row a o n) = all_take _ n (drop o s) (all_drop _ o s b)
  row-bytes b (fill_row a n w) = tt
  row-bytes b (run_row a) = tt

  pub read-bytes : Bytes s → {ps : List Piece} → read_plan unit s ≡ pieces ps → All (λ p. Bytes (data_of p)) ps
  read-bytes b e = pieces-each unit s (λ p. Bytes (data_of p)) (λ i row g. row-bytes b row) (count_of s) 0 (read-header unit s e).rest
