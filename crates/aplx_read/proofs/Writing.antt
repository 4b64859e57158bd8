-- What the loop that writes a plan rests on: the row of the piece that the code reads, and that the header, all rows and the data are the
-- plan.
use mathlib.Core.Path.{◌≡◌, ap, sym, ◌∙◌}
use mathlib.Core.List.{List, ◌++◌, append_assoc, append-nil}
use Prim.Native.Nat.{ℕ, suc, ◌+◌, ◌*◌, ◌≤◌}
use native.Mathlib.Omega.{arith}
use lib.ListN.{length, take, drop, length-append}
use lib.Seq.{length-take-le, take-add, take_at, take_all, take-length}
use Rattle.words.specs.Four.{four_bytes}
use Rattle.words.proofs.FourLaws.{length-four_bytes}
use Rattle.words.specs.Store.{store}
use Rattle.words.proofs.StoreLaws.{length-store, store-adjoining, store-over, store-nil}
use Rattle.plan.specs.declared.piece.Piece as CodePiece
use Rattle.plan.specs.Plan.{Piece, data_of, put_bytes, datas}
use Rattle.plan.proofs.PlanDatas.{length-datas}
use Rattle.plan.specs.Code.{piece_is}
use Rattle.plan.proofs.CodeLaws.{Found}
use Rattle.plan.proofs.CodeRows.{data_start, earlier, Written}
use Rattle.aplx_read.specs.PlanBytes.{row_bytes, table, plan_bytes}
use Rattle.aplx_read.proofs.PlanBytesLaws.{length-row_bytes, length-table, length-plan_bytes, drop-table}

-- the header
abbrev pub header : List Piece → List ℕ
header ps = four_bytes (length ps) 16 (16 + 16 * length ps) (put_bytes ps)

pub header_is : (ps : List Piece) {count puts : ℕ} → count ≡ length ps → puts ≡ put_bytes ps → four_bytes count 16 (16 * (count + 1)) puts ≡ header ps
header_is ps {count} e f = let z : 16 * (length ps + 1) ≡ 16 + 16 * length ps = omega arith in rw (e, f, z)

-- the header, and the rows before piece i
abbrev pub front : List Piece → ℕ → List ℕ
front ps i = header ps ++ take (16 * i) (table 0 ps)

pub length_front : (ps : List Piece) (i : ℕ) → i ≤ length ps → length (front ps i) ≡ 16 * (i + 1)
length_front ps i h =
    let l = length-take-le (16 * i) (table 0 ps) (omega (arith, length-table 0 ps)) in
    rw (length-append, length-four_bytes, l) (omega arith)

-- the next piece
pub front-through : {s : List ℕ} {ps : List Piece} {i : ℕ} {p : CodePiece.Piece} → Found 32 s ps i p → (offset : ℕ) → offset ≡ earlier ps i → i ≤ length ps
    → front ps (i + 1) ≡ front ps i ++ row_bytes (piece_is s p) offset
unfolding table
front-through {s} {ps} {i} {p} f offset h l =
    let k = earlier ps i in
    let qs = drop (suc i) ps in
    let z : 16 * (i + 1) ≡ 16 * i + 16 = omega arith in
    let o : 0 + k ≡ offset = omega arith in
    let row = take_at (row_bytes (piece_is s p) offset) (table (offset + length (data_of (piece_is s p))) qs) 16 (length-row_bytes (piece_is s p) offset) in
    rw (append_assoc (header ps) (take (16 * i) (table 0 ps)) (row_bytes (piece_is s p) offset), z, take-add (16 * i) 16 (table 0 ps), drop-table ps i 0 l, f.from, o)
    (ap (λ (x : List ℕ). header ps ++ (take (16 * i) (table 0 ps) ++ x)) row)

-- the place behind the data
pub plan-end : (ps : List Piece) → length (plan_bytes ps) ≡ data_start ps + put_bytes ps
plan-end ps = omega (arith, length-plan_bytes ps)

-- b is m with the header at its front
module _ (ps : List Piece) (m b : List ℕ) (fits : length (plan_bytes ps) ≤ length m) (e : b ≡ store m 0 (header ps)) where
  header-short : length (header ps) ≡ 16
  header-short = length-four_bytes (length ps) 16 (16 + 16 * length ps) (put_bytes ps)

  header-fits : 0 + length (header ps) ≤ length m
  header-fits = omega (arith, header-short, plan-end ps)

  pub length-begun : length b ≡ length m
  length-begun = ap length e ∙ length-store m 0 (header ps) header-fits

  -- no row and no data
  pub written_none : Written ps (front ps) b b 0
  unfolding datas
  written_none =
      simp (append-nil, store-nil) (rw e (sym (store-over m 0 (header ps) header-fits 0 (header ps) (omega arith) (omega arith))))

  -- the header, all rows and the data are the plan
  pub written_all : (out : List ℕ) → Written ps (front ps) b out (length ps) → out ≡ store m 0 (plan_bytes ps)
  unfolding plan_bytes
  written_all out w =
      let t : take (16 * length ps) (table 0 ps) ≡ table 0 ps = take_all (16 * length ps) (table 0 ps) (omega (arith, length-table 0 ps)) in
      let l : length (header ps ++ table 0 ps) ≡ data_start ps = rw (length-append, length-four_bytes, length-table) (omega arith) in
      let k : data_start ps ≡ 0 + length (header ps ++ table 0 ps) = omega arith in
      let d = length-datas ps in
      let n = length-begun in
      let whole : out ≡ store b 0 (plan_bytes ps) =
      rw (w, take-length ps, t, k, store-adjoining b 0 (header ps ++ table 0 ps) (omega (arith, plan-end ps)) (datas ps), append_assoc) in
      whole ∙ rw e (store-over m 0 (header ps) header-fits 0 (plan_bytes ps) (omega arith) (omega (arith, header-short, plan-end ps)))
