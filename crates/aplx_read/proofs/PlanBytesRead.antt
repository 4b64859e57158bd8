-- The plan that is written for pieces is read as these pieces.
use Rattle.std.specs.Prelude.{◌≡◌, refl}
use Rattle.std.proofs.Common.{ap, ◌∙◌, add-zero, drop_at, take_at}
use mathlib.Core.List.{List, [], ◌∷◌, ◌++◌, append_assoc}
use Prim.Native.Nat.{ℕ, suc, ◌+◌, ◌*◌, ◌≤◌}
use Rattle.std.proofs.Math.Nat.{add_assoc}
use native.Mathlib.Omega.{arith}
use Rattle.std.proofs.Math.ListN.{length, drop}
use Rattle.std.proofs.Math.Seq.{drop-drop}
use Rattle.words.specs.declared.four.Four.{Four}
use Rattle.words.specs.Choice.{All}
use Rattle.words.specs.Four.{four_bytes}
use Rattle.words.proofs.FourLaws.{length-four_bytes, four-here}
use Rattle.plan.specs.Plan.{Piece, put, fill, run, data_of, put_bytes, datas, count_of, table_of, data_at, data_length, Row, put_row, fill_row, run_row, piece_in, good, piece_at, pieces, read_pieces, read_plan}
use Rattle.plan.specs.Packable.{Packable}
use Rattle.plan.proofs.PlanAccepts.{piece-words, put-good, fill-good, run-good, read_none, read_more, header_read}
use Rattle.plan.proofs.PlanSums.{bytes_most}
use Rattle.aplx_read.specs.PlanBytes.{row_bytes, table, plan_bytes}
use Rattle.aplx_read.proofs.PlanBytesLaws.{length-row_bytes, length-table, length-plan_bytes}

module _ (unit : ℕ) (s : List ℕ) (short : data_length s ≤ 4294967295) where
  -- the row of the piece p with index i
  record RowOf (i : ℕ) (p : Piece) : Type 0 where
    row : Row
    is-good : piece_at unit s i ≡ good row
    is-piece : piece_in s row ≡ p

  -- where its bytes stand in the table, and its data behind that of earlier pieces
  row_read : (p : Piece) (i earlier : ℕ) (rest more : List ℕ) → Packable unit p → drop (table_of s + 16 * i) s ≡ row_bytes p earlier ++ rest
      → drop (data_at s + earlier) s ≡ data_of p ++ more → earlier + length (data_of p) ≤ data_length s → RowOf i p
  unfolding row_bytes
  row_read (put a d) i earlier rest more g e b h = record {
    row = put_row a (data_at s + earlier) (length d);
    is-good =
        piece-words unit s i (four-here s _ 1 a (length d) earlier rest e (omega arith) g.low (omega (arith, g.most)) (omega arith))
        ∙ put-good unit s a (length d) earlier g h;
    is-piece = rw b (ap (put a) (take_at d more (length d) refl));
  }
  row_read (fill a n w) i earlier rest more g e b h = record {
    row = fill_row a n w;
    is-good =
        piece-words unit s i (four-here s _ 2 a n w rest e (omega arith) g.0.low (omega (arith, g.0.most)) g.1) ∙ fill-good unit s a n w g.0;
    is-piece = refl;
  }
  row_read (run a) i earlier rest more g e b h = record {
    row = run_row a;
    is-good = piece-words unit s i (four-here s _ 3 a 0 0 rest e (omega arith) g.0 (omega arith) (omega arith)) ∙ run-good unit s a g.1;
    is-piece = refl;
  }

  -- the pieces from index i on
  table-read : (ps : List Piece) (i earlier : ℕ) (rest : List ℕ) → All (Packable unit) ps → drop (table_of s + 16 * i) s ≡ table earlier ps ++ rest
      → drop (data_at s + earlier) s ≡ datas ps → earlier + put_bytes ps ≤ data_length s → read_pieces unit s (length ps) i ≡ pieces ps
  unfolding table datas put_bytes
  table-read [] i earlier rest g e b h = read_none unit s i
  table-read (p ∷ ps) i earlier rest g e b h =
      let k = table_of s + 16 * i in
      let n = length (data_of p) in
      let others = table (earlier + n) ps ++ rest in
      let t : drop k s ≡ row_bytes p earlier ++ others = e ∙ append_assoc (row_bytes p earlier) (table (earlier + n) ps) rest in
      let u : table_of s + 16 * suc i ≡ k + 16 = omega arith in
      let v : drop (table_of s + 16 * suc i) s ≡ others = rw (u, ← drop-drop 16 k s, t) (drop_at (row_bytes p earlier) others 16 (length-row_bytes p earlier)) in
      let w : drop (data_at s + (earlier + n)) s ≡ datas ps = rw (← add_assoc (data_at s) earlier n, ← drop-drop n (data_at s + earlier) s, b) (drop_at (data_of p) (datas ps) n refl) in
      let r = row_read p i earlier others (datas ps) g.0 t b (omega arith) in
      rw r.is-piece at (read_more unit s (length ps) i r.is-good (table-read ps (suc i) (earlier + n) rest g.1 v w (omega arith)))

pub plan-read : (unit : ℕ) (ps : List Piece) → All (Packable unit) ps → length ps ≤ 64 → read_plan unit (plan_bytes ps) ≡ pieces ps
unfolding plan_bytes
plan-read unit ps g few =
    let s = plan_bytes ps in
    let n = length ps in
    let l = length-plan_bytes ps in
    let b = bytes_most unit ps g in
    let f = four-here s 0 n 16 (16 + 16 * n) (put_bytes ps) (table 0 ps ++ datas ps) refl (omega arith) (omega arith) (omega arith) (omega arith) in
    let count : count_of s ≡ n = ap (λ (w : Four). w.first) f in
    let at_table : table_of s ≡ 16 = ap (λ (w : Four). w.second) f in
    let at-data : data_at s ≡ 16 + 16 * n = ap (λ (w : Four). w.third) f in
    let data-length : data_length s ≡ put_bytes ps = ap (λ (w : Four). w.fourth) f in
    let x : drop 16 s ≡ table 0 ps ++ datas ps = drop_at (four_bytes n 16 (16 + 16 * n) (put_bytes ps)) (table 0 ps ++ datas ps) 16 (length-four_bytes n 16 (16 + 16 * n) (put_bytes ps)) in
    let y : drop (16 + 16 * n + 0) s ≡ datas ps = rw (add-zero (16 + 16 * n), ← drop-drop (16 * n) 16 s, x) (drop_at (table 0 ps) (datas ps) (16 * n) (length-table 0 ps)) in
    header_read unit s (record {
      long = omega arith;
      few = rw count few;
      table = rw (at_table, count) (omega arith);
      data-inside = rw (at-data, data-length) (omega arith);
      rest = rw count (table-read unit s (omega arith) ps 0 0 (datas ps) g (rw at_table x) (rw at-data y) (omega arith));
    })
