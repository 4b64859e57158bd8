-- Laws of the reader of plans, the other way: what passes the tests is read.
use Rattle.std.specs.Prelude.{◌≡◌, List, [], ◌∷◌, ℕ, suc, ◌+◌, ◌*◌, ◌%◌, ◌≤◌, length}
use Rattle.std.proofs.Math.Path.{refl, ap}
use Rattle.std.proofs.Common.{arith}
use borrow.Author.Tests.{le-ltb, eq-eqb, ne_eqb}
use Rattle.words.specs.declared.four.Four.{Four}
use Rattle.words.specs.Four.{four_at}
use Rattle.plan.specs.Plan.{Piece, count_of, table_of, data_at, data_length, Row, put_row, fill_row, run_row, piece_in, good, judge_run, judge_fill, judge_data, judge_put, judge_kind, judge_at, piece_at, pieces, read_pieces, judge_header, read_plan}
use Rattle.plan.specs.Packable.{Sized}
use Rattle.plan.proofs.PlanLaws.{Header}

module _ (unit : ℕ) (s : List ℕ) where
  -- ---- one piece
  -- the row of the piece with index i, by its four words
  pub piece-words :
      (i : ℕ) {k a n w : ℕ} → four_at s (table_of s + 16 * i) ≡ record { first = k; second = a; third = n; fourth = w } → piece_at unit s i ≡ judge_kind unit s k a n w
  unfolding piece_at judge_at
  piece-words i e = ap (λ (f : Four). judge_kind unit s f.first f.second f.third f.fourth) e

  pub put-good : (a n o : ℕ) → Sized unit a n → o + n ≤ data_length s → judge_kind unit s 1 a n o ≡ good (put_row a (data_at s + o) n)
  unfolding judge_kind judge_put judge_data
  put-good a n o g h =
      simp (
        ne_eqb n 0 (omega (arith, g.some)),
        le-ltb 65536 n g.most,
        eq-eqb (a % 4) 0 g.aligned,
        le-ltb (data_length s) (o + n) h,
        eq-eqb (n % unit) 0 g.whole,
      )

  pub fill-good : (a n w : ℕ) → Sized unit a n → judge_kind unit s 2 a n w ≡ good (fill_row a n w)
  unfolding judge_kind judge_fill
  fill-good a n w g =
      simp (
        ne_eqb n 0 (omega (arith, g.some)),
        le-ltb 65536 n g.most,
        eq-eqb (a % 4) 0 g.aligned,
        eq-eqb (n % unit) 0 g.whole,
      )

  pub run-good : (a : ℕ) → (a % 4 ≡ 2 → ⊥) → judge_kind unit s 3 a 0 0 ≡ good (run_row a)
  unfolding judge_kind judge_run
  run-good a g = simp (ne_eqb (a % 4) 2 g)

  -- ---- the pieces from index i on
  pub read_none : (i : ℕ) → read_pieces unit s 0 i ≡ pieces []
  unfolding read_pieces
  read_none i = refl

  pub read_more :
      (k i : ℕ) {row : Row} {ps : List Piece} → piece_at unit s i ≡ good row → read_pieces unit s k (suc i) ≡ pieces ps
      → read_pieces unit s (suc k) i ≡ pieces (piece_in s row ∷ ps)
  unfolding read_pieces
  read_more k i e f = rw (e, f)

  -- ---- the whole plan
  pub header_read : {ps : List Piece} → Header unit s ps → read_plan unit s ≡ pieces ps
  unfolding read_plan judge_header
  header_read h =
      rw (
        le-ltb (length s) 16 h.long,
        le-ltb 64 (count_of s) h.few,
        le-ltb (length s) (table_of s + 16 * count_of s) h.table,
        le-ltb (length s) (data_at s + data_length s) h.data-inside,
      )
      h.rest
