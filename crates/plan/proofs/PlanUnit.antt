-- A plan that is read with a unit is read with a unit of 1, which tests no length, and its pieces are the same.
use Rattle.std.specs.Prelude.{◌≡◌, Bool, true, false, not, List, ltb, eqb, if◌then◌else◌}
use Rattle.std.proofs.Common.{ap, sym, arith, eq-eqb}
use Prim.Native.Nat.{ℕ, zero, suc, ◌+◌, ◌*◌, ◌%◌}
use Rattle.words.specs.Bytes.{little_endian_at}
use Rattle.plan.specs.Plan.{Piece, count_of, table_of, data_length, Row, Judged, good, bad, judge_fill, judge_data, judge_put, judge_kind, judge_at, piece_at, pieces, read_pieces, read_plan}
use Rattle.plan.proofs.PlanSteps.{bad-no-good, first_read}
use Rattle.plan.proofs.PlanLaws.{read-header}
use Rattle.plan.proofs.PlanAccepts.{header_read}

-- ---- one piece
module _ {row : Row} where
  -- a test that is passed, before others
  behind : (t : Bool) (n : ℕ) {x y : Judged} → (x ≡ good row → y ≡ good row) → (if t then bad n else x) ≡ good row → (if t then bad n else y) ≡ good row
  behind true n f e = absurd (bad-no-good e)
  behind false n f e = f e

  -- a choice between kinds
  either : (t : Bool) {x y u v : Judged} → (x ≡ good row → u ≡ good row) → (y ≡ good row → v ≡ good row)
      → (if t then x else y) ≡ good row → (if t then u else v) ≡ good row
  either true f g e = f e
  either false f g e = g e

  whole : (unit n : ℕ) (x : Judged) → (if not (eqb (n % unit) 0) then bad 12 else x) ≡ good row → (if not (eqb (n % 1) 0) then bad 12 else x) ≡ good row
  whole unit n x e = rw (eq-eqb (n % 1) 0 (omega arith)) (last (not (eqb (n % unit) 0)) e)
    where
      last : (t : Bool) → (if t then bad 12 else x) ≡ good row → x ≡ good row
      last true e = absurd (bad-no-good e)
      last false e = e

  module _ (unit : ℕ) (s : List ℕ) where
    fill_one : (a n w : ℕ) → judge_fill unit a n w ≡ good row → judge_fill 1 a n w ≡ good row
    unfolding judge_fill
    fill_one a n w = behind (eqb n 0) 5 (behind (ltb 65536 n) 11 (behind (not (eqb (a % 4) 0)) 3 (whole unit n _)))

    put_one : (a n w : ℕ) → judge_put unit s a n w ≡ good row → judge_put 1 s a n w ≡ good row
    unfolding judge_put judge_data
    put_one a n w =
        behind (eqb n 0) 5 (behind (ltb 65536 n) 11 (behind (not (eqb (a % 4) 0)) 3 (behind (ltb (data_length s) (w + n)) 2 (whole unit n _))))

    kind-one : (k a n w : ℕ) → judge_kind unit s k a n w ≡ good row → judge_kind 1 s k a n w ≡ good row
    unfolding judge_kind
    kind-one k a n w = either (eqb k 1) (put_one a n w) (either (eqb k 2) (fill_one a n w) (λ e. e))

    piece-one : (i : ℕ) → piece_at unit s i ≡ good row → piece_at 1 s i ≡ good row
    unfolding piece_at judge_at
    piece-one i = let o = table_of s + 16 * i in kind-one (little_endian_at 4 s o) (little_endian_at 4 s (o + 4)) (little_endian_at 4 s (o + 8)) (little_endian_at 4 s (o + 12))

-- ---- the whole plan
module _ (unit : ℕ) (s : List ℕ) where
  pieces-one : (k i : ℕ) {ps : List Piece} → read_pieces unit s k i ≡ pieces ps → read_pieces 1 s k i ≡ pieces ps
  unfolding read_pieces
  pieces-one zero i e = e
  pieces-one (suc k) i e =
      let f = first_read unit s k i e in
      rw (piece-one unit s i f.is-good, pieces-one k (suc i) f.is_read) (ap pieces (sym f.whole))

  pub read_one : {ps : List Piece} → read_plan unit s ≡ pieces ps → read_plan 1 s ≡ pieces ps
  read_one e =
      let h = read-header unit s e in
      header_read 1 s
      (record { long = h.long; few = h.few; table = h.table; data-inside = h.data-inside; rest = pieces-one (count_of s) 0 h.rest })
